-- MixColumns is linear, and undone by InvMixColumns, and the reverse. Assumes nothing.
use Rattle.std.specs.Prelude.{◌≡◌, ℕ, bit_xor}
use Rattle.std.proofs.Common.{ap, ap₂, ◌∙◌}
use Rattle.std.specs.Int.Bits.{xor_assoc}
use Rattle.std.proofs.lemmas.Nat.{xor_comm}
use Rattle.block.specs.WidthLemmas.{xors, xor_left_comm}
use Rattle.aes.specs.Field.{product, times, xtime}
use Rattle.aes.specs.State.{Column, State, column, columns, every}
use Rattle.aes.specs.Cipher.{row, matrix, mix_column, inv_mix_column, mix_columns, inv_mix_columns, plus, add_round_key}
use Rattle.aes.specs.FieldLemmas.{linear, xor_around, product_xor}

-- ---- linear

pairs : (a b c d e f g h : ℕ)
    → bit_xor (bit_xor a b) (bit_xor (bit_xor c d) (bit_xor (bit_xor e f) (bit_xor g h)))
    ≡ bit_xor (bit_xor a (bit_xor c (bit_xor e g))) (bit_xor b (bit_xor d (bit_xor f h)))
pairs a b c d e f g h = simp (xor_assoc, xor_left_comm)

module _ (p q r s : ℕ) where
  row_plus : (w x y z w' x' y' z' : ℕ) → row p q r s (bit_xor w w') (bit_xor x x') (bit_xor y y') (bit_xor z z') ≡ bit_xor (row p q r s w x y z) (row p q r s w' x' y' z')
  row_plus w x y z w' x' y' z' =
      ap₂ bit_xor (product_xor 8 p w w') (ap₂ bit_xor (product_xor 8 q x x') (ap₂ bit_xor (product_xor 8 r y y') (product_xor 8 s z z')))
      ∙ pairs (times p w) (times p w') (times q x) (times q x') (times r y) (times r y') (times s z) (times s z')

  pub matrix_plus : (j k : Column) → matrix p q r s (plus j k) ≡ plus (matrix p q r s j) (matrix p q r s k)
  matrix_plus j k =
      let u = row_plus in
      λ i. column (u j.s0 j.s1 j.s2 j.s3 k.s0 k.s1 k.s2 k.s3 i) (u j.s1 j.s2 j.s3 j.s0 k.s1 k.s2 k.s3 k.s0 i)
      (u j.s2 j.s3 j.s0 j.s1 k.s2 k.s3 k.s0 k.s1 i) (u j.s3 j.s0 j.s1 j.s2 k.s3 k.s0 k.s1 k.s2 i)

pub inv_mix_plus : (x k : State) → inv_mix_columns (add_round_key x k) ≡ add_round_key (inv_mix_columns x) (inv_mix_columns k)
unfolding inv_mix_columns
inv_mix_plus x k =
    let u = matrix_plus 14 11 13 9 in
    λ i. columns (u x.c0 k.c0 i) (u x.c1 k.c1 i) (u x.c2 k.c2 i) (u x.c3 k.c3 i)

-- ---- undone

spread : (p a b c d : ℕ) → product 8 p (bit_xor a (bit_xor b (bit_xor c d))) ≡ bit_xor (product 8 p a) (bit_xor (product 8 p b) (bit_xor (product 8 p c) (product 8 p d)))
spread p a b c d =
    product_xor 8 p a (bit_xor b (bit_xor c d))
    ∙ ap (bit_xor (product 8 p a)) (product_xor 8 p b (bit_xor c d) ∙ ap (bit_xor (product 8 p b)) (product_xor 8 p c d))

-- four rows of four, by their columns
turned : (a b c d e f g h i j k l m n o p : ℕ)
    → bit_xor (bit_xor a (bit_xor b (bit_xor c d))) (bit_xor (bit_xor e (bit_xor f (bit_xor g h))) (bit_xor (bit_xor i (bit_xor j (bit_xor k l))) (bit_xor m (bit_xor n (bit_xor o p)))))
    ≡ bit_xor (bit_xor a (bit_xor h (bit_xor k n))) (bit_xor (bit_xor b (bit_xor e (bit_xor l o))) (bit_xor (bit_xor c (bit_xor f (bit_xor i p))) (bit_xor d (bit_xor g (bit_xor j m)))))
turned a b c d e f g h i j k l m n o p = simp (xor_assoc, xor_comm, xor_left_comm)

-- a matrix after another is the identity where the four sums of products of their rows are 1, 0, 0 and 0
module _ (p q r s p' q' r' s' : ℕ)
    (one : (w : ℕ) → bit_xor (times p (times p' w)) (bit_xor (times q (times s' w)) (bit_xor (times r (times r' w)) (times s (times q' w)))) ≡ w)
    (no₁ : (w : ℕ) → bit_xor (times p (times q' w)) (bit_xor (times q (times p' w)) (bit_xor (times r (times s' w)) (times s (times r' w)))) ≡ 0)
    (no₂ : (w : ℕ) → bit_xor (times p (times r' w)) (bit_xor (times q (times q' w)) (bit_xor (times r (times p' w)) (times s (times s' w)))) ≡ 0)
    (no₃ : (w : ℕ) → bit_xor (times p (times s' w)) (bit_xor (times q (times r' w)) (bit_xor (times r (times q' w)) (times s (times p' w)))) ≡ 0) where
  row_undone : (w x y z : ℕ) → row p q r s (row p' q' r' s' w x y z) (row p' q' r' s' x y z w) (row p' q' r' s' y z w x) (row p' q' r' s' z w x y) ≡ w
  row_undone w x y z =
      ap₂ bit_xor (spread p (times p' w) (times q' x) (times r' y) (times s' z))
      (ap₂ bit_xor (spread q (times p' x) (times q' y) (times r' z) (times s' w))
      (ap₂ bit_xor (spread r (times p' y) (times q' z) (times r' w) (times s' x)) (spread s (times p' z) (times q' w) (times r' x) (times s' y))))
      ∙ turned (times p (times p' w)) (times p (times q' x)) (times p (times r' y)) (times p (times s' z))
      (times q (times p' x)) (times q (times q' y)) (times q (times r' z)) (times q (times s' w))
      (times r (times p' y)) (times r (times q' z)) (times r (times r' w)) (times r (times s' x))
      (times s (times p' z)) (times s (times q' w)) (times s (times r' x)) (times s (times s' y))
      ∙ ap₂ bit_xor (one w) (ap₂ bit_xor (no₁ x) (ap₂ bit_xor (no₂ y) (no₃ z)))
      ∙ (simp xors)

  matrix_undone : (k : Column) → matrix p q r s (matrix p' q' r' s' k) ≡ k
  matrix_undone k =
      let u = row_undone in
      λ i. column (u k.s0 k.s1 k.s2 k.s3 i) (u k.s1 k.s2 k.s3 k.s0 i) (u k.s2 k.s3 k.s0 k.s1 i) (u k.s3 k.s0 k.s1 k.s2 i)

-- the products by the numbers of the two matrices, as they compute
abbrev by1 : ℕ → ℕ
by1 w = bit_xor w 0

abbrev by2 : ℕ → ℕ
by2 w = bit_xor (xtime w) 0

abbrev by3 : ℕ → ℕ
by3 w = bit_xor w (bit_xor (xtime w) 0)

abbrev by9 : ℕ → ℕ
by9 w = bit_xor w (bit_xor (xtime (xtime (xtime w))) 0)

abbrev by11 : ℕ → ℕ
by11 w = bit_xor w (bit_xor (xtime w) (bit_xor (xtime (xtime (xtime w))) 0))

abbrev by13 : ℕ → ℕ
by13 w = bit_xor w (bit_xor (xtime (xtime w)) (bit_xor (xtime (xtime (xtime w))) 0))

abbrev by14 : ℕ → ℕ
by14 w = bit_xor (xtime w) (bit_xor (xtime (xtime w)) (bit_xor (xtime (xtime (xtime w))) 0))

inv_mix_0 : (w : ℕ) → bit_xor (by14 (by2 w)) (bit_xor (by11 (by1 w)) (bit_xor (by13 (by1 w)) (by9 (by3 w)))) ≡ w
inv_mix_0 w = simp (linear, xor_around)

inv_mix_1 : (w : ℕ) → bit_xor (by14 (by3 w)) (bit_xor (by11 (by2 w)) (bit_xor (by13 (by1 w)) (by9 (by1 w)))) ≡ 0
inv_mix_1 w = simp (linear, xor_around)

inv_mix_2 : (w : ℕ) → bit_xor (by14 (by1 w)) (bit_xor (by11 (by3 w)) (bit_xor (by13 (by2 w)) (by9 (by1 w)))) ≡ 0
inv_mix_2 w = simp (linear, xor_around)

inv_mix_3 : (w : ℕ) → bit_xor (by14 (by1 w)) (bit_xor (by11 (by1 w)) (bit_xor (by13 (by3 w)) (by9 (by2 w)))) ≡ 0
inv_mix_3 w = simp (linear, xor_around)

mix_inv_0 : (w : ℕ) → bit_xor (by2 (by14 w)) (bit_xor (by3 (by9 w)) (bit_xor (by1 (by13 w)) (by1 (by11 w)))) ≡ w
mix_inv_0 w = simp (linear, xor_around)

mix_inv_1 : (w : ℕ) → bit_xor (by2 (by11 w)) (bit_xor (by3 (by14 w)) (bit_xor (by1 (by9 w)) (by1 (by13 w)))) ≡ 0
mix_inv_1 w = simp (linear, xor_around)

mix_inv_2 : (w : ℕ) → bit_xor (by2 (by13 w)) (bit_xor (by3 (by11 w)) (bit_xor (by1 (by14 w)) (by1 (by9 w)))) ≡ 0
mix_inv_2 w = simp (linear, xor_around)

mix_inv_3 : (w : ℕ) → bit_xor (by2 (by9 w)) (bit_xor (by3 (by13 w)) (bit_xor (by1 (by11 w)) (by1 (by14 w)))) ≡ 0
mix_inv_3 w = simp linear

every_undone : (f g : Column → Column) → ((k : Column) → f (g k) ≡ k) → (x : State) → every f (every g x) ≡ x
every_undone f g u x = λ i. columns (u x.c0 i) (u x.c1 i) (u x.c2 i) (u x.c3 i)

pub inv_mix : (x : State) → inv_mix_columns (mix_columns x) ≡ x
unfolding mix_columns inv_mix_columns
inv_mix = every_undone inv_mix_column mix_column (matrix_undone 14 11 13 9 2 3 1 1 inv_mix_0 inv_mix_1 inv_mix_2 inv_mix_3)

pub mix_inv : (x : State) → mix_columns (inv_mix_columns x) ≡ x
unfolding mix_columns inv_mix_columns
mix_inv = every_undone mix_column inv_mix_column (matrix_undone 2 3 1 1 14 11 13 9 mix_inv_0 mix_inv_1 mix_inv_2 mix_inv_3)
