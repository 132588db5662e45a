-- Blocks of bits. Assumes nothing.
use Rattle.std.proofs.Common.{◌≡◌, ℕ, suc, ◌+◌, ◌-◌, ◌*◌, ◌≤◌, Bool, List, take, drop, sym, ap, ◌∙◌, arith}
use Rattle.std.proofs.lemmas.List.{drop-take, take-take, drop-drop}
use Rattle.block.specs.Arith.{Arith, width}
use Rattle.bits.specs.Blocks.{part}

-- what lies inside of a front
pub inside : {X : Type 0} (n k c : ℕ) (xs : List X) → k + n ≤ c → take n (drop k (take c xs)) ≡ take n (drop k xs)
inside n k c xs h =
    let e : c ≡ k + (c - k) = omega arith in
    let short : n ≤ c - k = omega arith in
    ap (λ z. take n (drop k (take z xs))) e ∙ ap (take n) (drop-take k (c - k) xs) ∙ take-take n (c - k) (drop k xs) short

-- block i ends where the next begins
pub start_next : (i n : ℕ) → 1 ≤ i → (i - 1) * n + n ≡ i * n
start_next i n h = let e : i ≡ suc (i - 1) = omega arith in let more : (i - 1) * n + n ≡ suc (i - 1) * n = omega arith in more ∙ ap (λ z. z * n) (sym e)

module _ {B : Type 0} (A : Arith B) where
  pub part_take : (i c : ℕ) (bs : List Bool) → 1 ≤ i → i * width A ≤ c → part A i (take c bs) ≡ part A i bs
  unfolding part
  part_take i c bs p h = inside (width A) ((i - 1) * width A) c bs (omega (arith, start_next i (width A) p))

  -- blocks before and behind what differs
  pub part_front : (j c : ℕ) (xs ys : List Bool) → 1 ≤ j → j * width A ≤ c → take c xs ≡ take c ys → part A j xs ≡ part A j ys
  part_front j c xs ys p h e = sym (part_take j c xs p h) ∙ ap (part A j) e ∙ part_take j c ys p h

  pub part_back : (j c : ℕ) (xs ys : List Bool) → c ≤ (j - 1) * width A → drop c xs ≡ drop c ys → part A j xs ≡ part A j ys
  unfolding part
  part_back j c xs ys h e = skip xs ∙ ap (λ z. take (width A) (drop ((j - 1) * width A - c) z)) e ∙ sym (skip ys)
    where
      skip : (zs : List Bool) → take (width A) (drop ((j - 1) * width A) zs) ≡ take (width A) (drop ((j - 1) * width A - c) (drop c zs))
      skip zs =
          let far : (j - 1) * width A ≡ c + ((j - 1) * width A - c) = omega arith in
          ap (λ z. take (width A) (drop z zs)) far ∙ ap (take (width A)) (sym (drop-drop ((j - 1) * width A - c) c zs))
