-- Offsets step by step: one Gray number differs from the one before in the bit of the trailing zeros. Assumes nothing.
use Rattle.std.proofs.Common.{◌≡◌, ℕ, zero, suc, ◌+◌, ◌-◌, ◌*◌, ◌/◌, ◌%◌, ◌^◌, ◌<◌, ◌≤◌, cond, sym, refl, ap, ◌∙◌, ap₂, add_assoc, pow-suc, add-one, one-add, arith}
use lib.Bits.{bit_xor, xor_shr, xor_mod, xor_lt}
use lib.Count.{count_trailing_zeros, under}
use Rattle.std.specs.List.{fold, range_with_len}
use Rattle.std.proofs.lemmas.Nat.{shr-shr}
use Rattle.block.specs.Bits.{bit}
use Rattle.block.specs.Arith.{Arith, Laws}
use Rattle.pmac.specs.Pmac.{gray, over, doubled, spread, offset}
use Rattle.block.proofs.Group.{assoc, comm, self, zero_r, zero_l}
use Rattle.pmac.proofs.Over.{over_same, over_split, over_one}

-- ---- Gray numbers
gray_half : (i : ℕ) → gray i / 2 ≡ gray (i / 2)
gray_half i = xor_shr i (i / 2) 1

xor_digits : (a b : ℕ) → a < 2 → b < 2 → bit_xor a b ≡ (a + b) % 2
xor_digits zero zero h k = refl
xor_digits zero (suc zero) h k = refl
xor_digits (suc zero) zero h k = refl
xor_digits (suc zero) (suc zero) h k = refl
xor_digits zero (suc (suc b)) h k = omega arith
xor_digits (suc zero) (suc (suc b)) h k = omega arith
xor_digits (suc (suc a)) b h k = omega arith

gray_odd : (i : ℕ) → gray i % 2 ≡ (i % 2 + i / 2 % 2) % 2
gray_odd i = xor_mod i (i / 2) 1 ∙ xor_digits (i % 2) (i / 2 % 2) (omega arith) (omega arith)

pub gray_lt : (k i : ℕ) → i < 2 ^ k → gray i < 2 ^ k
gray_lt k i h = xor_lt k i (i / 2) h (omega arith)

pub below_pow : (i : ℕ) → i < 2 ^ i
below_pow zero = omega arith
below_pow (suc i) = let h = below_pow i in rw pow-suc (omega arith)

next_odd : (q : ℕ) → 1 ≤ q → (1 + (q - 1) % 2) % 2 ≡ q % 2
next_odd q h = by ((q - 1) % 2) refl
  where
    by : (d : ℕ) → (q - 1) % 2 ≡ d → (1 + d) % 2 ≡ q % 2
    by zero e = omega arith
    by (suc zero) e = omega arith
    by (suc (suc d)) e = omega arith

module _ {B : Type 0} (A : Arith B) where
  abbrev pub chosen : ℕ → B → B
  chosen d x = cond (bit d) x A.zero

  over_shift : (f : ℕ → B) (a b n : ℕ) → over A f (a + b) n ≡ over A (λ j. f (a + j)) b n
  unfolding over
  over_shift f a b zero = refl
  over_shift f a b (suc n) = ap₂ (λ x i. A.plus x (f i)) (over_shift f a b n) (add_assoc a b n)

  pub doubled_in : (j : ℕ) (x : B) → doubled A j (A.double x) ≡ A.double (doubled A j x)
  unfolding doubled
  doubled_in zero x = refl
  doubled_in (suc j) x = ap A.double (doubled_in j x)

  -- as a fold doubles, over any numbers
  pub doubled_fold : (x : B) (a n : ℕ) → fold (λ y k. A.double y) x (range_with_len a n) ≡ doubled A n x
  unfolding doubled
  doubled_fold x a zero = refl
  doubled_fold x a (suc n) = doubled_fold (A.double x) (a + 1) n ∙ doubled_in n x

module _ {B : Type 0} {A : Arith B} (w : Laws A) where
  -- the lowest bit, and the rest
  spread_front : (k g : ℕ) (x : B) → spread A (suc k) g x ≡ A.plus (chosen A (g % 2) x) (spread A k (g / 2) (A.double x))
  unfolding spread doubled
  spread_front k g x =
      let f : ℕ → B = λ j. cond (bit (g / 2 ^ j % 2)) (doubled A j x) A.zero in
      let one : g / 1 ≡ g = omega arith in
      ap (over A f 0) (sym (one-add k)) ∙ over_split w f 0 1 k
      ∙ ap₂ A.plus (over_one w f 0 ∙ ap (λ z. chosen A (z % 2) x) one)
      (over_shift A f 1 0 k ∙ over_same A (λ j. f (1 + j)) (λ j. cond (bit (g / 2 / 2 ^ j % 2)) (doubled A j (A.double x)) A.zero) 0 k (λ j p q. next j))
    where
      next : (j : ℕ) → cond (bit (g / 2 ^ (1 + j) % 2)) (doubled A (1 + j) x) A.zero ≡ cond (bit (g / 2 / 2 ^ j % 2)) (doubled A j (A.double x)) A.zero
      next j = ap₂ (λ (z : ℕ) y. cond (bit (z % 2)) y A.zero) (sym (shr-shr g 1 j)) (ap (λ i. doubled A i x) (one-add j) ∙ sym (doubled_in A j x))

  pub spread_none : (k : ℕ) (x : B) → spread A k 0 x ≡ A.zero
  spread_none zero x = unfold spread over in refl
  spread_none (suc k) x = spread_front k 0 x ∙ ap (A.plus A.zero) (spread_none k (A.double x)) ∙ zero_r w A.zero

  half_lt : (k g : ℕ) → g < 2 ^ suc k → g / 2 < 2 ^ k
  half_lt k g h = let e : 2 ^ suc k ≡ 2 ^ k * 2 = pow-suc 2 k in omega arith

  -- bits from k on do not count where there are none
  spread_past : (k d g : ℕ) (x : B) → g < 2 ^ k → spread A (k + d) g x ≡ spread A k g x
  spread_past zero d g x h = let e : g ≡ 0 = omega arith in ap (λ z. spread A (0 + d) z x) e ∙ spread_none (0 + d) x ∙ sym (spread_none 0 x) ∙ ap (λ z. spread A 0 z x) (sym e)
  spread_past (suc k) d g x h =
      let e : suc k + d ≡ suc (k + d) = omega arith in
      ap (λ z. spread A z g x) e ∙ spread_front (k + d) g x
      ∙ ap (A.plus (chosen A (g % 2) x)) (spread_past k d (g / 2) (A.double x) (half_lt k g h)) ∙ sym (spread_front k g x)

  pub spread_any : (j k g : ℕ) (x : B) → g < 2 ^ j → g < 2 ^ k → spread A j g x ≡ spread A k g x
  spread_any j k g x h p =
      let e : j + k ≡ k + j = omega arith in
      sym (spread_past j k g x h) ∙ ap (λ z. spread A z g x) e ∙ spread_past k j g x p

  -- one turn of a loop over the bits
  pub spread_turn : (k g : ℕ) (x : B) → g < 2 ^ k → spread A k g x ≡ A.plus (chosen A (g % 2) x) (spread A k (g / 2) (A.double x))
  spread_turn k g x h =
      let p : g < 2 ^ suc k = rw pow-suc (omega arith) in
      spread_any k (suc k) g x h p ∙ spread_front k g x

  pub offset_spread : (k i : ℕ) (x : B) → i < 2 ^ k → offset A x i ≡ spread A k (gray i) x
  unfolding offset
  offset_spread k i x h = spread_any i k (gray i) x (gray_lt i i (below_pow i)) (gray_lt k i h)

  flip : (d : ℕ) (x : B) → d < 2 → chosen A ((1 + d) % 2) x ≡ A.plus (chosen A d x) x
  flip zero x h = sym (zero_l w x)
  flip (suc zero) x h = sym (self w x)
  flip (suc (suc d)) x h = absurd (omega arith)

  around : (a b c : B) → A.plus (A.plus a b) c ≡ A.plus (A.plus a c) b
  around a b c = assoc w a b c ∙ ap (A.plus a) (comm w b c) ∙ sym (assoc w a c b)

  step : (k i : ℕ) (x : B) → 1 ≤ i → i < 2 ^ k → spread A k (gray i) x ≡ A.plus (spread A k (gray (i - 1)) x) (doubled A (count_trailing_zeros k i) x)
  unfolding count_trailing_zeros doubled
  step zero i x p h = absurd (omega arith)
  step (suc k) i x p h = by (λ q. step k (i / 2) (A.double x) q (half_lt k i h)) (i % 2) refl
    where
      low : (j d : ℕ) → (j % 2 + j / 2 % 2) % 2 ≡ d → spread A (suc k) (gray j) x ≡ A.plus (chosen A d x) (spread A k (gray (j / 2)) (A.double x))
      low j d e = spread_front k (gray j) x ∙ ap₂ (λ u v. A.plus (chosen A u x) (spread A k v (A.double x))) (gray_odd j ∙ e) (gray_half j)

      by : (1 ≤ i / 2 → spread A k (gray (i / 2)) (A.double x) ≡ A.plus (spread A k (gray (i / 2 - 1)) (A.double x)) (doubled A (count_trailing_zeros k (i / 2)) (A.double x)))
          → (d : ℕ) → i % 2 ≡ d → spread A (suc k) (gray i) x ≡ A.plus (spread A (suc k) (gray (i - 1)) x) (doubled A (under (i % 2) (count_trailing_zeros k (i / 2))) x)
      by more zero e =
          let q = i / 2 in
          let down : (i - 1) / 2 ≡ q - 1 = omega arith in
          let odd : (i - 1) % 2 ≡ 1 = omega arith in
          let same : (1 + (q - 1) % 2) % 2 ≡ q % 2 = next_odd q (omega arith) in
          let rest = more (omega arith) in
          low i (q % 2) (omega arith)
          ∙ ap (A.plus (chosen A (q % 2) x)) (rest ∙ ap (A.plus (spread A k (gray (q - 1)) (A.double x))) (doubled_in A (count_trailing_zeros k q) x))
          ∙ sym (assoc w (chosen A (q % 2) x) (spread A k (gray (q - 1)) (A.double x)) (A.double (doubled A (count_trailing_zeros k q) x)))
          ∙ ap₂ A.plus (sym (low (i - 1) (q % 2) (ap₂ (λ u v. (u + v % 2) % 2) odd down ∙ same) ∙ ap (λ z. A.plus (chosen A (q % 2) x) (spread A k (gray z) (A.double x))) down))
          (ap (λ z. doubled A (under z (count_trailing_zeros k q)) x) (sym e))
      by more (suc zero) e =
          let q = i / 2 in
          let down : (i - 1) / 2 ≡ q = omega arith in
          let even : (i - 1) % 2 ≡ 0 = omega arith in
          let same : (0 + q % 2) % 2 ≡ q % 2 = omega arith in
          low i ((1 + q % 2) % 2) (omega arith)
          ∙ ap (λ z. A.plus z (spread A k (gray q) (A.double x))) (flip (q % 2) x (omega arith))
          ∙ around (chosen A (q % 2) x) x (spread A k (gray q) (A.double x))
          ∙ ap₂ A.plus (sym (low (i - 1) (q % 2) (ap₂ (λ u v. (u + v % 2) % 2) even down ∙ same) ∙ ap (λ z. A.plus (chosen A (q % 2) x) (spread A k (gray z) (A.double x))) down))
          (ap (λ z. doubled A (under z (count_trailing_zeros k q)) x) (sym e))
      by more (suc (suc d)) e = absurd (omega arith)

  -- offset i is offset i - 1 ⊕ L doubled as often as i has trailing zeros
  pub offset_step : (k i : ℕ) (x : B) → 1 ≤ i → i < 2 ^ k → offset A x i ≡ A.plus (offset A x (i - 1)) (doubled A (count_trailing_zeros k i) x)
  offset_step k i x p h =
      let q : i - 1 < 2 ^ k = omega arith in
      offset_spread k i x h ∙ step k i x p h ∙ ap (λ z. A.plus z (doubled A (count_trailing_zeros k i) x)) (sym (offset_spread k (i - 1) x q))

  -- the loops
  pub doubled_more : (j : ℕ) (x y z : B) → x ≡ doubled A j z → y ≡ A.double x → y ≡ doubled A (j + 1) z
  unfolding doubled
  doubled_more j x y z e f = f ∙ ap A.double e ∙ ap (λ i. doubled A i z) (sym (add-one j))

  pub bit_in : (k g : ℕ) (sum next x y all : B) → g < 2 ^ k → g % 2 ≡ 1 → next ≡ A.plus sum x → y ≡ A.double x → A.plus sum (spread A k g x) ≡ all → A.plus next (spread A k (g / 2) y) ≡ all
  bit_in k g sum next x y all h odd en ey inv =
      ap₂ (λ u v. A.plus u (spread A k (g / 2) v)) en ey ∙ assoc w sum x (spread A k (g / 2) (A.double x))
      ∙ ap (λ d. A.plus sum (A.plus (chosen A d x) (spread A k (g / 2) (A.double x)))) (sym odd)
      ∙ ap (A.plus sum) (sym (spread_turn k g x h)) ∙ inv

  pub bit_out : (k g : ℕ) (sum next x y all : B) → g < 2 ^ k → g % 2 ≡ 0 → next ≡ sum → y ≡ A.double x → A.plus sum (spread A k g x) ≡ all → A.plus next (spread A k (g / 2) y) ≡ all
  bit_out k g sum next x y all h even en ey inv =
      ap₂ (λ u v. A.plus u (spread A k (g / 2) v)) en ey
      ∙ ap (A.plus sum) (sym (zero_l w (spread A k (g / 2) (A.double x))))
      ∙ ap (λ d. A.plus sum (A.plus (chosen A d x) (spread A k (g / 2) (A.double x)))) (sym even)
      ∙ ap (A.plus sum) (sym (spread_turn k g x h)) ∙ inv
