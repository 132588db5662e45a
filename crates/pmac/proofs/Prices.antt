-- The bounds of the price list. Assumes nothing.
use Rattle.std.proofs.Common.{ℕ, suc, ◌+◌, ◌-◌, ◌*◌, ◌/◌, ◌<◌, ◌≤◌, max, mul-le-mul_right, mod-lt, div-add-mod', div-mul-le_self, arith}
use Rattle.std.proofs.lemmas.Nat.{div_below, le-div}
use Rattle.block.specs.Arith.{Arith, Laws, width}
use Rattle.bits.specs.Blocks.{blocks, ceil}
use Rattle.pmac.specs.Edits.{touched_from, touched_to}
use Rattle.pmac.specs.Prices.{Prices}
use Rattle.bits.proofs.Counts.{wide, blocks_some, blocks_all, ceil_all}
use Rattle.bits.proofs.Parts.{start_next}

module _ {B : Type 0} {A : Arith B} (w : Laws A) where
  -- as few as suffice
  ceil_least : (x k : ℕ) → x ≤ k * width A → ceil A x ≤ k
  ceil_least x k h = let s = wide w in let b : ceil A x < suc k = div_below (x + (width A - 1)) (width A) (suc k) (wide w) (omega arith) in omega arith

  next : (pos : ℕ) → pos < (pos / width A + 1) * width A
  next pos = omega (arith, div-add-mod' pos (width A), mod-lt pos (wide w))

  add_bound : (b a : ℕ) → blocks A (b + a) - blocks A b ≤ ceil A a
  add_bound b a =
      let m = blocks A b in
      let all : ceil A (b + a) ≤ m + ceil A a = ceil_least (b + a) (m + ceil A a) (omega (arith, blocks_all w b, ceil_all w a)) in
      let is : blocks A (b + a) ≤ max 1 (m + ceil A a) = unfold blocks in omega arith in
      omega (arith, blocks_some w b)

  put_bound : (b pos a : ℕ) → touched_to A pos a b - touched_from A pos ≤ ceil A a + 1
  unfolding touched_to touched_from
  put_bound b pos a =
      let q = pos / width A in
      let all : ceil A (pos + a) ≤ q + 1 + ceil A a = ceil_least (pos + a) (q + 1 + ceil A a) (omega (arith, next pos, ceil_all w a)) in
      omega arith

  in_touched : (b pos a i : ℕ) → 1 ≤ i → i < blocks A b → pos < i * width A → (i - 1) * width A < pos + a → (touched_from A pos ≤ i) × (i < touched_to A pos a b)
  unfolding touched_to touched_from
  in_touched b pos a i p m h k =
      let q : pos / width A < i = div_below pos (width A) i (wide w) h in
      let c : i ≤ ceil A (pos + a) = le-div i (pos + a + (width A - 1)) (width A) (wide w) (omega (arith, wide w, start_next i (width A) p)) in
      (omega arith, omega arith)

  of_touched : (b pos a i : ℕ) → 0 < a → touched_from A pos ≤ i → i < touched_to A pos a b → (i < blocks A b) × (pos < i * width A) × ((i - 1) * width A < pos + a)
  unfolding touched_to touched_from
  of_touched b pos a i some h k =
      let low : pos / width A + 1 ≤ i = h in
      let high : i ≤ ceil A (pos + a) = omega arith in
      let p : 1 ≤ i = omega arith in
      (omega arith, omega (arith, next pos, mul-le-mul_right (width A) low), omega (arith, wide w, mul-le-mul_right (width A) high, div-mul-le_self (pos + a + (width A - 1)) (width A), start_next i (width A) p))

  pub prices : Prices A
  prices = record { add = add_bound; put = put_bound; touched = in_touched; untouched = of_touched }
