-- The blocks that a put touches. Assumes nothing.
use Rattle.std.proofs.Common.{◌≡◌, ℕ, ◌+◌, ◌-◌, ◌*◌, ◌/◌, ◌%◌, ◌<◌, ◌≤◌, min, false, cond, length, replicate, sym, ap, ◌∙◌, subst, ap₂, mul-le-mul_right, arith, eq-eqb, ne_eqb}
use lib.ListN.{length-replicate}
use Rattle.std.proofs.lemmas.Nat.{div_below}
use Rattle.block.specs.Arith.{Arith, Laws, width}
use Rattle.bits.specs.Blocks.{blocks, ceil}
use Rattle.bits.proofs.Counts.{wide, ceil_is, blocks_some, blocks_few, blocks_within, block_of, block_below, block_ceil}
use Rattle.pmac.specs.Edits.{touched_from, touched_to, touched}
use Rattle.pmac.proofs.Places.{not_past}

-- a whole block of b bits is one of their blocks
pub counted : {B : Type 0} {A : Arith B} → Laws A → (b i : ℕ) → 1 ≤ i → i * width A ≤ b → i ≤ blocks A b
counted {A = A} w b i p h =
    let bs = replicate b false in
    let long : length bs ≡ b = length-replicate b false in
    let P : ℕ → Type 0 = λ n. i ≤ blocks A n in
    subst P long (not_past w i bs p (omega arith))

pub record Spanned {B : Type 0} (A : Arith B) (b pos a from to : ℕ) : Type 0 where
  pub from_is : from ≡ touched_from A pos
  pub count_is : to - from ≡ touched A b pos a
  pub some : 1 ≤ from
  pub rising : from ≤ to
  pub few : to ≤ 65537
  pub inside : 8 * ((to - 1) * A.size) ≤ b

module _ {B : Type 0} {A : Arith B} (w : Laws A) (b pos a s : ℕ) (h : pos + a ≤ b) (few : b ≤ 524288) (es : s ≡ A.size) where
  begins : pos / (8 * s) + 1 ≡ touched_from A pos
  unfolding touched_from
  begins = ap (λ z. pos / (8 * z) + 1) es

  same : pos / (8 * s) ≡ pos / width A
  same = ap (λ z. pos / (8 * z)) es

  pub none_touched : a ≡ 0 → Spanned A b pos a (pos / (8 * s) + 1) (pos / (8 * s) + 1)
  none_touched e =
      let q = pos / width A in
      let is = same in
      let some = w.some in
      let low = block_of w pos in
      let small = div_below pos (width A) 65537 (wide w) (omega arith) in
      let x = pos / (8 * s) + 1 in
      let zero : x - x ≡ 0 = omega arith in
      let back : x - 1 ≡ q = omega arith in
      record {
        from_is = begins;
        count_is = zero ∙ sym (ap (λ t. cond t 0 (touched_to A pos a b - touched_from A pos)) (eq-eqb a 0 e));
        some = omega arith;
        rising = omega arith;
        few = omega arith;
        inside = let z : (x - 1) * A.size ≡ q * A.size = ap (λ k. k * A.size) back in omega arith;
      }

  pub some_touched : (up m to : ℕ) → 0 < a → up ≡ (pos + a) / (8 * s) + min 1 ((pos + a) % (8 * s)) → m ≡ blocks A b → to ≡ min (up + 1) m → Spanned A b pos a (pos / (8 * s) + 1) to
  unfolding touched_to touched_from
  some_touched up m to some eu em et =
      let is = same in
      let up_is : up ≡ ceil A (pos + a) = eu ∙ ap (λ z. (pos + a) / (8 * z) + min 1 ((pos + a) % (8 * z))) es ∙ ceil_is (pos + a) (width A) (wide w) in
      let to_is : to ≡ min (blocks A b) (ceil A (pos + a) + 1) = omega arith in
      let top = block_below w pos b (omega arith) in
      let high = block_ceil w pos a in
      let most = blocks_few w b few in
      let one = blocks_some w b in
      let last : to - 1 ≤ blocks A b - 1 = omega arith in
      record {
        from_is = begins;
        count_is = ap₂ (λ x y. x - y) to_is begins ∙ sym (ap (λ t. cond t 0 (touched_to A pos a b - touched_from A pos)) (ne_eqb a 0 (λ e. omega arith)));
        some = omega arith;
        rising = omega arith;
        few = omega arith;
        inside = omega (arith, mul-le-mul_right A.size last, blocks_within w b);
      }
