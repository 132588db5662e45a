-- Blocks sealed one after the other, and the tag from its parts. Assumes nothing.
use Rattle.std.proofs.Common.{◌≡◌, ℕ, suc, ◌+◌, ◌-◌, ◌*◌, ◌^◌, ◌<◌, ◌≤◌, List, length, sym, ap, ◌∙◌, ap₂, mul-le-mul_right, arith}
use lib.Count.{count_trailing_zeros}
use Rattle.block.specs.Arith.{Arith, Laws}
use Rattle.bits.specs.Blocks.{blocks, last}
use Rattle.bits.specs.Memory.{standing, held}
use Rattle.pmac.specs.Pmac.{over, doubled, offset, ending, sum, full}
use Rattle.pmac.specs.Stored.{stored}
use Rattle.pmac.specs.Sealing.{sealing}
use Rattle.pmac.specs.declared.SealedBits.{SealedBits}
use Rattle.pmac.proofs.Over.{over_more}
use Rattle.pmac.proofs.Gray.{offset_step}
use Rattle.pmac.proofs.Sums.{sums}

pub inner : (i d s n : ℕ) → i < d → (d - 1) * s ≤ n → i * s ≤ n
inner i d s n h k = let le : i ≤ d - 1 = omega arith in omega (arith, mul-le-mul_right s le)

-- one turn
module _ {B : Type 0} {A : Arith B} (w : Laws A) (enc : B → B) (memory : List ℕ) (l : B) (a i : ℕ) (from : a ≤ i) (some : 1 ≤ a) (fits : i < 2 ^ 64) where
  pub next_offset : (was now times : B) → was ≡ offset A l (i - 1) → times ≡ doubled A (count_trailing_zeros 64 i) l → now ≡ A.plus was times → now ≡ offset A l (i + 1 - 1)
  next_offset was now times e t n =
      let back : i ≡ i + 1 - 1 = omega arith in
      n ∙ ap₂ A.plus e t ∙ sym (offset_step w 64 i l (omega arith) fits) ∙ ap (offset A l) back

  pub next_sum : (was now y at : B) → was ≡ over A (stored A enc l memory) a (i - a) → at ≡ offset A l (i + 1 - 1) → y ≡ enc (A.plus (held A memory i) at) → now ≡ A.plus was y
      → now ≡ over A (stored A enc l memory) a (i + 1 - a)
  unfolding stored
  next_sum was now y at e ea ey n =
      let back : i + 1 - 1 ≡ i = omega arith in
      let up : suc (i - a) ≡ i + 1 - a = omega arith in
      let here : a + (i - a) ≡ i = omega arith in
      let y_is : y ≡ enc (A.plus (held A memory i) (offset A l i)) = ey ∙ ap (λ z. enc (A.plus (held A memory i) z)) (ea ∙ ap (offset A l) back) in
      n ∙ ap₂ A.plus e (y_is ∙ ap (stored A enc l memory) (sym here))
      ∙ sym (over_more A (stored A enc l memory) a (i - a)) ∙ ap (over A (stored A enc l memory) a) up

-- L, the sum and the full tag, from their parts
pub sealing_made : {B : Type 0} {A : Arith B} (w : Laws A) (enc : B → B) (memory : List ℕ) (b : ℕ) → b ≤ 8 * length memory → (l s end tag : B)
    → l ≡ enc A.zero → s ≡ over A (stored A enc l memory) 1 (blocks A b - 1) → end ≡ ending A l (last A (standing b memory)) → tag ≡ enc (A.plus s end)
    → ◌≡◌ {A = SealedBits B} (record { l = l; sum = s; tag = tag }) (sealing A enc (standing b memory))
unfolding full
sealing_made {A = A} w enc memory b h l s end tag el es ee et =
    let bs = standing b memory in
    let sum_is : s ≡ sum A enc (enc A.zero) bs = es ∙ sym (sums w enc l memory b h) ∙ ap (λ z. sum A enc z bs) el in
    let end_is : end ≡ ending A (enc A.zero) (last A bs) = ee ∙ ap (λ z. ending A z (last A bs)) el in
    let tag_is : tag ≡ full A enc bs = et ∙ ap enc (ap₂ A.plus sum_is end_is) in
    ap₂ (λ x y. record { l = x; sum = y; tag = tag }) el sum_is ∙ ap (λ z. record { l = enc A.zero; sum = sum A enc (enc A.zero) bs; tag = z }) tag_is
