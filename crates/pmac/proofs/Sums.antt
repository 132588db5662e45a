-- The sum over the blocks of a memory. Assumes nothing.
use Rattle.std.proofs.Common.{◌≡◌, ℕ, ◌-◌, ◌*◌, ◌<◌, ◌≤◌, List, length, sym, refl, ap, ◌∙◌, mul-le-mul_right, arith}
use Rattle.std.proofs.lemmas.List.{length-take-le}
use Rattle.block.specs.Bits.{bits_of}
use Rattle.block.specs.Arith.{Arith, Laws}
use Rattle.block.specs.BitsLemmas.{length_bits_of}
use Rattle.block.proofs.Group.{across}
use Rattle.bits.specs.Blocks.{blocks}
use Rattle.bits.specs.Memory.{standing}
use Rattle.bits.proofs.Counts.{blocks_some, blocks_mono, blocks_inner, blocks_before}
use Rattle.bits.proofs.Parts.{part_take}
use Rattle.bits.proofs.Memory.{part_held, held_inside}
use Rattle.pmac.specs.Pmac.{over, offset, sealed, sum}
use Rattle.pmac.specs.Stored.{stored, Sums, Adds, Drops, Puts}
use Rattle.pmac.proofs.Over.{over_same, over_to, over_change}

module _ {B : Type 0} {A : Arith B} (w : Laws A) where
  -- Y of a block before the last, by the bits that stand and by the memory
  pub sealed_stored : (enc : B → B) (l : B) (memory : List ℕ) (b i : ℕ) → b ≤ 8 * length memory → 1 ≤ i → i < blocks A b → sealed A enc l (standing b memory) i ≡ stored A enc l memory i
  unfolding sealed stored
  sealed_stored enc l memory b i h p q =
      let inner = blocks_inner w b i p q in
      ap (λ z. enc (A.plus z (offset A l i))) (ap A.pack (part_take A i b (bits_of memory) p (omega arith)) ∙ part_held A memory i p (held_inside w memory b i h p q))

  pub sums : Sums A
  unfolding sum
  sums enc l memory b h =
      let long : length (standing b memory) ≡ b = length-take-le b (bits_of memory) (let e = length_bits_of memory in omega arith) in
      ap (λ z. over A (sealed A enc l (standing b memory)) 1 (blocks A z - 1)) long
      ∙ over_same A (sealed A enc l (standing b memory)) (stored A enc l memory) 1 (blocks A b - 1) (λ i p q. sealed_stored enc l memory b i h p (omega (arith, blocks_some w b)))

  -- the blocks before the last lie in the memory
  pub in_memory : (memory : List ℕ) (b c : ℕ) → b ≤ 8 * length memory → c ≤ blocks A b → (c - 1) * A.size ≤ length memory
  in_memory memory b c h k = let le : c - 1 ≤ blocks A b - 1 = omega arith in omega (arith, mul-le-mul_right A.size le, blocks_before w b)

  pub adds : Adds A
  adds enc l old new b c h k m e =
      sums enc l new c k
      ∙ over_to w (stored A enc l new) 1 (blocks A b) (blocks A c) (blocks_some w b) (blocks_mono w b c h)
      ∙ ap (λ z. A.plus z (over A (stored A enc l new) (blocks A b) (blocks A c - blocks A b))) (sym (sums enc l new b (omega arith)) ∙ ap (sum A enc l) e)

  pub drops : Drops A
  drops enc l memory b c h k = across w _ _ _ (sym (adds enc l memory memory c b h k (omega arith) refl))

  pub puts : Puts A
  unfolding stored
  puts enc l old new b c d ho hn p q r low high =
      sums enc l new b hn
      ∙ over_change w (stored A enc l old) (stored A enc l new) 1 c d (blocks A b) p q r
      (λ i s t. ap (λ z. enc (A.plus z (offset A l i))) (low i s t)) (λ i s t. ap (λ z. enc (A.plus z (offset A l i))) (high i s t))
      ∙ ap (λ z. A.plus (A.plus z (over A (stored A enc l old) c (d - c))) (over A (stored A enc l new) c (d - c))) (sym (sums enc l old b ho))
