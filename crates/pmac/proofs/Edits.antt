-- Writes into the memory. Assumes nothing.
use Rattle.std.proofs.Common.{◌≡◌, ℕ, ◌+◌, ◌-◌, ◌*◌, ◌/◌, ◌<◌, ◌≤◌, min, List, ◌++◌, length, take, drop, sym, ap, ◌∙◌, ap₂, mul-le-mul_right, arith}
use lib.Seq.{paste, take-append-add}
use Rattle.std.proofs.lemmas.List.{take-take, take_at, length-append, length-take-le, append_assoc, drop-take}
use Rattle.std.proofs.lemmas.List.Edits.{take-paste, drop-paste}
use Rattle.block.specs.Bits.{bits_of}
use Rattle.block.specs.Arith.{Arith, Laws, width}
use Rattle.bits.specs.Blocks.{blocks}
use Rattle.bits.specs.Memory.{standing}
use Rattle.pmac.specs.Edits.{touched_from, touched_to, AddsWritten, PutsWritten}
use Rattle.block.specs.BitsLemmas.{length_bits_of}
use Rattle.bits.proofs.Counts.{blocks_some, ceil_all, block_of, block_below, block_ceil}
use Rattle.bits.proofs.Parts.{part_front, part_back}
use Rattle.bits.proofs.Memory.{part_held, held_inside}
use Rattle.pmac.proofs.Sums.{adds, puts}

module _ {X : Type 0} where
  -- before the write
  pub front_paste : (d s : List X) (at n : ℕ) → at ≤ length d → take at (paste d at s n) ≡ take at d
  front_paste d s at n h =
      ap (take at) (append_assoc (take at d) (take n s) (drop (at + n) d)) ∙ take_at (take at d) (take n s ++ drop (at + n) d) at (length-take-le at d h)

  -- a write inside of a front
  pub take_of_paste : (d s : List X) (at n b : ℕ) → at + n ≤ b → b ≤ length d → n ≤ length s → take b (paste d at s n) ≡ paste (take b d) at s n
  take_of_paste d s at n b h k m =
      let e : b ≡ (at + n) + (b - (at + n)) = omega arith in
      let long : length (take at d ++ take n s) ≡ at + n = length-append (take at d) (take n s) ∙ ap₂ ◌+◌ (length-take-le at d (omega arith)) (length-take-le n s m) in
      ap (λ z. take z (paste d at s n)) (e ∙ ap (λ z. z + (b - (at + n))) (sym long))
      ∙ take-append-add (take at d ++ take n s) (drop (at + n) d) (b - (at + n))
      ∙ ap₂ (λ x y. x ++ take n s ++ y) (sym (take-take at b d (omega arith))) (sym (ap (λ z. drop (at + n) (take z d)) e ∙ drop-take (at + n) (b - (at + n)) d))

module _ {B : Type 0} {A : Arith B} (w : Laws A) where
  pub adds_written : AddsWritten A
  adds_written enc l old new edit b a h e fits wrote =
      let lo = length_bits_of old in
      let front : standing b new ≡ standing b old = ap (take b) wrote ∙ front_paste (bits_of old) edit b a (omega arith) in
      record {
        stand = ap (take (b + a)) wrote ∙ take-paste (bits_of old) b edit a (omega arith) fits;
        kept = adds w enc l old new b (b + a) (omega arith) (omega arith) (omega arith) front;
      }

  pub puts_written : PutsWritten A
  unfolding touched_from touched_to
  puts_written enc l old new edit b pos a h e fits some inside wrote =
      let lo = length_bits_of old in
      let n = width A in
      let m = blocks A b in
      let c = pos / n + 1 in
      let up = (pos + a + (n - 1)) / n in
      let front : take pos (bits_of new) ≡ take pos (bits_of old) = ap (take pos) wrote ∙ front_paste (bits_of old) edit pos a (omega arith) in
      let back : drop (pos + a) (bits_of new) ≡ drop (pos + a) (bits_of old) = ap (drop (pos + a)) wrote ∙ drop-paste (bits_of old) pos edit a (omega arith) fits in
      let in_old : (i : ℕ) → 1 ≤ i → i < m → i * A.size ≤ length old = λ i p q. held_inside w old b i h p q in
      let top = block_below w pos b (omega arith) in
      record {
        stand = ap (take b) wrote ∙ take_of_paste (bits_of old) edit pos a b inside (omega arith) fits;
        kept = puts w enc l old new b c (min m (up + 1)) h (omega arith) (omega arith) (omega (arith, block_ceil w pos a)) (omega arith)
            (λ i p q. let size = in_old i p (omega arith) in
            let le : i ≤ pos / n = omega arith in
            sym (part_held A new i p (omega arith)) ∙ ap A.pack (part_front A i pos (bits_of new) (bits_of old) p (omega (arith, mul-le-mul_right n le, block_of w pos)) front) ∙ part_held A old i p size)
            (λ i p q. let one : 1 ≤ i = omega (arith, blocks_some w b) in
            let size = in_old i one q in
            let le : up ≤ i - 1 = omega arith in
            sym (part_held A new i one (omega arith)) ∙ ap A.pack (part_back A i (pos + a) (bits_of new) (bits_of old) (omega (arith, mul-le-mul_right n le, ceil_all w (pos + a))) back) ∙ part_held A old i one size);
      }
