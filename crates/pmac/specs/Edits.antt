-- Writes into the memory: what stands afterwards, and what is kept. Assumes nothing.
use Rattle.std.specs.Prelude.{◌≡◌, ℕ, ◌+◌, ◌-◌, ◌*◌, ◌/◌, ◌<◌, ◌≤◌, min, Bool, cond, List, ◌++◌, length, take, ◌==◌}
use Rattle.std.proofs.Math.Seq.{paste}
use Rattle.block.specs.Bits.{bits_of}
use Rattle.block.specs.Arith.{Arith, width}
use Rattle.bits.specs.Blocks.{blocks}
use Rattle.bits.specs.Memory.{standing}
use Rattle.pmac.specs.Pmac.{over, sum}
use Rattle.pmac.specs.Stored.{stored}

module _ {B : Type 0} (A : Arith B) where
  -- the first block that holds a bit from pos on
  unfoldable pub touched_from : ℕ → ℕ
  touched_from pos = pos / width A + 1

  -- the block after the last one below m that holds a bit before pos + a
  unfoldable pub touched_to : ℕ → ℕ → ℕ → ℕ
  touched_to pos a b = min (blocks A b) ((pos + a + (width A - 1)) / width A + 1)

  -- how many blocks below m hold a bit that is replaced, where a bits are put at pos
  abbrev pub touched : ℕ → ℕ → ℕ → ℕ
  touched b pos a = cond (a == 0) 0 (touched_to pos a b - touched_from pos)

  -- a bits written at b, behind the b bits that stand
  pub record Added (enc : B → B) (l : B) (old new : List ℕ) (edit : List Bool) (b a : ℕ) : Type 0 where
    pub stand : standing (b + a) new ≡ standing b old ++ take a edit
    pub kept : sum A enc l (standing (b + a) new) ≡ A.plus (sum A enc l (standing b old)) (over A (stored A enc l new) (blocks A b) (blocks A (b + a) - blocks A b))

  abbrev pub AddsWritten : Type 0
  AddsWritten = (enc : B → B) (l : B) (old new : List ℕ) (edit : List Bool) (b a : ℕ) → b + a ≤ 8 * length old → length new ≡ length old → a ≤ length edit
      → bits_of new ≡ paste (bits_of old) b edit a → Added enc l old new edit b a

  -- a bits written at pos, inside of the b bits that stand
  pub record Replaced (enc : B → B) (l : B) (old new : List ℕ) (edit : List Bool) (b pos a : ℕ) : Type 0 where
    pub stand : standing b new ≡ paste (standing b old) pos edit a
    pub kept : (let c = touched_from pos in let d = touched_to pos a b in
        sum A enc l (standing b new) ≡ A.plus (A.plus (sum A enc l (standing b old)) (over A (stored A enc l old) c (d - c))) (over A (stored A enc l new) c (d - c)))

  abbrev pub PutsWritten : Type 0
  PutsWritten = (enc : B → B) (l : B) (old new : List ℕ) (edit : List Bool) (b pos a : ℕ) → b ≤ 8 * length old → length new ≡ length old → a ≤ length edit → 0 < a → pos + a ≤ b
      → bits_of new ≡ paste (bits_of old) pos edit a → Replaced enc l old new edit b pos a
