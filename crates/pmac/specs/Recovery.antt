-- One lost block, from the full tag and the other blocks. Assumes nothing.
use Rattle.std.specs.Prelude.{◌≡◌, ℕ, ◌+◌, ◌-◌, ◌*◌, ◌≤◌, Bool, cond, List, ◌++◌, length, take, drop, nat_lt}
use Rattle.block.specs.Arith.{Arith, width}
use Rattle.bits.specs.Blocks.{blocks, part, last}
use Rattle.bits.specs.Memory.{standing, replaced}
use Rattle.engine.specs.Meaning.{Meaning, Undoes}
use Rattle.pmac.specs.Pmac.{over, offset, ending, sealed, sum, full}

module _ {B : Type 0} (A : Arith B) where
  -- the bits with v for block i
  unfoldable pub placed : ℕ → B → List Bool → List Bool
  placed i v bs = take ((i - 1) * width A) bs ++ (A.unpack v ++ drop (i * width A) bs)

  -- the sum without Y[i]
  abbrev pub others : (B → B) → B → List Bool → ℕ → B
  others enc l bs i = A.plus (over A (sealed A enc l bs) 1 (i - 1)) (over A (sealed A enc l bs) (i + 1) (blocks A (length bs) - (i + 1)))

  -- block i before the last, where d is the tag deciphered: Y[i] deciphered, without the offset
  unfoldable pub lost_inner : (B → B) → (B → B) → B → B → List Bool → ℕ → B
  lost_inner enc dec l d bs i = A.plus (dec (A.plus (A.plus d (ending A l (last A bs))) (others enc l bs i))) (offset A l i)

  -- the last block, where it is whole: d without the sum and without L halved
  unfoldable pub lost_last : (B → B) → B → B → List Bool → B
  lost_last enc l d bs = A.plus (A.plus d (sum A enc l bs)) (A.halve l)

  -- block i, from the full tag t and the other blocks of the bits
  unfoldable pub recovered : (B → B) → (B → B) → B → List Bool → ℕ → B
  recovered enc dec t bs i =
      let l = enc A.zero in
      cond (nat_lt i (blocks A (length bs))) (lost_inner enc dec l (dec t) bs i) (lost_last enc l (dec t) bs)

  -- it is the one block that gives the tag, whatever the bits hold in its place
  pub record Recovers (enc dec : B → B) (t : B) (bs : List Bool) (i : ℕ) : Type 0 where
    pub gives : full A enc (placed i (recovered enc dec t bs i) bs) ≡ t
    pub only : (v : B) → full A enc (placed i v bs) ≡ t → v ≡ recovered enc dec t bs i
    pub blind : (v : B) → recovered enc dec t (placed i v bs) i ≡ recovered enc dec t bs i
    -- a block that is lost comes back
    pub back : (v : B) → recovered enc dec (full A enc bs) (placed i v bs) i ≡ A.pack (part A i bs)

  abbrev pub Recoveries : Type 0
  Recoveries = (m : Meaning B) → Undoes m → (t : B) (bs : List Bool) (i : ℕ) → 1 ≤ i → i * width A ≤ length bs → Recovers m.enc m.dec t bs i

  -- bits that differ in one whole block only have different full tags
  abbrev pub OneBlock : Type 0
  OneBlock = (m : Meaning B) → Undoes m → (bs : List Bool) (i : ℕ) (v v' : B) → 1 ≤ i → i * width A ≤ length bs
      → full A m.enc (placed i v bs) ≡ full A m.enc (placed i v' bs) → v ≡ v'

  -- a block written into the memory is placed among the bits that stand
  abbrev pub PlacesWritten : Type 0
  PlacesWritten = (memory : List ℕ) (v : B) (b i : ℕ) → 1 ≤ i → i * width A ≤ b → b ≤ 8 * length memory
      → standing b (replaced A memory i v) ≡ placed i v (standing b memory)
