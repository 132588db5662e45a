-- The blocks of a memory under their offsets. Assumes nothing.
use Rattle.std.specs.Prelude.{◌≡◌, ℕ, ◌-◌, ◌*◌, ◌^◌, ◌<◌, ◌≤◌, List, length}
use Rattle.std.specs.Int.Count.{count_trailing_zeros}
use Rattle.block.specs.Arith.{Arith}
use Rattle.bits.specs.Blocks.{blocks}
use Rattle.bits.specs.Memory.{standing, held}
use Rattle.pmac.specs.Pmac.{over, doubled, offset, sum}

module _ {B : Type 0} (A : Arith B) where
  -- Y of block i as the memory holds it
  unfoldable pub stored : (B → B) → B → List ℕ → ℕ → B
  stored enc l memory i = enc (A.plus (held A memory i) (offset A l i))

  -- offset i is offset i - 1 ⊕ L doubled as often as i has trailing zeros
  abbrev pub Steps : Type 0
  Steps = (k i : ℕ) (l : B) → 1 ≤ i → i < 2 ^ k → offset A l i ≡ A.plus (offset A l (i - 1)) (doubled A (count_trailing_zeros k i) l)

  -- the sum of the bits that stand is over the blocks that the memory holds
  abbrev pub Sums : Type 0
  Sums = (enc : B → B) (l : B) (memory : List ℕ) (b : ℕ) → b ≤ 8 * length memory
      → sum A enc l (standing b memory) ≡ over A (stored enc l memory) 1 (blocks A b - 1)

  -- from b bits to c, where the memory's first b bits stay: the blocks up to the new last one enter
  abbrev pub Adds : Type 0
  Adds = (enc : B → B) (l : B) (old new : List ℕ) (b c : ℕ) → b ≤ c → c ≤ 8 * length new → b ≤ 8 * length old → standing b new ≡ standing b old
      → sum A enc l (standing c new) ≡ A.plus (sum A enc l (standing b old)) (over A (stored enc l new) (blocks A b) (blocks A c - blocks A b))

  -- from b bits to c, in the same memory: the blocks from the new last one on leave
  abbrev pub Drops : Type 0
  Drops = (enc : B → B) (l : B) (memory : List ℕ) (b c : ℕ) → c ≤ b → b ≤ 8 * length memory
      → sum A enc l (standing c memory) ≡ A.plus (sum A enc l (standing b memory)) (over A (stored enc l memory) (blocks A c) (blocks A b - blocks A c))

  -- blocks from c up to d replaced: the old ones leave and the new ones enter
  abbrev pub Puts : Type 0
  Puts = (enc : B → B) (l : B) (old new : List ℕ) (b c d : ℕ) → b ≤ 8 * length old → b ≤ 8 * length new → 1 ≤ c → c ≤ d → d ≤ blocks A b
      → ((i : ℕ) → 1 ≤ i → i < c → held A new i ≡ held A old i) → ((i : ℕ) → d ≤ i → i < blocks A b → held A new i ≡ held A old i)
      → sum A enc l (standing b new) ≡ A.plus (A.plus (sum A enc l (standing b old)) (over A (stored enc l old) c (d - c))) (over A (stored enc l new) c (d - c))
