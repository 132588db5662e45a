-- A string of bits in blocks of n bits, counted from 1, all whole but perhaps the last. Assumes nothing.
use Rattle.std.specs.Prelude.{ℕ, ◌+◌, ◌-◌, ◌*◌, ◌/◌, max, Bool, true, false, cond, List, ◌∷◌, ◌++◌, length, take, drop, replicate, ◌==◌}
use Rattle.block.specs.Arith.{Arith, width}

module _ {B : Type 0} (A : Arith B) where
  -- x / n, rounded up
  abbrev pub ceil : ℕ → ℕ
  ceil x = (x + (width A - 1)) / width A

  -- m, the number of blocks of b bits
  unfoldable pub blocks : ℕ → ℕ
  blocks b = max 1 (ceil b)

  -- M[i], block i
  unfoldable pub part : ℕ → List Bool → List Bool
  part i bs = take (width A) (drop ((i - 1) * width A) bs)

  -- M[m], the last block
  unfoldable pub last : List Bool → List Bool
  last bs = part (blocks (length bs)) bs

  abbrev pub whole : List Bool → Bool
  whole bs = length bs == width A

  -- a block shorter than n, and no other, is padded with a 1 and then zeros
  unfoldable pub padded : List Bool → List Bool
  padded bs = cond (whole bs) bs (bs ++ (true ∷ replicate (width A - 1 - length bs) false))
