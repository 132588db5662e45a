-- How many operations an edit asks, and the bounds of the price list. Assumes nothing.
use Rattle.std.specs.Prelude.{ℕ, ◌+◌, ◌-◌, ◌*◌, ◌<◌, ◌≤◌, cond, ◌==◌}
use Rattle.block.specs.Arith.{Arith, width}
use Rattle.bits.specs.Blocks.{blocks, ceil}
use Rattle.pmac.specs.Edits.{touched_from, touched_to, touched}

module _ {B : Type 0} (A : Arith B) where
  -- operations due: by a last block that moves on, by one that moves back, and by blocks that are touched
  abbrev pub add_due : ℕ → ℕ → ℕ
  add_due b a = blocks A (b + a) - blocks A b

  abbrev pub cut_due : ℕ → ℕ → ℕ
  cut_due b d = blocks A b - blocks A (b - d)

  abbrev pub put_due : ℕ → ℕ → ℕ → ℕ
  put_due b pos a = 2 * touched A b pos a

  -- the price list's bounds
  abbrev pub edit_bound : ℕ → ℕ
  edit_bound a = ceil A a

  abbrev pub put_bound : ℕ → ℕ
  put_bound a = cond (a == 0) 0 (2 * (ceil A a + 1))

  pub record Prices : Type 0 where
    pub add : (b a : ℕ) → blocks A (b + a) - blocks A b ≤ ceil A a
    pub put : (b pos a : ℕ) → touched_to A pos a b - touched_from A pos ≤ ceil A a + 1
    -- the blocks counted are those below m that hold a replaced bit: block i has the bits from (i - 1) * n up to i * n
    pub touched : (b pos a i : ℕ) → 1 ≤ i → i < blocks A b → pos < i * width A → (i - 1) * width A < pos + a → (touched_from A pos ≤ i) × (i < touched_to A pos a b)
    pub untouched : (b pos a i : ℕ) → 0 < a → touched_from A pos ≤ i → i < touched_to A pos a b → (i < blocks A b) × (pos < i * width A) × ((i - 1) * width A < pos + a)
