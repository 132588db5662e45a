-- The complement engine's map. Assumes nothing.
use Rattle.std.specs.Prelude.{ℕ}
use Rattle.block.specs.Blocks.{Block64, make64, arith64}
use Rattle.engine.specs.Meaning.{Maps, Meaning, metered}

-- every bit flipped
abbrev pub flipped : Block64 → Block64
flipped x = arith64.plus x (make64 0xFFFFFFFFFFFFFFFF)

abbrev pub flipping : Maps Block64
flipping = record { enc = flipped; dec = flipped }

abbrev pub complement : ℕ → Meaning Block64
complement left = metered flipping left
