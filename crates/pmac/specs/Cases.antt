-- Worked cases of the rules together, at 64 bits, with tags under the complement engine. Assumes nothing.
use Rattle.std.specs.Prelude.{◌≡◌, false, [], ◌∷◌, replicate}
use Rattle.block.specs.Blocks.{arith64}
use Rattle.bits.specs.Blocks.{blocks}
use Rattle.engine.specs.Complement.{flipped}
use Rattle.pmac.specs.Pmac.{gray, full}
use Rattle.pmac.specs.Prices.{add_due, cut_due, put_due}

pub record Cases : Type 0 where
  pub gray_numbers : gray 1 ∷ gray 2 ∷ gray 3 ∷ gray 4 ∷ [] ≡ 1 ∷ 3 ∷ 2 ∷ 6 ∷ []
  pub block_counts : blocks arith64 0 ∷ blocks arith64 1 ∷ blocks arith64 64 ∷ blocks arith64 65 ∷ [] ≡ 1 ∷ 1 ∷ 1 ∷ 2 ∷ []
  pub empty : (full arith64 flipped []).value ≡ 0x7FFFFFFFFFFFFFFF
  pub one_block : (full arith64 flipped (replicate 64 false)).value ≡ 0x000000000000000D
  pub one_bit_more : (full arith64 flipped (replicate 65 false)).value ≡ 0xBFFFFFFFFFFFFFFF
  pub added : add_due arith64 0 64 ∷ add_due arith64 64 1 ∷ [] ≡ 0 ∷ 1 ∷ []
  pub all_cut : cut_due arith64 65 65 ≡ 1
  pub put_into : put_due arith64 192 63 2 ∷ put_due arith64 192 128 2 ∷ [] ≡ 4 ∷ 0 ∷ []
