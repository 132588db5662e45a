-- PMAC of a string of bits (Black and Rogaway, "A Block-Cipher Mode of Operation for Parallelizable Message
-- Authentication", Figure 1), for any block arithmetic and any map Enc of blocks. Assumes nothing.
use Rattle.std.specs.Prelude.{ℕ, zero, suc, ◌+◌, ◌-◌, ◌/◌, ◌%◌, ◌^◌, Bool, cond, List, length, take, bit_xor}
use Rattle.block.specs.Bits.{bit}
use Rattle.block.specs.Arith.{Arith}
use Rattle.bits.specs.Blocks.{blocks, part, last, whole, padded}

-- γ(i), the i-th Gray number
abbrev pub gray : ℕ → ℕ
gray i = bit_xor i (i / 2)

module _ {B : Type 0} (A : Arith B) where
  -- f a ⊕ .. ⊕ f (a + n - 1)
  unfoldable pub over : (ℕ → B) → ℕ → ℕ → B
  over f a zero = A.zero
  over f a (suc n) = A.plus (over f a n) (f (a + n))

  -- x doubled j times
  unfoldable pub doubled : ℕ → B → B
  doubled zero x = x
  doubled (suc j) x = A.double (doubled j x)

  -- the ⊕ of x doubled j times, over each j below k where bit j of g is 1
  unfoldable pub spread : ℕ → ℕ → B → B
  spread k g x = over (λ j. cond (bit (g / 2 ^ j % 2)) (doubled j x) A.zero) 0 k

  -- offset i, by the bits of γ(i); from bit i on these are all 0
  unfoldable pub offset : B → ℕ → B
  offset l i = spread i (gray i) l

  -- what the last block adds to the sum: padded where it is short, with L halved where it is whole
  unfoldable pub ending : B → List Bool → B
  ending l end = A.plus (A.pack (padded A end)) (cond (whole A end) (A.halve l) A.zero)

  module _ (enc : B → B) where
    -- Y[i], for a block before the last
    unfoldable pub sealed : B → List Bool → ℕ → B
    sealed l bs i = enc (A.plus (A.pack (part A i bs)) (offset l i))

    -- Y[1] ⊕ .. ⊕ Y[m - 1]
    unfoldable pub sum : B → List Bool → B
    sum l bs = over (sealed l bs) 1 (blocks A (length bs) - 1)

    -- the full tag, with L = Enc 0, and its first t bits
    unfoldable pub full : List Bool → B
    full bs = let l = enc A.zero in enc (A.plus (sum l bs) (ending l (last A bs)))

    unfoldable pub tag : ℕ → List Bool → List Bool
    tag t bs = take t (A.unpack (full bs))
