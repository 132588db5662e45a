-- FIPS 197, section 4: the field of bytes. A byte is a number below 256, a sum is ⊕, and a product is reduced by the
-- polynomial 11B hex. Assumes nothing.
use Rattle.std.specs.Prelude.{◌≡◌, ℕ, zero, suc, ◌/◌, ◌%◌, ◌<◌, bit_xor}
use Rattle.block.specs.Width.{doubled}

-- {02} • b: shifted left by one, less 11B hex where that leaves the byte
unfoldable pub xtime : ℕ → ℕ
xtime b = doubled 8 0x1B b

-- bit • b
abbrev pub chosen : ℕ → ℕ → ℕ
chosen zero b = 0
chosen (suc t) b = b

-- the product of the k lowest bits of a, and b
abbrev pub product : ℕ → ℕ → ℕ → ℕ
product zero a b = 0
product (suc k) a b = bit_xor (chosen (a % 2) b) (product k (a / 2) (xtime b))

-- a • b
abbrev pub times : ℕ → ℕ → ℕ
times a b = product 8 a b

abbrev pub square : ℕ → ℕ
square b = times b b

-- s • s² • s⁴ • .., of which there are k
unfoldable pub powers : ℕ → ℕ → ℕ
powers zero s = 1
powers (suc k) s = times s (powers k (square s))

-- b to the power 254 = 2 + 4 + 8 + .. + 128: the inverse of b, and 0 at 0
unfoldable pub inverse : ℕ → ℕ
inverse b = powers 7 (square b)

-- the inverse is one
abbrev pub InverseIsOne : Type 0
InverseIsOne = (a : ℕ) → 0 < a → a < 256 → times a (inverse a) ≡ 1
