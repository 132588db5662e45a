-- FIPS 197, sections 5.1.1 and 5.3.2: the substitution of a byte by its one rule, the inverse in the field and then the
-- affine map, and the way back. Assumes nothing.
use Rattle.std.specs.Prelude.{◌≡◌, ℕ, ◌+◌, ◌-◌, ◌*◌, ◌/◌, ◌%◌, ◌^◌, ◌<◌, bit_xor}
use Rattle.aes.specs.Field.{inverse}

-- the eight bits of b, k places to the left, round the end
abbrev pub turned : ℕ → ℕ → ℕ
turned k b = (b * 2 ^ k) % 256 + b / 2 ^ (8 - k)

-- bit i becomes bits i, i + 4, i + 5, i + 6 and i + 7 (mod 8) and that bit of 63 hex, added
unfoldable pub affine : ℕ → ℕ
affine b = bit_xor b (bit_xor (turned 4 b) (bit_xor (turned 3 b) (bit_xor (turned 2 b) (bit_xor (turned 1 b) 0x63))))

-- bit i becomes bits i + 2, i + 5 and i + 7 (mod 8) and that bit of 05 hex, added
unfoldable pub inv_affine : ℕ → ℕ
inv_affine b = bit_xor (turned 6 b) (bit_xor (turned 3 b) (bit_xor (turned 1 b) 0x05))

unfoldable pub s_box : ℕ → ℕ
s_box b = affine (inverse b)

unfoldable pub inv_s_box : ℕ → ℕ
inv_s_box b = inverse (inv_affine b)

-- each undoes the other
pub record BoxesUndo : Type 0 where
  pub inv_sub : (x : ℕ) → x < 256 → inv_s_box (s_box x) ≡ x
  pub sub_inv : (x : ℕ) → x < 256 → s_box (inv_s_box x) ≡ x
