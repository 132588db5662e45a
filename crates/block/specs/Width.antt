-- Blocks of n bits as numbers below 2 ^ n. Assumes nothing.
use Rattle.std.specs.Prelude.{◌≡◌, ℕ, zero, suc, ◌+◌, ◌-◌, ◌*◌, ◌/◌, ◌%◌, ◌^◌, ◌<◌, ◌≤◌, List, [], ◌∷◌, bit_xor, slice_index}
use Rattle.block.specs.Bits.{bits, number}
use Rattle.block.specs.Arith.{Arith}

-- y, ⊕ed with c where the bit that was shifted out is 1
abbrev pub reduced : ℕ → ℕ → ℕ → ℕ
reduced zero c y = y
reduced (suc b) c y = bit_xor y c

-- n bits shifted left by one; c where the first bit was 1
abbrev pub doubled : ℕ → ℕ → ℕ → ℕ
doubled n c x = reduced (x / 2 ^ (n - 1) % 2) c ((x * 2) % 2 ^ n)

-- bits shifted right by one; d where the last bit was 1
abbrev pub halved : ℕ → ℕ → ℕ
halved d x = reduced (x % 2) d (x / 2)

-- the arithmetic of blocks of `size` bytes: `value` is a block's number, `make` the block of a number's n lowest bits
abbrev pub arith_of : {B : Type 0} → (B → ℕ) → (ℕ → B) → ℕ → ℕ → ℕ → Arith B
arith_of value make size c d = record {
  size = size;
  zero = make 0;
  plus = λ x y. make (bit_xor (value x) (value y));
  double = λ x. make (doubled (8 * size) c (value x));
  halve = λ x. make (halved d (value x));
  pack = λ bs. make (number bs);
  unpack = λ x. bits (8 * size) (value x);
}

-- at `size` bytes, the number that halving reduces by where doubling reduces by c
abbrev pub halving : ℕ → ℕ → ℕ
halving size c = 2 ^ (8 * size - 1) + c / 2

-- that blocks of `size` bytes keep the laws where doubling reduces by c
pub record IsWidth (size c : ℕ) : Type 0 where
  pub some : 0 < size
  pub small : size ≤ 16
  pub odd : c % 2 ≡ 1
  pub fits : c < 2 ^ (8 * size)

-- k bytes as a number, the highest first, and a number's k lowest bytes
abbrev pub value_of : ℕ → List ℕ → ℕ
value_of zero xs = 0
value_of (suc k) xs = value_of k xs * 256 + slice_index xs k

abbrev pub digits : ℕ → ℕ → List ℕ
digits zero x = []
digits (suc k) x = x / 2 ^ (8 * k) % 256 ∷ digits k x
