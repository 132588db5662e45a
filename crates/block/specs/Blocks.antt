-- The arithmetic of blocks, and its two widths: 64 bits with 1B hex and 128 bits with 87. Assumes nothing.
use Rattle.std.specs.Prelude.{◌≡◌, ℕ, ◌*◌, ◌%◌, ◌^◌, ◌<◌, refl}
use Rattle.std.proofs.Common.{pow_pos}
use Rattle.std.proofs.lemmas.Nat.{mod_below}
use Rattle.block.specs.Arith.{Arith}
use Rattle.block.specs.Width.{arith_of, halving}
use Rattle.block.specs.declared.block_of.BlockOf.{BlockOf}

pub lowest : (size n : ℕ) → n % 2 ^ (8 * size) < 2 ^ (8 * size)
lowest size n = mod_below n (2 ^ (8 * size)) (pow_pos (8 * size))

-- the block of a number's 8 * size lowest bits
abbrev pub make : (size : ℕ) → ℕ → BlockOf size
make size n = record { value = n % 2 ^ (8 * size); fits = lowest size n }

-- blocks of `size` bytes, where doubling reduces by c
abbrev pub arith : (size c : ℕ) → Arith (BlockOf size)
arith size c = arith_of (λ x. x.value) (make size) size c (halving size c)

abbrev pub Block64 : Type 0
Block64 = BlockOf 8

abbrev pub Block128 : Type 0
Block128 = BlockOf 16

abbrev pub make64 : ℕ → Block64
make64 = make 8

abbrev pub make128 : ℕ → Block128
make128 = make 16

abbrev pub arith64 : Arith Block64
arith64 = arith 8 0x1B

abbrev pub arith128 : Arith Block128
arith128 = arith 16 0x87

-- so halving reduces by 80..0D and by 80..43 hex
pub halving64 : halving 8 0x1B ≡ 0x800000000000000D
halving64 = refl

pub halving128 : halving 16 0x87 ≡ 0x80000000000000000000000000000043
halving128 = refl
