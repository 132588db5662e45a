-- Bits that stand in a memory of bytes, the highest bit of a byte first. Assumes nothing.
use Rattle.std.specs.Prelude.{ℕ, ◌-◌, ◌*◌, Bool, true, cond, List, length, take, drop, nat_lt}
use Rattle.std.proofs.Math.Seq.{paste}
use Rattle.block.specs.Bits.{bits_of, bytes_of}
use Rattle.block.specs.Arith.{Arith, from_bytes, to_bytes}
use Rattle.bits.specs.Blocks.{last, padded, whole}
use Rattle.bits.specs.declared.Last.{Last}
use Rattle.bits.specs.declared.Last.TheVariants.{Whole, Padded}
use Rattle.bits.specs.declared.prefix.Bits.{Bits}

-- the first b bits of a memory
abbrev pub standing : ℕ → List ℕ → List Bool
standing b memory = take b (bits_of memory)

-- the bits themselves
abbrev pub content : Bits → List Bool
content bits = standing bits.len bits.memory.now

-- a memory that is too large, or too small for b bits
abbrev pub unfit : List ℕ → ℕ → Bool
unfit memory b = cond (nat_lt 65536 (length memory)) true (nat_lt (8 * length memory) b)

-- the memory with the first n bits of edit in place of those from position on
abbrev pub written : List ℕ → ℕ → List ℕ → ℕ → List ℕ
written memory position edit n = bytes_of (length memory) (paste (bits_of memory) position (bits_of edit) n)

module _ {B : Type 0} (A : Arith B) where
  -- block i as the memory holds it: its n / 8 bytes begin at byte (i - 1) * n / 8
  unfoldable pub held : List ℕ → ℕ → B
  held memory i = from_bytes A (take A.size (drop ((i - 1) * A.size) memory))

  -- the memory with x for block i, all other bytes as they were
  unfoldable pub replaced : List ℕ → ℕ → B → List ℕ
  replaced memory i x = paste memory ((i - 1) * A.size) (to_bytes A x) A.size

  -- the last block of some bits, padded where it is short
  abbrev pub closing : List Bool → Last B
  closing bs = let end = last A bs in cond (whole A end) (Whole (A.pack end)) (Padded (A.pack (padded A end)))
