-- The examples of FIPS 197: appendix B, and C.1 to C.3. Assumes nothing.
use Rattle.std.specs.Prelude.{◌≡◌, ℕ, ◌*◌}
use Rattle.block.specs.Width.{digits}
use Rattle.block.specs.Blocks.{make128}
use Rattle.aes.specs.Schedule.{key_schedule}
use Rattle.aes.specs.Maps.{keyed}

-- under the key of nk words in the bytes of a number, the block x is enciphered to y, and y deciphered to x
pub record Pairs (nk key x y : ℕ) : Type 0 where
  pub enciphers : ((keyed (key_schedule nk (digits (4 * nk) key)) 0).enc (make128 x)).value ≡ y
  pub deciphers : ((keyed (key_schedule nk (digits (4 * nk) key)) 0).dec (make128 y)).value ≡ x

pub record Published : Type 0 where
  pub b : Pairs 4 0x2b7e151628aed2a6abf7158809cf4f3c 0x3243f6a8885a308d313198a2e0370734 0x3925841d02dc09fbdc118597196a0b32
  pub c1 : Pairs 4 0x000102030405060708090a0b0c0d0e0f 0x00112233445566778899aabbccddeeff 0x69c4e0d86a7b0430d8cdb78070b4c55a
  pub c2 : Pairs 6 0x000102030405060708090a0b0c0d0e0f1011121314151617 0x00112233445566778899aabbccddeeff 0xdda97ca4864cdfe06eaf70a0ec0d7191
  pub c3 : Pairs 8 0x000102030405060708090a0b0c0d0e0f101112131415161718191a1b1c1d1e1f 0x00112233445566778899aabbccddeeff 0x8ea2b7ca516745bfeafc49904b496089
