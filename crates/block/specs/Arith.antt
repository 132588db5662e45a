-- What a width of blocks offers, and the laws that it keeps. Assumes nothing.
use Rattle.std.specs.Prelude.{◌≡◌, ℕ, ◌*◌, ◌<◌, ◌≤◌, Bool, false, List, length, replicate, slice_index}
use Rattle.block.specs.Bits.{bits_of, bytes_of}

-- the arithmetic of one width of blocks
pub record Arith (B : Type 0) : Type 0 where
  pub size : ℕ  -- bytes in a block, n / 8
  pub zero : B
  pub plus : B → B → B  -- ⊕
  pub double : B → B
  pub halve : B → B
  pub pack : List Bool → B  -- the block of n bits, the first bit highest
  pub unpack : B → List Bool  -- its bits

-- n, the bits in a block
abbrev pub width : {B : Type 0} → Arith B → ℕ
width A = 8 * A.size

-- a block from its n / 8 bytes, high byte first, and back
abbrev pub from_bytes : {B : Type 0} → Arith B → List ℕ → B
from_bytes A bytes = A.pack (bits_of bytes)

abbrev pub to_bytes : {B : Type 0} → Arith B → B → List ℕ
to_bytes A x = bytes_of A.size (A.unpack x)

pub record Laws {B : Type 0} (A : Arith B) : Type 0 where
  pub some : 0 < A.size
  pub small : A.size ≤ 16
  pub regroups : (x y z : B) → A.plus (A.plus x y) z ≡ A.plus x (A.plus y z)
  pub reorders : (x y : B) → A.plus x y ≡ A.plus y x
  pub cancels : (x : B) → A.plus x x ≡ A.zero
  pub keeps : (x : B) → A.plus x A.zero ≡ x
  pub halve_double : (x : B) → A.halve (A.double x) ≡ x
  pub double_halve : (x : B) → A.double (A.halve x) ≡ x
  pub double_plus : (x y : B) → A.double (A.plus x y) ≡ A.plus (A.double x) (A.double y)
  pub halve_plus : (x y : B) → A.halve (A.plus x y) ≡ A.plus (A.halve x) (A.halve y)
  pub long : (x : B) → length (A.unpack x) ≡ width A
  pub blank : A.unpack A.zero ≡ replicate (width A) false
  pub pack_unpack : (x : B) → A.pack (A.unpack x) ≡ x
  pub unpack_pack : (bs : List Bool) → length bs ≡ width A → A.unpack (A.pack bs) ≡ bs

-- a block's bytes read back as that block, and the block of n / 8 bytes writes those bytes
pub record BytesReadBack {B : Type 0} (A : Arith B) : Type 0 where
  pub block : (x : B) → from_bytes A (to_bytes A x) ≡ x
  pub bytes : (xs : List ℕ) → length xs ≡ A.size → ((i : ℕ) → slice_index xs i < 256) → to_bytes A (from_bytes A xs) ≡ xs
