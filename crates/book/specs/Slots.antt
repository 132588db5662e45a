-- A book's bytes: slots of 32, and the fields of a slot. Assumes nothing.
use Rattle.std.specs.Prelude.{ℕ, ◌+◌, ◌*◌, ◌/◌, ◌%◌, Bool, ◌&&◌, List, length, take, drop, ◌==◌, nat_le, slice_index}

abbrev pub slots : List ℕ → ℕ
slots book = length book / 32

-- 1 to 2,048 slots of 32 bytes
abbrev pub is_book : List ℕ → Bool
is_book book = length book % 32 == 0 && (nat_le 1 (slots book) && nat_le (slots book) 2048)

-- two and four bytes from i on, high byte first
abbrev pub half : List ℕ → ℕ → ℕ
half book i = slice_index book i * 256 + slice_index book (i + 1)

abbrev pub word : List ℕ → ℕ → ℕ
word book i = ((slice_index book i * 256 + slice_index book (i + 1)) * 256 + slice_index book (i + 2)) * 256 + slice_index book (i + 3)

-- the slot that a slot's link leads to; 0 ends the chain
abbrev pub link : List ℕ → ℕ → ℕ
link book slot = half book (slot * 32)

abbrev pub kind : List ℕ → ℕ → ℕ
kind book slot = slice_index book (slot * 32 + 2)

abbrev pub position : List ℕ → ℕ → ℕ
position book slot = word book (slot * 32 + 4)

-- the record's length in bits
abbrev pub bits : List ℕ → ℕ → ℕ
bits book slot = word book (slot * 32 + 8)

-- the whole bytes that so many bits need
abbrev pub bytes_for : ℕ → ℕ
bytes_for n = (n + 7) / 8

-- the first of the slot's data, as many bytes as n bits need
abbrev pub data_of : List ℕ → ℕ → ℕ → List ℕ
data_of book slot n = take (bytes_for n) (drop (slot * 32 + 12) book)
