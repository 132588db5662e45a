-- The code's form of the cipher: a column is a word of 32 bits, row 0 highest, and a table gives what one byte brings
-- to a column of the next state. Assumes nothing.
use Rattle.std.specs.Prelude.{ℕ, ◌+◌, ◌*◌, ◌/◌, ◌%◌, ◌^◌, List, [], ◌∷◌, map}
use Rattle.aes.specs.Field.{times}
use Rattle.aes.specs.State.{Column, State, column, columns}
use Rattle.aes.specs.Cipher.{Keys}
use Rattle.aes.specs.Ways.{Steps}
use Rattle.aes.specs.declared.words.Words.{Words}
use Rattle.aes.specs.declared.way_keys.WayKeys.{WayKeys}

abbrev pub packed : Column → ℕ
packed k = k.s0 * 16777216 + k.s1 * 65536 + k.s2 * 256 + k.s3

abbrev pub unpacked : ℕ → Column
unpacked w = column (w / 2 ^ 24 % 256) (w / 2 ^ 16 % 256) (w / 2 ^ 8 % 256) (w % 256)

unfoldable pub state_of : Words → State
state_of x = columns (unpacked x.c0) (unpacked x.c1) (unpacked x.c2) (unpacked x.c3)

abbrev pub keys_of : WayKeys → Keys
keys_of k = record { first = state_of k.first; middle = map state_of k.middle; last = state_of k.last }

-- column 0 of a way's matrix, times b; and column 1
abbrev pub brought0 : Steps → ℕ → Column
brought0 t b = column (times t.p b) (times t.s b) (times t.r b) (times t.q b)

abbrev pub brought1 : Steps → ℕ → Column
brought1 t b = column (times t.q b) (times t.p b) (times t.s b) (times t.r b)

-- the rule of a way's table: what the byte x brings from row 0, and from row 1
unfoldable pub brought : Steps → ℕ → List ℕ
brought t x = packed (brought0 t (t.sub x)) ∷ packed (brought1 t (t.sub x)) ∷ []
