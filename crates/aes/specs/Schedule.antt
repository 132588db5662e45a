-- FIPS 197, section 5.2: the key expansion, for a key of nk words (4, 6 or 8). Assumes nothing.
use Rattle.std.specs.Prelude.{ℕ, zero, suc, ◌+◌, ◌-◌, ◌*◌, ◌/◌, ◌%◌, cond, ◌&&◌, List, [], ◌∷◌, ◌++◌, ◌==◌, nat_lt, slice_index_or}
use Rattle.aes.specs.Field.{xtime}
use Rattle.aes.specs.SBox.{s_box}
use Rattle.aes.specs.State.{Column, State, column, columns, each, listed, word_at}
use Rattle.aes.specs.Cipher.{plus, Keys}

abbrev pub sub_word : Column → Column
sub_word t = each s_box t

abbrev pub rot_word : Column → Column
rot_word t = column t.s1 t.s2 t.s3 t.s0

-- {02} to the power j
unfoldable pub power : ℕ → ℕ
power zero = 1
power (suc j) = xtime (power j)

-- the round constant i, counted from 1
abbrev pub rcon : ℕ → Column
rcon i = column (power (i - 1)) 0 0 0

-- what word i takes in besides word i − nk, where t is word i − 1
abbrev pub taken : ℕ → ℕ → Column → Column
taken nk i t = cond (i % nk == 0) (plus (sub_word (rot_word t)) (rcon (i / nk))) (cond (nat_lt 6 nk && i % nk == 4) (sub_word t) t)

abbrev pub none : Column
none = column 0 0 0 0

-- the key's nk words, and n words more
unfoldable pub expansion : ℕ → ℕ → List Column → List Column
expansion nk zero key = key
expansion nk (suc n) key =
    let w = expansion nk n key in
    w ++ (plus (slice_index_or w n none) (taken nk (nk + n) (slice_index_or w (nk + n - 1) none)) ∷ [])

-- round key r is the words 4r to 4r + 3
abbrev pub round_key : List Column → ℕ → State
round_key w r = columns (slice_index_or w (4 * r) none) (slice_index_or w (4 * r + 1) none) (slice_index_or w (4 * r + 2) none) (slice_index_or w (4 * r + 3) none)

-- words as the round keys of n whole rounds
abbrev pub keys_of : ℕ → List Column → Keys
keys_of n w = record { first = round_key w 0; middle = listed (round_key w) n 1; last = round_key w (n + 1) }

-- the words of a key in bytes
abbrev pub key_words : ℕ → List ℕ → List Column
key_words nk key = listed (word_at key) nk 0

-- nk words of key give nk + 6 rounds, the last one among them
unfoldable pub key_schedule : ℕ → List ℕ → Keys
key_schedule nk key = keys_of (nk + 5) (expansion nk (4 * (nk + 7) - nk) (key_words nk key))
