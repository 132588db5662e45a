-- FIPS 197, sections 5.1 and 5.3: the cipher and the inverse cipher, over any list of round keys. Assumes nothing.
use Rattle.std.specs.Prelude.{◌≡◌, ℕ, List, [], ◌∷◌, bit_xor}
use Rattle.aes.specs.Field.{times}
use Rattle.aes.specs.SBox.{s_box, inv_s_box}
use Rattle.aes.specs.State.{Column, State, column, columns, each, every, Fit, AllFit}

-- SubBytes, 5.1.1
abbrev pub sub_bytes : State → State
sub_bytes x = every (each s_box) x

-- ShiftRows, 5.1.2: row r moves r columns to the left
abbrev pub shift_rows : State → State
shift_rows x =
    columns (column x.c0.s0 x.c1.s1 x.c2.s2 x.c3.s3) (column x.c1.s0 x.c2.s1 x.c3.s2 x.c0.s3)
    (column x.c2.s0 x.c3.s1 x.c0.s2 x.c1.s3) (column x.c3.s0 x.c0.s1 x.c1.s2 x.c2.s3)

-- the row p q r s of a matrix times a column, and the matrix whose rows are that one turned
abbrev pub row : ℕ → ℕ → ℕ → ℕ → ℕ → ℕ → ℕ → ℕ → ℕ
row p q r s w x y z = bit_xor (times p w) (bit_xor (times q x) (bit_xor (times r y) (times s z)))

abbrev pub matrix : ℕ → ℕ → ℕ → ℕ → Column → Column
matrix p q r s k =
    column (row p q r s k.s0 k.s1 k.s2 k.s3) (row p q r s k.s1 k.s2 k.s3 k.s0)
    (row p q r s k.s2 k.s3 k.s0 k.s1) (row p q r s k.s3 k.s0 k.s1 k.s2)

-- MixColumns, 5.1.3
abbrev pub mix_column : Column → Column
mix_column = matrix 2 3 1 1

unfoldable pub mix_columns : State → State
mix_columns x = every mix_column x

-- AddRoundKey, 5.1.4; a sum of columns is also the standard's xor of words
abbrev pub plus : Column → Column → Column
plus j k = column (bit_xor j.s0 k.s0) (bit_xor j.s1 k.s1) (bit_xor j.s2 k.s2) (bit_xor j.s3 k.s3)

abbrev pub add_round_key : State → State → State
add_round_key x k = columns (plus x.c0 k.c0) (plus x.c1 k.c1) (plus x.c2 k.c2) (plus x.c3 k.c3)

-- InvShiftRows, 5.3.1: row r moves r columns to the right
abbrev pub inv_shift_rows : State → State
inv_shift_rows x =
    columns (column x.c0.s0 x.c3.s1 x.c2.s2 x.c1.s3) (column x.c1.s0 x.c0.s1 x.c3.s2 x.c2.s3)
    (column x.c2.s0 x.c1.s1 x.c0.s2 x.c3.s3) (column x.c3.s0 x.c2.s1 x.c1.s2 x.c0.s3)

-- InvSubBytes, 5.3.2
abbrev pub inv_sub_bytes : State → State
inv_sub_bytes x = every (each inv_s_box) x

-- InvMixColumns, 5.3.3
abbrev pub inv_mix_column : Column → Column
inv_mix_column = matrix 14 11 13 9

unfoldable pub inv_mix_columns : State → State
inv_mix_columns x = every inv_mix_column x

-- ---- the cipher

-- a whole round, and the last one, which mixes no columns
unfoldable pub whole_round : State → State → State
whole_round k x = add_round_key (mix_columns (shift_rows (sub_bytes x))) k

unfoldable pub last_round : State → State → State
last_round k x = add_round_key (shift_rows (sub_bytes x)) k

unfoldable pub rounds : List State → State → State
rounds [] x = x
rounds (k ∷ ks) x = rounds ks (whole_round k x)

-- the round keys: the first, one for each whole round, and the last
pub record Keys : Type 0 where
  pub first : State
  pub middle : List State
  pub last : State

unfoldable pub cipher : Keys → State → State
cipher w x = last_round w.last (rounds w.middle (add_round_key x w.first))

-- ---- the inverse cipher

unfoldable pub inv_whole_round : State → State → State
inv_whole_round k x = inv_mix_columns (add_round_key (inv_sub_bytes (inv_shift_rows x)) k)

unfoldable pub inv_last_round : State → State → State
inv_last_round k x = add_round_key (inv_sub_bytes (inv_shift_rows x)) k

-- the last key first
unfoldable pub inv_rounds : List State → State → State
inv_rounds [] x = x
inv_rounds (k ∷ ks) x = inv_whole_round k (inv_rounds ks x)

unfoldable pub inv_cipher : Keys → State → State
inv_cipher w x = inv_last_round w.first (inv_rounds w.middle (add_round_key x w.last))

-- ---- what is undone

-- the steps, at every state; SubBytes is undone byte by byte (BoxesUndo)
pub record StepsUndo : Type 0 where
  pub inv_shift : (x : State) → inv_shift_rows (shift_rows x) ≡ x
  pub shift_inv : (x : State) → shift_rows (inv_shift_rows x) ≡ x
  pub inv_mix : (x : State) → inv_mix_columns (mix_columns x) ≡ x
  pub mix_inv : (x : State) → mix_columns (inv_mix_columns x) ≡ x
  pub add_add : (x k : State) → add_round_key (add_round_key x k) k ≡ x

abbrev pub FitKeys : Keys → Type 0
FitKeys w = Fit w.first × AllFit w.middle × Fit w.last

-- over any round keys, however many, each cipher undoes the other
pub record RoundsUndo : Type 0 where
  pub inv_of_cipher : (w : Keys) (x : State) → FitKeys w → Fit x → inv_cipher w (cipher w x) ≡ x
  pub cipher_of_inv : (w : Keys) (x : State) → FitKeys w → Fit x → cipher w (inv_cipher w x) ≡ x
