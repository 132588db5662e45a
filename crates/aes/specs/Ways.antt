-- FIPS 197, section 5.3.5, the equivalent inverse cipher: the way back is the way forth with another S-box and another
-- matrix, over mirrored columns and under keys made for it. Assumes nothing.
use Rattle.std.specs.Prelude.{ℕ, fold, map, reverse}
use Rattle.aes.specs.SBox.{s_box, inv_s_box}
use Rattle.aes.specs.State.{Column, State, columns, each, every}
use Rattle.aes.specs.Cipher.{matrix, shift_rows, add_round_key, inv_mix_columns, Keys}

-- what a way does to a byte, and the first row of the matrix by which it mixes a column
pub record Steps : Type 0 where
  pub sub : ℕ → ℕ
  pub p : ℕ
  pub q : ℕ
  pub r : ℕ
  pub s : ℕ

abbrev pub forth : Steps
forth = record { sub = s_box; p = 2; q = 3; r = 1; s = 1 }

abbrev pub back : Steps
back = record { sub = inv_s_box; p = 14; q = 11; r = 13; s = 9 }

abbrev pub mixing : Steps → Column → Column
mixing t k = matrix t.p t.q t.r t.s k

-- a whole round and the last one, from a state and a key
unfoldable pub round : Steps → State → State → State
round t x k = add_round_key (every (mixing t) (shift_rows (every (each t.sub) x))) k

unfoldable pub last_round : Steps → State → State → State
last_round t x k = add_round_key (shift_rows (every (each t.sub) x)) k

unfoldable pub through : Steps → Keys → State → State
through t w x = last_round t (fold (round t) (add_round_key x w.first) w.middle) w.last

-- column 0 stays, and the others stand the other way round
abbrev pub mirror : State → State
mirror x = columns x.c0 x.c3 x.c2 x.c1

-- the keys of the way back, in the order of their use
abbrev pub turned_back : Keys → Keys
turned_back w = record {
  first = mirror w.last;
  middle = map (λ k. mirror (inv_mix_columns k)) (reverse w.middle);
  last = mirror w.first;
}
