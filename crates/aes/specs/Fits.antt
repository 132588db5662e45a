-- Each step keeps bytes bytes. Assumes nothing.
use Rattle.std.specs.Prelude.{ℕ, ◌<◌, List, [], ◌∷◌}
use Rattle.std.proofs.lemmas.Nat.{xor_lt}
use Rattle.aes.specs.Field.{times}
use Rattle.aes.specs.SBox.{s_box, inv_s_box}
use Rattle.aes.specs.State.{Column, State, each, every, Bytes, Fit, AllFit}
use Rattle.aes.specs.Cipher.{row, matrix, plus, sub_bytes, shift_rows, mix_columns, add_round_key, inv_sub_bytes, inv_shift_rows, inv_mix_columns, whole_round, last_round, rounds, Keys, cipher, inv_whole_round, inv_last_round, inv_rounds, inv_cipher, FitKeys}
use Rattle.aes.specs.FieldLemmas.{product_lt}
use Rattle.aes.specs.Substitution.{sub_lt, inv_sub_lt}

row_lt : (p q r s w x y z : ℕ) → w < 256 → x < 256 → y < 256 → z < 256 → row p q r s w x y z < 256
row_lt p q r s w x y z hw hx hy hz =
    xor_lt 8 (times p w) _ (product_lt 8 p w hw) (xor_lt 8 (times q x) _ (product_lt 8 q x hx) (xor_lt 8 (times r y) (times s z) (product_lt 8 r y hy) (product_lt 8 s z hz)))

pub matrix_bytes : (p q r s : ℕ) (k : Column) → Bytes k → Bytes (matrix p q r s k)
matrix_bytes p q r s k (h0, h1, h2, h3) = (
  row_lt p q r s k.s0 k.s1 k.s2 k.s3 h0 h1 h2 h3,
  row_lt p q r s k.s1 k.s2 k.s3 k.s0 h1 h2 h3 h0,
  row_lt p q r s k.s2 k.s3 k.s0 k.s1 h2 h3 h0 h1,
  row_lt p q r s k.s3 k.s0 k.s1 k.s2 h3 h0 h1 h2,
)

every_fit : (f : Column → Column) → ((k : Column) → Bytes k → Bytes (f k)) → (x : State) → Fit x → Fit (every f x)
every_fit f h x (h0, h1, h2, h3) = (h x.c0 h0, h x.c1 h1, h x.c2 h2, h x.c3 h3)

each_fit : (f : ℕ → ℕ) → ((b : ℕ) → b < 256 → f b < 256) → (x : State) → Fit x → Fit (every (each f) x)
each_fit f small = every_fit (each f) (λ k (h0, h1, h2, h3). (small k.s0 h0, small k.s1 h1, small k.s2 h2, small k.s3 h3))

shift_fit : (x : State) → Fit x → Fit (shift_rows x)
shift_fit x ((a, b, c, d), (e, f, g, h), (i, j, k, l), (m, n, o, p)) = ((a, f, k, p), (e, j, o, d), (i, n, c, h), (m, b, g, l))

pub inv_shift_fit : (x : State) → Fit x → Fit (inv_shift_rows x)
inv_shift_fit x ((a, b, c, d), (e, f, g, h), (i, j, k, l), (m, n, o, p)) = ((a, n, k, h), (e, b, o, l), (i, f, c, p), (m, j, g, d))

plus_bytes : (j k : Column) → Bytes j → Bytes k → Bytes (plus j k)
plus_bytes j k (a, b, c, d) (e, f, g, h) = (xor_lt 8 j.s0 k.s0 a e, xor_lt 8 j.s1 k.s1 b f, xor_lt 8 j.s2 k.s2 c g, xor_lt 8 j.s3 k.s3 d h)

pub add_fit : (x k : State) → Fit x → Fit k → Fit (add_round_key x k)
add_fit x k (a, b, c, d) (e, f, g, h) = (plus_bytes x.c0 k.c0 a e, plus_bytes x.c1 k.c1 b f, plus_bytes x.c2 k.c2 c g, plus_bytes x.c3 k.c3 d h)

stirred_fit : (x : State) → Fit x → Fit (shift_rows (sub_bytes x))
stirred_fit x h = shift_fit (sub_bytes x) (each_fit s_box sub_lt x h)

pub unstirred_fit : (x : State) → Fit x → Fit (inv_sub_bytes (inv_shift_rows x))
unstirred_fit x h = each_fit inv_s_box inv_sub_lt (inv_shift_rows x) (inv_shift_fit x h)

mix_fit : (x : State) → Fit x → Fit (mix_columns x)
unfolding mix_columns
mix_fit = every_fit (matrix 2 3 1 1) (matrix_bytes 2 3 1 1)

inv_mix_fit : (x : State) → Fit x → Fit (inv_mix_columns x)
unfolding inv_mix_columns
inv_mix_fit = every_fit (matrix 14 11 13 9) (matrix_bytes 14 11 13 9)

pub round_fit : (k x : State) → Fit k → Fit x → Fit (whole_round k x)
unfolding whole_round
round_fit k x hk hx = add_fit (mix_columns (shift_rows (sub_bytes x))) k (mix_fit (shift_rows (sub_bytes x)) (stirred_fit x hx)) hk

pub inv_round_fit : (k x : State) → Fit k → Fit x → Fit (inv_whole_round k x)
unfolding inv_whole_round
inv_round_fit k x hk hx = inv_mix_fit (add_round_key (inv_sub_bytes (inv_shift_rows x)) k) (add_fit (inv_sub_bytes (inv_shift_rows x)) k (unstirred_fit x hx) hk)

pub rounds_fit : (ks : List State) (x : State) → AllFit ks → Fit x → Fit (rounds ks x)
unfolding rounds
rounds_fit [] x t h = h
rounds_fit (k ∷ ks) x (hk, t) h = rounds_fit ks (whole_round k x) t (round_fit k x hk h)

pub inv_rounds_fit : (ks : List State) (x : State) → AllFit ks → Fit x → Fit (inv_rounds ks x)
unfolding inv_rounds
inv_rounds_fit [] x t h = h
inv_rounds_fit (k ∷ ks) x (hk, t) h = inv_round_fit k (inv_rounds ks x) hk (inv_rounds_fit ks x t h)

pub cipher_fit : (w : Keys) (x : State) → FitKeys w → Fit x → Fit (cipher w x)
unfolding cipher last_round
cipher_fit w x (hf, hm, hl) hx =
    let y = rounds w.middle (add_round_key x w.first) in
    add_fit (shift_rows (sub_bytes y)) w.last (stirred_fit y (rounds_fit w.middle (add_round_key x w.first) hm (add_fit x w.first hx hf))) hl

pub inv_cipher_fit : (w : Keys) (x : State) → FitKeys w → Fit x → Fit (inv_cipher w x)
unfolding inv_cipher inv_last_round
inv_cipher_fit w x (hf, hm, hl) hx =
    let y = inv_rounds w.middle (add_round_key x w.last) in
    add_fit (inv_sub_bytes (inv_shift_rows y)) w.first (unstirred_fit y (inv_rounds_fit w.middle (add_round_key x w.last) hm (add_fit x w.last hx hl))) hf
