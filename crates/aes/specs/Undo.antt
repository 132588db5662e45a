-- Each step of a round is undone, and so are the rounds over any keys. Assumes nothing.
use Rattle.std.specs.Prelude.{◌≡◌, ℕ, ◌<◌, List, [], ◌∷◌, refl}
use Rattle.std.proofs.Common.{ap, ◌∙◌}
use Rattle.aes.specs.SBox.{s_box, inv_s_box}
use Rattle.aes.specs.State.{Column, State, column, columns, each, every, Bytes, Fit, AllFit}
use Rattle.aes.specs.Cipher.{sub_bytes, shift_rows, mix_columns, plus, add_round_key, inv_sub_bytes, inv_shift_rows, inv_mix_columns, whole_round, last_round, rounds, cipher, inv_whole_round, inv_last_round, inv_rounds, inv_cipher, StepsUndo, RoundsUndo}
use Rattle.aes.specs.FieldLemmas.{xor_undo}
use Rattle.aes.specs.Substitution.{boxes_undo}
use Rattle.aes.specs.Mixing.{inv_mix, mix_inv}
use Rattle.aes.specs.Fits.{inv_shift_fit, add_fit, round_fit, inv_rounds_fit}

-- ---- the steps

plus_plus : (j k : Column) → plus (plus j k) k ≡ j
plus_plus j k = λ i. column (xor_undo j.s0 k.s0 i) (xor_undo j.s1 k.s1 i) (xor_undo j.s2 k.s2 i) (xor_undo j.s3 k.s3 i)

add_add : (x k : State) → add_round_key (add_round_key x k) k ≡ x
add_add x k = λ i. columns (plus_plus x.c0 k.c0 i) (plus_plus x.c1 k.c1 i) (plus_plus x.c2 k.c2 i) (plus_plus x.c3 k.c3 i)

pub steps_undo : StepsUndo
steps_undo = record { inv_shift = λ x. refl; shift_inv = λ x. refl; inv_mix = inv_mix; mix_inv = mix_inv; add_add = add_add }

module _ (f g : ℕ → ℕ) (u : (x : ℕ) → x < 256 → f (g x) ≡ x) where
  pub each_undone : (k : Column) → Bytes k → each f (each g k) ≡ k
  each_undone k (h0, h1, h2, h3) = λ i. column (u k.s0 h0 i) (u k.s1 h1 i) (u k.s2 h2 i) (u k.s3 h3 i)

  bytes_undone : (x : State) → Fit x → every (each f) (every (each g) x) ≡ x
  bytes_undone x (h0, h1, h2, h3) = λ i. columns (each_undone x.c0 h0 i) (each_undone x.c1 h1 i) (each_undone x.c2 h2 i) (each_undone x.c3 h3 i)

-- SubBytes and ShiftRows together, and the way back
abbrev stirred : State → State
stirred x = shift_rows (sub_bytes x)

abbrev unstirred : State → State
unstirred x = inv_sub_bytes (inv_shift_rows x)

unstirred_stirred : (x : State) → Fit x → unstirred (stirred x) ≡ x
unstirred_stirred = bytes_undone inv_s_box s_box boxes_undo.inv_sub

stirred_unstirred : (x : State) → Fit x → stirred (unstirred x) ≡ x
stirred_unstirred x h = ap shift_rows (bytes_undone s_box inv_s_box boxes_undo.sub_inv (inv_shift_rows x) (inv_shift_fit x h))

-- ---- the rounds: between two of them stands what is substituted and shifted

undo_round : (k x : State) → Fit x → unstirred (inv_mix_columns (add_round_key (whole_round k x) k)) ≡ x
unfolding whole_round
undo_round k x h = ap (λ y. unstirred (inv_mix_columns y)) (add_add (mix_columns (stirred x)) k) ∙ ap unstirred (inv_mix (stirred x)) ∙ unstirred_stirred x h

redo_round : (k y : State) → Fit (inv_whole_round k y) → whole_round k (unstirred (inv_whole_round k y)) ≡ unstirred y
unfolding whole_round inv_whole_round
redo_round k y h =
    ap (λ z. add_round_key (mix_columns z) k) (stirred_unstirred (inv_mix_columns (add_round_key (unstirred y) k)) h)
    ∙ ap (λ z. add_round_key z k) (mix_inv (add_round_key (unstirred y) k)) ∙ add_add (unstirred y) k

undo_rounds : (ks : List State) (x : State) → AllFit ks → Fit x → unstirred (inv_rounds ks (stirred (rounds ks x))) ≡ x
unfolding rounds inv_rounds inv_whole_round
undo_rounds [] x t h = unstirred_stirred x h
undo_rounds (k ∷ ks) x (hk, t) h =
    ap (λ y. unstirred (inv_mix_columns (add_round_key y k))) (undo_rounds ks (whole_round k x) t (round_fit k x hk h)) ∙ undo_round k x h

redo_rounds : (ks : List State) (y : State) → AllFit ks → Fit y → stirred (rounds ks (unstirred (inv_rounds ks y))) ≡ y
unfolding rounds inv_rounds
redo_rounds [] y t h = stirred_unstirred y h
redo_rounds (k ∷ ks) y (hk, t) h =
    ap (λ z. stirred (rounds ks z)) (redo_round k (inv_rounds ks y) (inv_rounds_fit (k ∷ ks) y (hk, t) h)) ∙ redo_rounds ks y t h

pub rounds_undo : RoundsUndo
unfolding cipher inv_cipher last_round inv_last_round
rounds_undo = record {
  inv_of_cipher = λ w x (hf, hm, hl) h.
      let y = add_round_key x w.first in
      ap (λ z. add_round_key (unstirred (inv_rounds w.middle z)) w.first) (add_add (stirred (rounds w.middle y)) w.last)
      ∙ ap (λ z. add_round_key z w.first) (undo_rounds w.middle y hm (add_fit x w.first h hf)) ∙ add_add x w.first;
  cipher_of_inv = λ w x (hf, hm, hl) h.
      let y = add_round_key x w.last in
      ap (λ z. add_round_key (stirred (rounds w.middle z)) w.last) (add_add (unstirred (inv_rounds w.middle y)) w.first)
      ∙ ap (λ z. add_round_key z w.last) (redo_rounds w.middle y hm (add_fit x w.last h hl)) ∙ add_add x w.last;
}
