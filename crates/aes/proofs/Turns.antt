-- The two ways are the standard's cipher and inverse cipher. Assumes nothing.
use Rattle.std.proofs.Common.{◌≡◌, List, [], ◌∷◌, map, reverse, fold, sym, refl, ap, ◌∙◌}
use Rattle.std.proofs.lemmas.Grind.{reverse_onto}
use Rattle.std.proofs.lemmas.List.{map-append}
use Rattle.std.proofs.lemmas.List.Sums.{fold_push}
use Rattle.aes.specs.State.{State}
use Rattle.aes.specs.Cipher.{add_round_key, inv_sub_bytes, inv_shift_rows, mix_columns, inv_mix_columns, Keys, cipher, rounds, inv_cipher, inv_rounds, inv_whole_round, inv_last_round}
use Rattle.aes.specs.Cipher.{whole_round as whole, last_round as last}
use Rattle.aes.specs.Ways.{forth, back, round, last_round, through, mirror, turned_back}
use Rattle.aes.specs.Mixing.{inv_mix_plus}

rounds_forth : (ks : List State) (x : State) → fold (round forth) x ks ≡ rounds ks x
unfolding rounds round whole mix_columns
rounds_forth [] x = refl
rounds_forth (k ∷ ks) x = rounds_forth ks (whole k x)

pub forth_is_cipher : (w : Keys) (x : State) → through forth w x ≡ cipher w x
unfolding through last_round cipher last
forth_is_cipher w x = ap (λ y. last w.last y) (rounds_forth w.middle (add_round_key x w.first))

-- a key that went through InvMixColumns is added after it
abbrev back_key : State → State
back_key k = mirror (inv_mix_columns k)

round_back : (k x : State) → mirror (round back x (back_key k)) ≡ inv_whole_round k (mirror x)
unfolding round inv_whole_round inv_mix_columns
round_back k x = sym (inv_mix_plus (inv_sub_bytes (inv_shift_rows (mirror x))) k)

rounds_back : (ks : List State) (x : State) → mirror (fold (round back) (mirror x) (map back_key (reverse ks))) ≡ inv_rounds ks x
unfolding inv_rounds
rounds_back [] x = refl
rounds_back (k ∷ ks) x =
    let y = fold (round back) (mirror x) (map back_key (reverse ks)) in
    ap (λ l. mirror (fold (round back) (mirror x) (map back_key l))) (reverse_onto ks k [])
    ∙ ap (λ l. mirror (fold (round back) (mirror x) l)) (map-append back_key (reverse ks) (k ∷ []))
    ∙ ap mirror (fold_push (round back) (mirror x) (map back_key (reverse ks)) (back_key k))
    ∙ round_back k y ∙ ap (inv_whole_round k) (rounds_back ks x)

pub back_is_inv_cipher : (w : Keys) (x : State) → mirror (through back (turned_back w) (mirror x)) ≡ inv_cipher w x
unfolding through last_round inv_cipher inv_last_round
back_is_inv_cipher w x = ap (inv_last_round w.first) (rounds_back w.middle (add_round_key x w.last))
