use Rattle.std.proofs.Common.{◌++◌, map, reverse, ap, ap₂, ◌∙◌, sym, arith, length-set, take_all, append-nil, refl}
use Rattle.std.proofs.lemmas.List.{drop_all}
use Rattle.std.proofs.lemmas.Simd.{map-map}
use Rattle.aes.specs.State.{State}
use Rattle.aes.specs.Cipher.{inv_mix_columns}
use Rattle.aes.specs.Ways.{mirror}
use Rattle.aes.specs.Words.{state_of}
use Rattle.aes.specs.declared.words.Words.{Words}
use Rattle.aes.proofs.Expansion.{changed, map_reverse}
use Rattle.aes.proofs.way_keys.back_keys.Goals as goal

pub loop-key-init : goal.loop-key-init
loop-key-init c = (c.reverse.ensures.len ∙ c.told-keys, refl)

pub loop-key-preserved : goal.loop-key-preserved
loop-key-preserved c = (
  (simp length-set c.loop-key.invariant.0),
  changed (λ k. mirror (inv_mix_columns (state_of k))) c.loop-key.key-items c.loop-key.key-index _ c.mirrored.result (omega arith) (c.mirrored.ensures ∙ ap mirror c.unmixed.ensures) ∙ c.loop-key.invariant.1,
)

pub returns : goal.returns
returns c =
    let f : Words → State = λ k. mirror (inv_mix_columns (state_of k)) in
    let h : State → State = λ k. mirror (inv_mix_columns k) in
    let n = c.loop-key.key-index in
    let ks = c.loop-key.key-items in
    sym (append-nil (map state_of ks))
    ∙ sym (ap₂ (λ l m. map state_of l ++ map f m) (take_all n ks (omega arith)) (drop_all n ks (omega arith)))
    ∙ c.loop-key.invariant.1 ∙ ap (map f) c.reverse.ensures.after ∙ sym (map-map h state_of (reverse c.args.keys.now)) ∙ ap (map h) (map_reverse state_of c.args.keys.now)
