use Rattle.std.proofs.Common.{List, ℕ, ap, ◌∙◌}
use Rattle.aes.specs.SBox.{s_box, inv_s_box}
use Rattle.aes.specs.State.{each, word_at}
use Rattle.aes.specs.Cipher.{inv_mix_column}
use Rattle.aes.specs.Words.{unpacked}
use Rattle.aes.specs.Pack.{unpacked_bytes}
use Rattle.aes.specs.Substitution.{boxes_undo}
use Rattle.aes.specs.Undo.{each_undone}
use Rattle.aes.proofs.words.unmixed_column.Goals as goal

pub returns : goal.returns
returns c =
    let w = unpacked c.args.w in
    let s = c.substituted-s.ensures ∙ ap (λ (l : List ℕ). each s_box (word_at l 0)) c.to_be_bytes.ensures in
    let r = c.mixed.ensures ∙ ap (λ (l : List ℕ). inv_mix_column (each inv_s_box (word_at l 0))) c.to_be_bytes-2.ensures in
    r ∙ ap (λ k. inv_mix_column (each inv_s_box k)) s ∙ ap inv_mix_column (each_undone inv_s_box s_box boxes_undo.inv_sub w (unpacked_bytes c.args.w))
