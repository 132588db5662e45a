use Rattle.std.proofs.Common.{ap, ◌∙◌}
use Rattle.block.specs.Width.{digits}
use Rattle.aes.specs.State.{state}
use Rattle.aes.specs.Ways.{back, through, mirror}
use Rattle.aes.specs.Words.{keys_of}
use Rattle.aes.specs.Keyed.{keys_in}
use Rattle.aes.specs.MapsLemmas.{deciphered}
use Rattle.aes.proofs.Turns.{back_is_inv_cipher}
use Rattle.aes.proofs.cipher.RoundKeysCipher.decipher.Goals as goal

pub returns : goal.returns
returns c =
    let k = c.args.self.now in
    let s = state (digits 16 c.args.block.value) in
    let y = c.through.ensures ∙ ap (through back (keys_of k.back)) (c.mirrored-x.ensures ∙ ap mirror c.from.ensures) ∙ ap (λ w. through back w (mirror s)) k.turned in
    deciphered k c.args.block _ _ c.into.ensures (c.mirrored.ensures ∙ ap mirror y ∙ back_is_inv_cipher (keys_in k) s)
