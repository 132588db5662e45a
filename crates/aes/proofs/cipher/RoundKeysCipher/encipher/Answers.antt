use Rattle.std.proofs.Common.{ap, ◌∙◌}
use Rattle.aes.specs.Ways.{forth, through}
use Rattle.aes.specs.Keyed.{keys_in}
use Rattle.aes.specs.MapsLemmas.{enciphered}
use Rattle.aes.proofs.Turns.{forth_is_cipher}
use Rattle.aes.proofs.cipher.RoundKeysCipher.encipher.Goals as goal

pub returns : goal.returns
returns c =
    let w = keys_in c.args.self.now in
    enciphered c.args.self.now c.args.block _ _ c.into-2.ensures (c.through.ensures ∙ ap (through forth w) c.into.ensures ∙ forth_is_cipher w _)
