use Rattle.std.proofs.Common.{ap, ◌∙◌}
use Rattle.block.specs.Width.{digits}
use Rattle.aes.specs.State.{state}
use Rattle.aes.specs.Pack.{split_state}
use Rattle.aes.proofs.words.WordsFromBlock128.from.Goals as goal

pub returns : goal.returns
returns c = split_state c.value-x.result ∙ ap (λ v. state (digits 16 v)) c.value-x.ensures
