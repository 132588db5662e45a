use Rattle.aes.specs.Undo.{rounds_undo}
use Rattle.aes.proofs.theorems.rounds_undo.Goals as goal

pub returns : goal.returns
returns c = rounds_undo
