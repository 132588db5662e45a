use Rattle.aes.specs.Undo.{steps_undo}
use Rattle.aes.proofs.theorems.steps_undo.Goals as goal

pub returns : goal.returns
returns c = steps_undo
