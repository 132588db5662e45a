use Rattle.aes.specs.Substitution.{boxes_undo}
use Rattle.aes.proofs.theorems.boxes_undo.Goals as goal

pub returns : goal.returns
returns c = boxes_undo
