use Rattle.xtea.specs.Undo.{undone}
use Rattle.xtea.proofs.cycles.cycles_undo.Goals as goal

pub returns : goal.returns
returns c = undone
