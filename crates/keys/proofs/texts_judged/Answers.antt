use Rattle.keys.proofs.Judged.{verdicts}
use Rattle.keys.proofs.texts_judged.Goals as goal

pub returns : goal.returns
returns c = verdicts
