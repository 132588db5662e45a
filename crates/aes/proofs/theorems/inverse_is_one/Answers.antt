use Rattle.aes.specs.FieldLemmas.{inverse_is_one}
use Rattle.aes.proofs.theorems.inverse_is_one.Goals as goal

pub returns : goal.returns
returns c = inverse_is_one
