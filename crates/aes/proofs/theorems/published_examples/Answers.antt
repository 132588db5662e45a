use Rattle.aes.proofs.Examples.{published}
use Rattle.aes.proofs.theorems.published_examples.Goals as goal

pub returns : goal.returns
returns c = published
