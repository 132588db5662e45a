use Rattle.xtea.specs.Blocks.{published}
use Rattle.xtea.proofs.published_example.Goals as goal

pub returns : goal.returns
returns c = published
