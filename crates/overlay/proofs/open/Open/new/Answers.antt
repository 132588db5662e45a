use Rattle.std.proofs.Common.{refl, arith, rules}
use Rattle.overlay.proofs.Laws.{sum_none}
use Rattle.overlay.proofs.open.Open.new.Goals as goal

pub returns-in-Ok-clause-law : goal.returns-in-Ok-clause-law
returns-in-Ok-clause-law g c =
    rw c.given.ensures.outcome (λ any. record { fits = omega arith; first = refl; l_is = search rules; sum_is = rw (sum_none g.met.E.Block.Block.laws) (search rules) })
