use Rattle.std.proofs.Common.{sym, ap, ◌∙◌}
use Rattle.engine.specs.Refusals.{made_by}
use Rattle.bench.specs.Sums.{total, total_under}
use Rattle.bench.proofs.Blocks.{reached}
use Rattle.bench.proofs.sum_under.Goals as goal

pub returns : goal.returns
returns g c = λ f way.
    let A = g.C.Block.Block.arith in
    let memory = c.args.memory.now in
    let made = sym (ap (made_by g.C.Engine.means) c.in-Ok.is) ∙ c.new.ensures in
    reached _ _ (total A (f (g.C.Engine.means c.in-Ok.engine)) memory) _ c.ok.ensures.value (c.sum_of.ensures f way) (ap (λ m. total_under A f m memory) made)
