use Rattle.std.proofs.Common.{◌≡◌, ◌-◌, ap, ◌∙◌, arith}
use Rattle.bits.specs.Blocks.{blocks}
use Rattle.bits.proofs.Counts.{blocks_some}
use Rattle.engine.specs.Meaning.{spent}
use Rattle.pmac.specs.Pmac.{over}
use Rattle.pmac.specs.Stored.{stored}
use Rattle.pmac.proofs.Spending.{ok_same}
use Rattle.pmac.proofs.Sums.{in_memory}
use Rattle.pmac.proofs.Recovery.{last_found}
use Rattle.pmac.proofs.lost.last_block.Goals as goal

pub seal_blocks-requires-clause-ordered : goal.seal_blocks-requires-clause-ordered
seal_blocks-requires-clause-ordered g c = omega (arith, blocks_some g.met.E.Block.Block.laws c.args.loss.bits.len)

pub seal_blocks-requires-clause-inside : goal.seal_blocks-requires-clause-inside
seal_blocks-requires-clause-inside g c =
    in_memory g.met.E.Block.Block.laws c.args.loss.bits.memory.now c.args.loss.bits.len c.block_count-count.result (omega arith) (omega arith)

pub returns : goal.returns
returns g c =
    let A = g.E.Block.Block.arith in
    let w = g.met.E.Block.Block.laws in
    let m = g.E.Engine.means c.args.engine.now in
    let l = c.args.loss.l in
    let count = c.block_count-count.ensures in
    let sum_is : c.in_ok-sum.sum ≡ over A (stored A m.enc l c.args.loss.bits.memory.now) 1 (blocks A c.args.loss.bits.len - 1) =
    ok_same c.in_ok-sum.sum _ c.seal_blocks.result c.in_ok-sum.was c.seal_blocks.ensures.answer ∙ ap (λ n. over A (stored A m.enc l c.args.loss.bits.memory.now) 1 (n - 1)) count in
    record {
      answer = let e = last_found w m.enc c.args.loss.bits.memory.now c.args.loss.bits.len (omega arith) l c.args.loss.opened c.in_ok-sum.sum sum_is in cc;
      after = c.seal_blocks.ensures.after ∙ ap (λ n. spent (n - 1) m) count;
    }
