use Rattle.std.proofs.Common.{◌≡◌, ◌+◌, ◌-◌, refl, ap, ◌∙◌, ap₂, arith}
use Rattle.bits.specs.Blocks.{blocks}
use Rattle.pmac.specs.Pmac.{over}
use Rattle.pmac.specs.Stored.{stored}
use Rattle.pmac.proofs.Spending.{ok_same, spent_on, asks_on}
use Rattle.pmac.proofs.Sums.{in_memory}
use Rattle.pmac.proofs.Recovery.{inner_found}
use Rattle.pmac.proofs.lost.inner_block.Goals as goal

pub seal_blocks-requires-clause-inside : goal.seal_blocks-requires-clause-inside
seal_blocks-requires-clause-inside g c = in_memory g.met.E.Block.Block.laws c.args.loss.bits.memory.now c.args.loss.bits.len c.args.i (omega arith) (omega arith)

pub seal_blocks-requires-2-clause-inside : goal.seal_blocks-requires-2-clause-inside
seal_blocks-requires-2-clause-inside g c =
    in_memory g.met.E.Block.Block.laws c.args.loss.bits.memory.now c.args.loss.bits.len c.block_count-count.result (omega arith) (omega arith)

pub returns : goal.returns
returns g c =
    let A = g.E.Block.Block.arith in
    let w = g.met.E.Block.Block.laws in
    let m = g.E.Engine.means c.args.engine.now in
    let k = blocks A c.args.loss.bits.len in
    let i = c.args.i in
    let l = c.args.loss.l in
    let memory = c.args.loss.bits.memory.now in
    let count = c.block_count-count.ensures in
    let first = c.seal_blocks.ensures.after in
    let all : k - 2 ≡ i - 1 + (c.block_count-count.result - (i + 1)) = omega arith in
    let second = spent_on m (g.E.Engine.means c.seal_blocks.new.engine) (g.E.Engine.means c.seal_blocks-2.new.engine) (i - 1) (c.block_count-count.result - (i + 1)) (k - 2) first c.seal_blocks-2.ensures.after all in
    let before_is : c.in_ok-before.before ≡ over A (stored A m.enc l memory) 1 (i - 1) =
    ok_same c.in_ok-before.before _ c.seal_blocks.result c.in_ok-before.was c.seal_blocks.ensures.answer in
    let behind_is : c.in_ok-behind.behind ≡ over A (stored A m.enc l memory) (i + 1) (k - (i + 1)) =
    ok_same c.in_ok-behind.behind _ c.seal_blocks-2.result c.in_ok-behind.was c.seal_blocks-2.ensures.answer
    ∙ ap₂ (λ f n. over A (stored A f l memory) (i + 1) (n - (i + 1))) (ap (λ z. z.enc) first) count in
    let y = c.xor-y.result in
    let here = inner_found w m.enc memory c.args.loss.bits.len (omega arith) m.dec l c.args.loss.opened i (omega arith) (omega arith)
    c.ending-ending.result c.in_ok-before.before c.in_ok-behind.behind y (m.dec y) c.offset.result
    c.ending-ending.ensures before_is behind_is (c.xor-y.ensures ∙ ap₂ A.plus c.xor.ensures c.xor-2.ensures) refl c.offset.ensures in
    asks_on (k - 2) 1 (k - 1) second c.unmasked.ensures (omega arith)
    (ap (λ z. A.plus (z.dec y) c.offset.result) second ∙ here)
