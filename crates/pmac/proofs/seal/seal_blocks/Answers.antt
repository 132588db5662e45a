use Rattle.std.proofs.Common.{◌≡◌, ◌+◌, ◌-◌, ◌^◌, ◌<◌, ◌≤◌, sym, refl, ap, ◌∙◌, arith}
use Rattle.bits.specs.Memory.{held}
use Rattle.engine.specs.Meaning.{answered}
use Rattle.pmac.specs.Pmac.{over}
use Rattle.pmac.specs.Stored.{stored}
use Rattle.pmac.proofs.Over.{over_none}
use Rattle.pmac.proofs.Spending.{spent_none, spent_on, asked_ok}
use Rattle.pmac.proofs.Sealing.{inner, next_offset, next_sum}
use Rattle.pmac.proofs.seal.seal_blocks.Goals as goal

pub loop-i-init : goal.loop-i-init
loop-i-init g c =
    let A = g.E.Block.Block.arith in
    let m = g.E.Engine.means c.args.engine.now in
    let none : c.args.range.start - c.args.range.start ≡ 0 = omega arith in
    let f = stored A m.enc c.args.l c.args.memory.now in
    (c.offset-at.ensures, c.zero-sum.ensures ∙ sym (ap (over A f c.args.range.start) none ∙ over_none A f c.args.range.start), spent_none m (c.args.range.start - c.args.range.start) none)

pub block_at-block-requires-clause-inside : goal.block_at-block-requires-clause-inside
block_at-block-requires-clause-inside g c = inner c.loop-i.i c.args.range.end g.E.Block.Block.arith.size _ c.loop-i-test.true (omega arith)

pub loop-i-preserved : goal.loop-i-preserved
loop-i-preserved g c =
    let A = g.E.Block.Block.arith in
    let w = g.met.E.Block.Block.laws in
    let m = g.E.Engine.means c.args.engine.now in
    let k = g.E.Engine.means c.loop-i.engine in
    let i = c.loop-i.i in
    let a = c.args.range.start in
    let from : a ≤ i = omega arith in
    let some : 1 ≤ a = omega arith in
    let fits : i < 2 ^ 64 = omega arith in
    let left : i - a < m.left = omega arith in
    let up : i + 1 - a ≡ i - a + 1 = omega arith in
    let at = next_offset w m.enc c.args.memory.now c.args.l a i from some fits c.loop-i.at c.xor-at.result c.doubled.result c.loop-i.invariant.0 c.doubled.ensures c.xor-at.ensures in
    let block_is : c.xor.result ≡ A.plus (held A c.args.memory.now i) c.xor-at.result = c.xor.ensures ∙ ap (λ b. A.plus b c.xor-at.result) c.block_at-block.ensures in
    let y = asked_ok (λ z. z.enc) (λ _ _. refl) m k (i - a) (A.plus (held A c.args.memory.now i) c.xor-at.result) c.encipher.result c.loop-i.invariant.2 left (c.encipher.ensures.answer ∙ ap (λ b. answered k.left (k.enc b)) block_is) c.in_ok-y.y c.in_ok-y.was in (
      at,
      next_sum w m.enc c.args.memory.now c.args.l a i from some fits c.loop-i.sum c.xor-sum.result c.in_ok-y.y c.xor-at.result c.loop-i.invariant.1 at y c.xor-sum.ensures,
      spent_on m k (g.E.Engine.means c.encipher.new.self) (i - a) 1 (i + 1 - a) c.loop-i.invariant.2 c.encipher.ensures.after up,
    )
