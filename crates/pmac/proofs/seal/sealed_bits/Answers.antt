use Rattle.std.proofs.Common.{◌≡◌, ◌+◌, ◌-◌, Ok, refl, ap, ◌∙◌, ap₂, arith}
use Rattle.bits.specs.Blocks.{blocks}
use Rattle.bits.proofs.Counts.{blocks_some}
use Rattle.pmac.specs.Pmac.{over}
use Rattle.pmac.specs.Stored.{stored}
use Rattle.pmac.proofs.Spending.{spent_on, spent_none, ok_same, asked_ok}
use Rattle.pmac.proofs.Sealing.{sealing_made}
use Rattle.pmac.proofs.Sums.{in_memory}
use Rattle.pmac.proofs.seal.sealed_bits.Goals as goal

pub seal_blocks-requires-clause-ordered : goal.seal_blocks-requires-clause-ordered
seal_blocks-requires-clause-ordered g c = omega (arith, blocks_some g.met.E.Block.Block.laws c.args.bits.len)

pub seal_blocks-requires-clause-inside : goal.seal_blocks-requires-clause-inside
seal_blocks-requires-clause-inside g c =
    in_memory g.met.E.Block.Block.laws c.args.bits.memory.now c.args.bits.len c.block_count-count.result (omega arith) (omega arith)

pub closed-requires : goal.closed-requires
closed-requires g c =
    let some = blocks_some g.met.E.Block.Block.laws c.args.bits.len in
    let first = ap (λ z. z.left) c.encipher.ensures.after in
    let second = ap (λ z. z.left) c.seal_blocks.ensures.after in
    omega arith

pub returns : goal.returns
returns g c =
    let A = g.E.Block.Block.arith in
    let w = g.met.E.Block.Block.laws in
    let m = g.E.Engine.means c.args.engine.now in
    let b = c.args.bits.len in
    let k = blocks A b in
    let some = blocks_some w b in
    let memory = c.args.bits.memory.now in
    let l = c.in_ok-l.l in
    let none : m ≡ _ = spent_none m 0 refl in
    let l_is : l ≡ m.enc A.zero = asked_ok (λ z. z.enc) (λ _ _. refl) m m 0 c.zero.result c.encipher.result none (omega arith) c.encipher.ensures.answer l c.in_ok-l.was ∙ ap m.enc c.zero.ensures in
    let first = c.encipher.ensures.after in
    let count : k ≡ 1 + (c.block_count-count.result - 1) = let e = c.block_count-count.ensures in omega arith in
    let j = g.E.Engine.means c.seal_blocks.new.engine in
    let middle = spent_on m (g.E.Engine.means c.encipher.new.self) j 1 (c.block_count-count.result - 1) k first c.seal_blocks.ensures.after count in
    let sum_is : c.in_ok-sum.sum ≡ over A (stored A m.enc l memory) 1 (k - 1) =
    ok_same c.in_ok-sum.sum _ c.seal_blocks.result c.in_ok-sum.was c.seal_blocks.ensures.answer
    ∙ ap₂ (λ f n. over A (stored A f l memory) 1 (n - 1)) (ap (λ z. z.enc) first) c.block_count-count.ensures in
    let sum = c.in_ok-sum.sum in
    let tag_is : c.in_ok-tag.tag ≡ m.enc (A.plus sum c.ending.result) =
    ok_same c.in_ok-tag.tag _ c.closed.result c.in_ok-tag.was c.closed.ensures.answer ∙ ap (λ z. z.enc (A.plus sum c.ending.result)) middle in
    record {
      answer = ap Ok (sealing_made w m.enc memory b (omega arith) l sum c.ending.result c.in_ok-tag.tag l_is sum_is c.ending.ensures tag_is);
      after = spent_on m j (g.E.Engine.means c.closed.new.engine) k 1 (k + 1) middle c.closed.ensures.after refl;
    }
