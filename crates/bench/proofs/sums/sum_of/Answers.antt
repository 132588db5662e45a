use Rattle.std.proofs.Common.{◌<◌, ℕ, length, sym, refl, ap, ◌∙◌, subst, arith}
use Rattle.std.proofs.lemmas.List.{length_push}
use Rattle.std.specs.Slice.Iter.{chunks_exact_size, chunks_exact_rest}
use Rattle.block.specs.Arith.{from_bytes}
use Rattle.bench.specs.Sums.{summed}
use Rattle.bench.proofs.Blocks.{Left, none_gone, chunk, left_more, none_left, given, more}
use Rattle.bench.proofs.sums.sum_of.Goals as goal

pub loop-bytes-init : goal.loop-bytes-init
unfolding summed
loop-bytes-init g c =
    let same = c.into_iter-bytes-iterator.ensures.into_iter_gives in record {
      size = ap chunks_exact_size same ∙ c.chunks_exact-bytes-items.ensures.size ∙ c.size.ensures;
      left = none_gone g.E.Block.Block.arith.size c.args.memory.now _ (ap chunks_exact_rest same ∙ c.chunks_exact-bytes-items.ensures.rest);
      sums = λ f way. (refl, c.zero-sum.ensures);
    }

pub loop-bytes-preserved : goal.loop-bytes-preserved
loop-bytes-preserved g c =
    let A = g.E.Block.Block.arith in
    let memory = c.args.memory.now in
    let k = length c.loop-bytes.yielded in
    let size = c.loop-bytes.invariant.size in
    let left = c.loop-bytes.invariant.left in
    let step = c.in-Some.ensures.steps in
    let long = step.1.1 ∙ size in
    let pushed = length_push c.loop-bytes.yielded c.in-Some.bytes in
    let bytes = chunk A.size memory _ c.in-Some.bytes.now _ k left step.1.0 long in
    let P : ℕ → Type 0 = λ n. Left A.size memory (chunks_exact_rest c.next.new.self) n in record {
      size = step.0 ∙ size;
      left = subst P (sym pushed) (left_more A.size memory _ c.in-Some.bytes.now _ k left step.1.0 long);
      sums = λ f way.
          let kept = c.loop-bytes.invariant.sums f way in
          let gone = way _ _ _ _ c.way.ensures in (
            gone.1 ∙ kept.0,
            more A _ _ memory k c.loop-bytes.sum c.xor-sum.result _ c.in_ok-way.field-0 kept.0 kept.1
                (c.read.ensures ∙ ap (from_bytes A) bytes) (given _ _ _ (sym c.in_ok-way.was ∙ gone.0)) c.xor-sum.ensures
                ∙ ap (summed A (f (g.E.Engine.means c.args.engine.now)) memory) (sym pushed),
          );
    }

pub returns : goal.returns
returns g c = λ f way.
    let A = g.E.Block.Block.arith in
    let memory = c.args.memory.now in
    let size = c.loop-bytes.invariant.size in
    let last = c.in-None.ensures.steps.1.0 in
    let short : length (chunks_exact_rest c.loop-bytes.bytes-iterator) < A.size = omega arith in
    (c.loop-bytes.invariant.sums f way).1
    ∙ ap (summed A (f (g.E.Engine.means c.args.engine.now)) memory) (none_left A.size memory _ (length c.loop-bytes.yielded) c.loop-bytes.invariant.left short)
