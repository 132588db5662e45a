use Rattle.std.proofs.Common.{◌≡◌, length}
use Rattle.std.specs.Slice.Iter.{chunks_exact_size, chunks_exact_rest}
use Rattle.bench.specs.Sums.{IsWay, summed}
use Rattle.bench.proofs.Blocks.{Left}
use Rattle.bench.proofs.sums.sum_of.Given as goal

-- by whatever map the way goes, that map stays, and the sum is that of the blocks so far
abbrev pub invariant-loop-bytes : goal.invariant-loop-bytes
invariant-loop-bytes g l = record {
  size : chunks_exact_size l.bytes-iterator ≡ g.E.Block.Block.arith.size;
  left : Left g.E.Block.Block.arith.size l.memory (chunks_exact_rest l.bytes-iterator) (length l.yielded);
  sums : (f : _) → IsWay g.E.Engine.means f g.W.Fn l.way
      → (f (g.E.Engine.means l.engine) ≡ f (g.E.Engine.means l.initial.engine))
      × (l.sum ≡ summed g.E.Block.Block.arith (f (g.E.Engine.means l.initial.engine)) l.memory (length l.yielded));
}
