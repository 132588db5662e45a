use Rattle.std.proofs.Common.{◌≡◌, ◌&&◌, length}
use Rattle.overlay.specs.Receiving.{same}
use Rattle.overlay.proofs.judge.same_bytes.Given as goal

abbrev pub invariant-loop-x : goal.invariant-loop-x
invariant-loop-x l =
    let xs = l.x-iterator.a.rest.now in
    let ys = l.x-iterator.b.rest.now in (same l.a l.b ≡ l.right && same xs ys) × (length xs ≡ length ys)
