use Rattle.std.proofs.Common.{◌≡◌, ◌*◌, ◌≤◌, ap, arith, rules}
use Rattle.block.specs.Arith.{width}
use Rattle.overlay.proofs.Spans.{counted}
use Rattle.overlay.proofs.judge.whole_block.Goals as goal

pub returns : goal.returns
returns g c =
    let n = c.args.number in
    let some : 1 ≤ n = let z = c.if-number-eq0.false in omega arith in
    let same : n * 8 * c.size.result ≡ n * 8 * g.B.Block.arith.size = ap (λ s. n * 8 * s) c.size.ensures in
    let within : n * width g.B.Block.arith ≤ c.args.bits = let h = c.if-bits-number.false in omega arith in
    record { answer = search rules; counted = λ _. counted g.met.B.Block.laws c.args.bits n some within }
