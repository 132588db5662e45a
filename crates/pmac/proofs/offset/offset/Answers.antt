use Rattle.std.proofs.Common.{◌≡◌, sym, ap, ◌∙◌, arith}
use Rattle.pmac.specs.Pmac.{gray, spread}
use Rattle.block.proofs.Group.{zero_l, zero_r}
use Rattle.pmac.proofs.Gray.{gray_lt, spread_none, offset_spread, bit_in, bit_out}
use Rattle.pmac.proofs.offset.offset.Goals as goal
use Rattle.pmac.proofs.offset.offset.Goals.{then-g-eq1, else-g-eq1}

pub loop-g-init : goal.loop-g-init
loop-g-init g c =
    let A = g.B.Block.arith in
    let all = spread A 64 (gray c.args.i) c.args.l in
    (gray_lt 64 c.args.i (omega arith), ap (λ z. A.plus z all) c.zero-sum.ensures ∙ zero_l g.met.B.Block.laws all)

pub loop-g-preserved : goal.loop-g-preserved
loop-g-preserved g c =
    let A = g.B.Block.arith in
    let w = g.met.B.Block.laws in
    let h = c.loop-g.invariant.0 in (
      omega arith,
      elim c.if-g-eq1.branch [
        | then-g-eq1 v ↦ bit_in w 64 c.loop-g.g c.loop-g.sum c.if-g-eq1.sum c.loop-g.x c.double-x.result _ h (omega arith) (v.sum-is ∙ v.xor-sum.ensures) c.double-x.ensures c.loop-g.invariant.1
        | else-g-eq1 v ↦ bit_out w 64 c.loop-g.g c.loop-g.sum c.if-g-eq1.sum c.loop-g.x c.double-x.result _ h (omega arith) v.sum-is c.double-x.ensures c.loop-g.invariant.1
      ],
    )

pub returns : goal.returns
returns g c =
    let A = g.B.Block.arith in
    let w = g.met.B.Block.laws in
    let done : c.loop-g.g ≡ 0 = omega arith in
    sym (ap (A.plus c.loop-g.sum) (ap (λ z. spread A 64 z c.loop-g.x) done ∙ spread_none w 64 c.loop-g.x) ∙ zero_r w c.loop-g.sum)
    ∙ c.loop-g.invariant.1 ∙ sym (offset_spread w 64 c.args.i c.args.l (omega arith))
