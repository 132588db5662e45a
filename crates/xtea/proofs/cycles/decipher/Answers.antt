use Rattle.std.proofs.Common.{◌≡◌, sym, ap, ◌∙◌, arith}
use Rattle.xtea.specs.Cycles.{deciphered}
use Rattle.xtea.proofs.Turns.{down}
use Rattle.xtea.proofs.cycles.decipher.Goals as goal

pub loop-preserved : goal.loop-preserved
loop-preserved c = down _ c.loop.counter _ _ _ _ _ _ _ (omega arith) c.loop.invariant.0 c.loop.invariant.1 c.mix-w.ensures c.mix-v.ensures

pub returns : goal.returns
unfolding deciphered
returns c =
    let e : c.loop.counter ≡ 0 = omega arith in
    ap (λ n. deciphered c.args.key.now n (c.loop.v, c.loop.w)) (sym e) ∙ c.loop.invariant.1
