use Rattle.std.proofs.Common.{◌≡◌, refl, ap, ◌∙◌, arith}
use Rattle.xtea.specs.Cycles.{enciphered}
use Rattle.xtea.proofs.Turns.{up}
use Rattle.xtea.proofs.cycles.encipher.Goals as goal

pub loop-init : goal.loop-init
unfolding enciphered
loop-init c = (refl, refl)

pub loop-preserved : goal.loop-preserved
loop-preserved c = up _ _ _ _ _ _ _ _ c.loop.invariant.0 c.loop.invariant.1 c.mix-v.ensures c.mix-w.ensures

pub returns : goal.returns
returns c =
    let e : c.loop.counter ≡ c.args.cycles = omega arith in
    c.loop.invariant.1 ∙ ap (λ n. enciphered c.args.key.now n c.args.block) e
