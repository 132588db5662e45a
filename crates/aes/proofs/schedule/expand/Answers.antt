use Rattle.std.proofs.Common.{◌≡◌, ◌-◌, map, length, take, sym, ap, ◌∙◌, arith, take_all}
use Rattle.std.proofs.lemmas.Nat.{div_below, le-div}
use Rattle.aes.specs.Schedule.{expansion}
use Rattle.aes.specs.Words.{unpacked}
use Rattle.aes.proofs.Expansion.{start, expanded}
use Rattle.aes.proofs.schedule.expand.Goals as goal

pub loop-i-init : goal.loop-i-init
loop-i-init c = start c.args.nk _

pub taken_in-t-requires-clause-above : goal.taken_in-t-requires-clause-above
taken_in-t-requires-clause-above c = le-div 1 c.loop-i.i c.args.nk (omega arith) (omega arith)

pub taken_in-t-requires-clause-below : goal.taken_in-t-requires-clause-below
taken_in-t-requires-clause-below c = div_below c.loop-i.i c.args.nk 11 (omega arith) (omega arith)

pub loop-i-preserved : goal.loop-i-preserved
loop-i-preserved c = expanded c.args.nk c.loop-i.i c.loop-i.w _ _ (omega arith) (omega arith) (omega arith) c.loop-i.invariant c.taken_in-t.ensures

pub returns : goal.returns
returns c =
    let end : c.loop-i.i ≡ length c.args.w.now = omega arith in
    ap (map unpacked) (sym (take_all c.loop-i.i c.loop-i.w (omega arith))) ∙ c.loop-i.invariant
    ∙ ap (λ n. expansion c.args.nk (n - c.args.nk) (map unpacked (take c.args.nk c.args.w.now))) end
