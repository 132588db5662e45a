use Rattle.std.proofs.Common.{◌≤◌, length, sym, ap, ◌∙◌, arith}
use Rattle.overlay.specs.Refusals.{overlay_refusal}
use Rattle.overlay.specs.Views.{state, taken}
use Rattle.report.proofs.Sealing.{open_stops}
use Rattle.report.proofs.seal.make_calls.Goals as goal

pub returns-in-Err : goal.returns-in-Err
returns-in-Err g c =
    let memory = c.args.memory.now in
    let back = c.in-Err.refused in
    let slip = c.new-outcome.result.slip.count in
    let small : length memory ≤ 65536 = omega arith in
    open_stops g.met.E.Block.Block.laws (g.E.Engine.means c.args.engine) (g.E.Engine.means back.back) memory c.args.message.now (overlay_refusal back.fault) slip small
    (sym (ap (λ o. taken (state g.E.Engine.means) g.E.Engine.means o slip) c.in-Err.is) ∙ c.new-outcome.ensures.after)
