use Rattle.std.proofs.Common.{◌≡◌, [], ◌∷◌, length, take, drop, replicate, Result, sym, ap, ◌∙◌, arith}
use Rattle.std.proofs.lemmas.List.{take_at, length-take-le}
use Rattle.overlay.specs.Calls.{tag}
use Rattle.overlay.specs.Views.{state, world}
use Rattle.overlay.specs.Refusals.{outcome, carried}
use Rattle.overlay.specs.declared.fault.OverlayFault.{OverlayFault}
use Rattle.history.specs.Desk.{Turn, turn, after_tag, open_one}
use Rattle.history.specs.Reckoning.{Answer, says}
use Rattle.history.specs.Views.{said_of}
use Rattle.overlay.specs.Laws.{then}
use Rattle.history.proofs.calls.tag_of.Goals as goal
use Rattle.history.proofs.calls.tag_of.Goals.{in-Ok, in-Err}

pub returns : goal.returns
returns g c =
    let means = g.E.Engine.means in
    let memory = c.args.memory.now in
    let a = c.tag-outcome.result in
    let s = state means c.tag-outcome.new.self in
    let buffer = c.tag-outcome.new.buffer in
    let n = c.min-length.result in
    let of : Answer → Turn g.row.E-Block.Denot = λ x. record { answer = x; overlay = open_one s; memory = memory; slip = a.slip.count ∷ [] } in
    let with_memory : Turn g.row.E-Block.Denot → Turn g.row.E-Block.Denot = λ t. record { answer = t.answer; overlay = t.overlay; memory = memory; slip = t.slip } in
    let front = ap with_memory c.told.ensures in
    let back =
    ap after_tag c.tag-outcome.ensures.after
    ∙ ap (λ z. after_tag (tag g.E.Block.Block.arith (world means c.args.opened memory (take z (replicate 17 0))))) c.min-length.ensures in
    let long : length buffer ≡ n = c.tag-outcome.auto.buffer ∙ length-take-le n (replicate 17 0) (omega arith) in
    let said : Result (Unit {0}) OverlayFault → Turn g.row.E-Block.Denot = λ o. turn (outcome o) (then (outcome o) buffer []) (open_one s) memory a.slip.count in
    elim c.match-outcome.branch [
      | in-Ok w ↦
          front
          ∙ ap (λ x. of (said_of x)) w.said-is
          ∙ ap (λ z. of (says carried z)) (take_at buffer (drop n (replicate 17 0)) n long)
          ∙ sym (ap said w.in-Ok.is)
          ∙ back
      | in-Err w ↦ front ∙ ap (λ x. of (said_of x)) w.said-is ∙ sym (ap said w.in-Err.is) ∙ back
    ]
