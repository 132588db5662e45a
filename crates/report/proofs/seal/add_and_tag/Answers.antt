use Rattle.std.proofs.Common.{◌+◌, [], Err, sym, ap, ◌∙◌, ap₂}
use Rattle.std.proofs.lemmas.Result.{err_from_is_err_and}
use Rattle.overlay.specs.Refusals.{overlay_refusal, outcome}
use Rattle.overlay.specs.Views.{world, seen}
use Rattle.report.specs.Calls.{tagged, ended}
use Rattle.report.proofs.Sealing.{came_stopped, add_stops, tag_ends}
use Rattle.report.proofs.seal.add_and_tag.Goals as goal

pub returns-in_err-outcome : goal.returns-in_err-outcome
returns-in_err-outcome g c =
    let v = world g.E.Engine.means c.args.opened.now c.args.memory.now [] in
    let a = seen c.add-outcome.result (world g.E.Engine.means c.add-outcome.new.self c.add-outcome.new.memory []) in
    let p = err_from_is_err_and c.from_residual.result c.from_residual.ensures.1 in
    came_stopped c.args.tag.now c.from_residual.result c.in_err-outcome.field-0.0 (p.1 ∙ ap Err p.2)
    ∙ add_stops g.met.E.Block.Block.laws v c.args.message.now c.args.tag.now c.requires.empty c.requires.handed a c.add-outcome.ensures.after
    (overlay_refusal c.in_err-outcome.field-0.0) (ap outcome c.in_err-outcome.was)

pub returns-in_err-outcome-2 : goal.returns-in_err-outcome-2
returns-in_err-outcome-2 g c =
    let v = world g.E.Engine.means c.args.opened.now c.args.memory.now [] in
    let a = seen c.add-outcome.result (world g.E.Engine.means c.add-outcome.new.self c.add-outcome.new.memory []) in
    let z = seen c.tag-outcome.result (world g.E.Engine.means c.tag-outcome.new.self c.add-outcome.new.memory c.tag-outcome.new.buffer) in
    let p = err_from_is_err_and c.from_residual-in_err-outcome-2.result c.from_residual-in_err-outcome-2.ensures.1 in
    came_stopped c.tag-outcome.new.buffer c.from_residual-in_err-outcome-2.result c.in_err-outcome-2.field-0.0 (p.1 ∙ ap Err p.2)
    ∙ sym (ap (λ o. ended o (a.slip + z.slip) z.world.buffer) (ap outcome c.in_err-outcome-2.was))
    ∙ tag_ends g.met.E.Block.Block.laws v c.args.message.now c.args.tag.now c.requires.empty c.requires.handed a c.add-outcome.ensures.after c.add-outcome.ensures.law
    (ap outcome c.in_ok-outcome.was) z c.tag-outcome.ensures.after c.tag-outcome.ensures.law

pub returns : goal.returns
returns g c =
    let v = world g.E.Engine.means c.args.opened.now c.args.memory.now [] in
    let a = seen c.add-outcome.result (world g.E.Engine.means c.add-outcome.new.self c.add-outcome.new.memory []) in
    let z = seen c.tag-outcome.result (world g.E.Engine.means c.tag-outcome.new.self c.add-outcome.new.memory c.tag-outcome.new.buffer) in
    ap₂ (λ x y. tagged c.tag-outcome.new.buffer (x + y)) c.settle-adding.ensures.shown c.settle-tagging.ensures.shown
    ∙ sym (ap (λ o. ended o (a.slip + z.slip) z.world.buffer) (ap outcome c.in_ok-outcome-2.was))
    ∙ tag_ends g.met.E.Block.Block.laws v c.args.message.now c.args.tag.now c.requires.empty c.requires.handed a c.add-outcome.ensures.after c.add-outcome.ensures.law
    (ap outcome c.in_ok-outcome.was) z c.tag-outcome.ensures.after c.tag-outcome.ensures.law
