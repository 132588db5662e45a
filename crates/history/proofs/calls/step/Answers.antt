use Rattle.std.proofs.Common.{vec_items, sym, subst}
use Rattle.engine.specs.Meaning.{Meaning, Undoes}
use Rattle.history.specs.declared.answer.Stage.{Stage}
use Rattle.history.specs.declared.answer.Stage.TheVariants.{Returned, Received, Opened}
use Rattle.history.specs.Desk.{Reckons}
use Rattle.history.specs.Views.{call_of, desk_of, kept}
use Rattle.history.proofs.Simulation.{Undone, follows}
use Rattle.history.proofs.calls.step.Goals as goal

undone : {E B : Type 0} (means : E → Meaning B) → ((e : E) → Undoes (means e)) → (s : Stage E B) → Undone (kept means s)
undone means u (Returned e) = u e
undone means u (Received h) = u h.engine
undone means u (Opened o) = u o.engine

pub returns : goal.returns
returns g c =
    let means = g.E.Engine.means in
    let d = desk_of means c.args.stage c.args.memory.now c.args.ledger.now.accounts (vec_items c.args.slips.now) in
    let k = call_of c.args.call.now in
    let e = c.move_on.ensures.after in
    record { after = e; law = subst (Reckons g.E.Block.Block.arith d k) (sym e) (follows g.met.E.Block.Block.laws d (undone means g.met.E.Engine.undoes c.args.stage) k); count = c.move_on.ensures.count; room = c.move_on.ensures.room }
