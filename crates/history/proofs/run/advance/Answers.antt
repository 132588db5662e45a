use Rattle.std.proofs.Common.{◌≡◌, vec_items, sym, ap, ◌∙◌, ap₂, arith}
use Rattle.history.specs.Desk.{Desk}
use Rattle.history.specs.Views.{call_of, desk_of, kept, moved_of, telling_of}
use Rattle.history.proofs.Histories.{tells}
use Rattle.history.proofs.run.advance.Goals as goal

pub returns : goal.returns
returns g c =
    let means = g.E.Engine.means in
    let s = c.step-stepped.result in
    let memory = c.step-stepped.new.memory in
    let accounts = c.step-stepped.new.ledger.accounts in
    let d = desk_of means c.args.stage c.args.memory.now c.args.ledger.now.accounts (vec_items c.args.slips.now) in
    let m = moved_of means s memory accounts (vec_items c.step-stepped.new.slips) in
    let of : Desk _ = desk_of means c.note.result memory accounts (vec_items c.note.new.slips) in
    let e : m.desk ≡ of = ap₂ (λ x y. record { overlay = kept means x; memory = memory; accounts = accounts; slips = y }) (sym c.note.ensures.stage) (sym c.note.ensures.slips) in
    record {
      after = sym e ∙ ap (λ z. z.desk) c.step-stepped.ensures.after;
      told = (telling_of means s, (c.note.ensures.told, tells g.met.E.Block.Block.laws d (call_of c.args.call.now) m c.step-stepped.ensures.law of e));
      count = let a = c.note.ensures.count in let b = c.step-stepped.ensures.count in omega arith;
      room = c.note.ensures.room ∙ c.step-stepped.ensures.room;
      replied = c.note.ensures.replied;
      space = c.note.ensures.space;
    }
