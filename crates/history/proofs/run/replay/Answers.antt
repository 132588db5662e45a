use Rattle.std.proofs.Common.{◌≡◌, [], ◌∷◌, ◌++◌, vec_items, refl, ap, ◌∙◌, ap₂}
use Rattle.std.proofs.lemmas.List.{append_assoc}
use Rattle.history.specs.Desk.{Desk, Turn, ran}
use Rattle.history.specs.Views.{beginning_of, calls_of, desk_of, kept, reply_of, replies_of, shown, slip_of, telling_of, turn_of}
use Rattle.history.proofs.Histories.{whole}
use Rattle.history.proofs.run.replay.Goals as goal

pub returns : goal.returns
returns g c =
    let means = g.E.Engine.means in
    let s = c.begin-begun.result in
    let memory = c.args.memory.now in
    let accounts = c.args.ledger.now.accounts in
    let slips = shown (vec_items c.args.slips.now) in
    let items = vec_items c.args.replies.now in
    let d = desk_of means c.note-stage.result memory accounts (vec_items c.note-stage.new.slips) in
    let xs = c.resume.ensures.told.0 in
    let x = telling_of means s in
    let kept_slips : shown (vec_items c.note-stage.new.slips) ≡ slips ++ slip_of s.slip = c.note-stage.ensures.slips ∙ ap (λ z. shown z ++ slip_of s.slip) c.reserve.ensures.items in
    let ed : d ≡ record { overlay = kept means s.stage; memory = memory; accounts = accounts; slips = slips ++ slip_of s.slip } =
    ap₂ (λ y z. record { overlay = kept means y; memory = memory; accounts = accounts; slips = z }) c.note-stage.ensures.stage kept_slips in
    let at : Turn g.row.E-Block.Denot → Desk g.row.E-Block.Denot = λ t. record { overlay = t.overlay; memory = t.memory; accounts = accounts; slips = slips ++ t.slip } in
    record {
      history = (
        c.resume.ensures.after ∙ ap (λ z. ran g.E.Block.Block.arith z (calls_of c.args.calls.now)) (ed ∙ ap at c.begin-begun.ensures),
        (
          x ∷ xs,
          (
            c.resume.ensures.told.1.0 ∙ ap (λ z. z ++ xs) (c.note-stage.ensures.told ∙ ap (λ z. z ++ (x ∷ [])) c.reserve-2.ensures.items) ∙ append_assoc items (x ∷ []) xs,
            whole g.met.E.Block.Block.laws (means c.args.engine) memory accounts slips c.args.ledger.now.sixteen (beginning_of c.args.beginning) (calls_of c.args.calls.now)
                (turn_of means s memory) (reply_of x) (replies_of xs) d _ c.begin-begun.ensures ed refl c.resume.ensures.told.1.1,
          ),
        ),
      );
      succeeds = λ _ _. refl;
    }
