use Rattle.std.proofs.Common.{[], ◌∷◌, ◌++◌, vec_items, sym, refl, ap, ◌∙◌, arith}
use Rattle.std.proofs.lemmas.List.{append-nil, append_assoc}
use Rattle.history.specs.Views.{desk_of, replies_of}
use Rattle.history.proofs.Histories.{runs_none, resumed, all_of, ran_on, ran_all}
use Rattle.history.proofs.run.resume.Goals as goal

pub loop-call-init : goal.loop-call-init
loop-call-init g c =
    let items = vec_items c.args.replies.now in
    let d = desk_of g.E.Engine.means c.args.stage c.args.memory.now c.args.ledger.now.accounts (vec_items c.args.slips.now) in
    ((let h = c.requires.slip_room in omega arith), ((let h = c.requires.reply_room in omega arith), (refl, ([], (sym (append-nil items), runs_none g.E.Block.Block.arith d)))))

pub loop-call-preserved : goal.loop-call-preserved
loop-call-preserved g c =
    let inv = c.loop-call.invariant in
    let xs = inv.1.1.1.0 in
    let told = c.advance-stage.ensures.told in
    let after = c.advance-stage.ensures in
    let items = vec_items c.args.replies.now in (
      (let a = inv.0 in let b = after.count in let e = after.room in let t = c.loop-call-test.true in omega arith),
      (
        (let a = inv.1.0 in let b = after.replied in let e = after.space in let t = c.loop-call-test.true in omega arith),
        (
          ran_on g.E.Block.Block.arith _ _ _ c.args.calls.now c.loop-call.call-index _ c.loop-call-test.true inv.1.1.0 c.advance-stage.ensures.after,
          (
            xs ++ (told.0 ∷ []),
            (
              told.1.0 ∙ ap (λ z. z ++ (told.0 ∷ [])) inv.1.1.1.1.0 ∙ append_assoc items xs (told.0 ∷ []),
              resumed g.E.Block.Block.arith _ _ _ c.args.calls.now c.loop-call.call-index _ xs told.0 c.loop-call-test.true inv.1.1.1.1.1 told.1.1,
            ),
          ),
        ),
      ),
    )

pub returns : goal.returns
returns g c =
    let inv = c.loop-call.invariant in
    let xs = inv.1.1.1.0 in
    record {
      after = ran_all g.E.Block.Block.arith _ _ c.args.calls.now c.loop-call.call-index c.loop-call-test.false inv.1.1.0;
      told = (xs, (inv.1.1.1.1.0, all_of g.E.Block.Block.arith _ _ c.args.calls.now c.loop-call.call-index (replies_of xs) c.loop-call-test.false inv.1.1.1.1.1));
    }
