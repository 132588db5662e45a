use Rattle.std.proofs.Common.{◌≡◌, ◌+◌, ◌-◌, ◌≤◌, List, ◌++◌, length, take, vec_items, vec_len, vec_capacity}
use Rattle.history.specs.declared.answer.Reply.{Reply}
use Rattle.history.specs.Desk.{Runs, ran}
use Rattle.history.specs.Views.{calls_of, desk_of, replies_of}
use Rattle.history.proofs.run.resume.Given as goal

abbrev pub invariant-loop-call : goal.invariant-loop-call
invariant-loop-call g l =
    (vec_len l.slips + (length l.calls - l.call-index) ≤ vec_capacity l.slips)
    × ((vec_len l.replies + (length l.calls - l.call-index) ≤ vec_capacity l.replies)
    × ((desk_of g.E.Engine.means l.stage l.memory l.ledger.accounts (vec_items l.slips)
    ≡ ran g.E.Block.Block.arith (desk_of g.E.Engine.means l.initial.stage l.initial.memory l.initial.ledger.accounts (vec_items l.initial.slips)) (calls_of (take l.call-index l.calls)))
    × ((xs : List Reply)
    × ((vec_items l.replies ≡ vec_items l.initial.replies ++ xs)
    × Runs g.E.Block.Block.arith (desk_of g.E.Engine.means l.initial.stage l.initial.memory l.initial.ledger.accounts (vec_items l.initial.slips)) (calls_of (take l.call-index l.calls)) (replies_of xs)
    (desk_of g.E.Engine.means l.stage l.memory l.ledger.accounts (vec_items l.slips))))))
