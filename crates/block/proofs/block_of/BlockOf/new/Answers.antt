use Rattle.std.proofs.Common.{◌≤◌, ◌*◌, ◌^◌, ◌<◌, sym, subst, rules}
use Rattle.block.specs.Blocks.{lowest}
use Rattle.block.specs.Laws.{same}
use Rattle.block.proofs.Shifts.{masked}
use Rattle.block.proofs.block_of.BlockOf.new.Goals as goal

pub invariant_of-result : goal.invariant_of-result
invariant_of-result g c =
    let size = g.row.SIZE in
    let small : 8 * size ≤ 128 = search rules in
    record { fits = subst (λ n. n < 2 ^ (8 * size)) (sym (masked (8 * size) c.args.value small)) (lowest size c.args.value) }

pub returns : goal.returns
returns g c =
    let small : 8 * g.row.SIZE ≤ 128 = search rules in
    same _ _ (masked (8 * g.row.SIZE) c.args.value small)
