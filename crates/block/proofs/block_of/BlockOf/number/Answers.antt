use Rattle.std.proofs.Common.{◌≤◌, rules}
use Rattle.block.proofs.Numbers.{read_at_end}
use Rattle.block.proofs.block_of.BlockOf.number.Goals as goal

pub returns : goal.returns
returns g c =
    let small : g.row.SIZE ≤ 16 = search rules in
    let read = read_at_end g.row.SIZE c.args.bytes.now c.requires small in
    cc
