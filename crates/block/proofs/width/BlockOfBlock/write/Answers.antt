use Rattle.std.proofs.Common.{◌≡◌, ◌≤◌, sym, ◌∙◌, rules}
use Rattle.block.specs.Width.{digits}
use Rattle.block.proofs.Numbers.{bytes_bits, last_bytes}
use Rattle.block.proofs.width.BlockOfBlock.write.Goals as goal

pub returns : goal.returns
returns g c =
    let small : g.row.SIZE ≤ 16 = search rules in
    let last = last_bytes g.row.SIZE c.args.self.value small in
    let e : c.copy_from_slice.new.self ≡ digits g.row.SIZE c.args.self.value = cc in
    e ∙ sym (bytes_bits g.row.SIZE c.args.self.value)
