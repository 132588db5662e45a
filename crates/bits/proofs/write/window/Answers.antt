use Rattle.std.proofs.Common.{◌≡◌, ◌+◌, ◌/◌, get_or, take, ap, ◌∙◌, arith}
use Rattle.std.specs.Option.{unwrap_or}
use Rattle.block.specs.Bits.{bits}
use Rattle.bits.proofs.Writing.{window_bits}
use Rattle.bits.proofs.write.window.Goals as goal

pub returns : goal.returns
returns c n s fits =
    let xs = c.args.edit.now in
    let q = c.args.from in
    let next : c.unwrap_or-next.result ≡ get_or xs (q / 8 + 1) 0 = c.unwrap_or-next.ensures ∙ ap (λ o. unwrap_or o 0) c.copied.ensures ∙ c.get.ensures.lookup.4 (omega arith) 0 in
    let both = c.from_be_bytes-both.result in
    ap (λ z. take n (bits 8 (get_or z 0 0))) c.to_be_bytes.ensures
    ∙ window_bits xs q c.requires c.unwrap_or-next.result both n next (omega (arith, c.type_inv.edit (q / 8 + 1))) (omega arith) s fits
