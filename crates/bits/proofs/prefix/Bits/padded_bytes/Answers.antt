use Rattle.std.proofs.Common.{◌≡◌, ◌-◌, ◌/◌, ◌%◌, true, false, ◌∷◌, ◌++◌, get_or, take, replicate, ap, ◌∙◌, arith, rules}
use Rattle.std.specs.Option.{unwrap_or}
use Rattle.block.specs.Bits.{bits, bits_of}
use Rattle.bits.proofs.Padding.{filled, padding}
use Rattle.bits.proofs.prefix.Bits.padded_bytes.Goals as goal

pub returns : goal.returns
returns c =
    let xs = c.args.self.memory.now in
    let r = c.args.self.len in
    let v = c.closed.result in
    let next : c.unwrap_or-next.result ≡ get_or xs (r / 8) 0 = c.unwrap_or-next.ensures ∙ ap (λ o. unwrap_or o 0) c.copied.ensures ∙ c.get.ensures.lookup.4 (omega arith) 0 in
    let t : c.copy_from_slice.new.self ≡ take (r / 8) xs = search rules in
    ap bits_of (filled c.copy_from_slice.new.self (r / 8) v (omega arith) (search rules))
    ∙ ap (λ z. bits_of (z ++ (v ∷ replicate (15 - r / 8) 0))) t
    ∙ padding xs r (r / 8) (r % 8) v (omega arith) (omega arith) (omega arith) (omega arith)
    (c.closed.ensures ∙ ap (λ z. take (r % 8) (bits 8 z) ++ (true ∷ replicate (7 - r % 8) false)) next)
