use Rattle.std.proofs.Common.{◌≡◌, ◌*◌, ◌/◌, sym, ap, ◌∙◌, ap₂, arith}
use lib.Seq.{paste}
use Rattle.block.specs.Bits.{bits_of, bytes_of}
use Rattle.block.specs.BitsLemmas.{bytes_of_bits_of}
use Rattle.bits.proofs.write.write_bits.Goals as goal

pub returns-then-position-eq0 : goal.returns-then-position-eq0
returns-then-position-eq0 c =
    let at : 8 * (c.args.position / 8) ≡ c.args.position = omega arith in
    sym (bytes_of_bits_of c.copy_bits.new.memory (λ i. (c.type_inv.memory i).fits))
    ∙ ap₂ bytes_of c.copy_bits.auto.memory (c.copy_bits.ensures ∙ ap (λ p. paste (bits_of c.args.memory.now) p (bits_of c.args.edit.now) c.args.count) at)

pub returns-else-position-eq0 : goal.returns-else-position-eq0
returns-else-position-eq0 c =
    sym (bytes_of_bits_of c.splice_bits.new.memory (λ i. (c.type_inv.memory i).fits))
    ∙ ap₂ bytes_of c.splice_bits.auto.memory c.splice_bits.ensures
