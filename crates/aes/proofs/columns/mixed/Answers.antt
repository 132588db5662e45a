use lib.Bits.{bit_xor}
use Rattle.std.proofs.Common.{List, ℕ, get_or, ap, ap₂, arith}
use Rattle.aes.specs.Words.{brought}
use Rattle.aes.specs.Pack.{mixed_column}
use Rattle.aes.proofs.columns.mixed.Goals as goal

pub returns : goal.returns
unfolding brought
returns g c =
    let at = λ (i : ℕ). get_or c.args.rows i 0 in
    let part = λ (i : ℕ) (r : List ℕ). get_or r i 0 in
    mixed_column g.W.Way.steps g.met.W.Way.bytes (at 0) (at 1) (at 2) (at 3) _ _ _ (omega arith) (omega arith) (omega arith) (omega arith)
    (ap₂ bit_xor (ap (part 0) c.brought.ensures) (ap (part 1) c.brought-2.ensures))
    (ap₂ bit_xor (ap (part 0) c.brought-3.ensures) (ap (part 1) c.brought-4.ensures)) c.rotate_left.ensures
