-- A block is the block of its number; the laws at both widths. Assumes nothing.
use Rattle.std.specs.Prelude.{◌≡◌, ℕ, ◌*◌, ◌%◌, ◌^◌}
use Rattle.std.proofs.Common.{sym, ap, ◌∙◌, mod-eq_of_lt}
use Rattle.block.specs.Arith.{Laws}
use Rattle.block.specs.WidthLemmas.{width64, width128}
use Rattle.block.specs.Blocks.{Block64, Block128, make, make64, make128, arith64, arith128}
use Rattle.block.specs.declared.block_of.BlockOf.{BlockOf}
use Rattle.block.specs.Laws.{same, laws}

pub made : {size : ℕ} (x : BlockOf size) (v : ℕ) → x.value ≡ v → x ≡ make size v
made {size} x v e = same x (make size v) (sym (mod-eq_of_lt x.fits) ∙ ap (λ n. n % 2 ^ (8 * size)) e)

pub made64 : (x : Block64) (v : ℕ) → x.value ≡ v → x ≡ make64 v
made64 = made

pub made128 : (x : Block128) (v : ℕ) → x.value ≡ v → x ≡ make128 v
made128 = made

pub laws64 : Laws arith64
laws64 = laws 8 0x1B width64

pub laws128 : Laws arith128
laws128 = laws 16 0x87 width128
