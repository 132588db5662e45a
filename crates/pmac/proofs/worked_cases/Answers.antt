use Rattle.std.proofs.Common.{refl}
use Rattle.block.specs.Bits.{bits, number}
use Rattle.bits.specs.Blocks.{blocks, part, last, padded}
use Rattle.pmac.specs.Pmac.{over, doubled, spread, offset, ending, sealed, sum, full}
use Rattle.pmac.specs.Edits.{touched_from, touched_to}
use Rattle.pmac.proofs.worked_cases.Goals as goal

pub returns : goal.returns
unfolding bits number blocks part last padded over doubled spread offset ending sealed sum full touched_from touched_to
returns c = record { gray_numbers = refl; block_counts = refl; empty = refl; one_block = refl; one_bit_more = refl; added = refl; all_cut = refl; put_into = refl }
