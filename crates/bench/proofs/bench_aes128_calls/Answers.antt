use Rattle.std.proofs.Common.{◌*◌, length, sym, refl, ap, ◌∙◌}
use Rattle.block.specs.Blocks.{arith128}
use Rattle.bits.specs.Memory.{standing}
use Rattle.block.specs.Blocks.{Block128}
use Rattle.engine.specs.Meaning.{Meaning, metered}
use Rattle.engine.specs.Refusals.{made_by}
use Rattle.engine.specs.declared.metered.Metered.{Metered}
use Rattle.aes.specs.Keyed.{keys_in}
use Rattle.aes.specs.Maps.{under}
use Rattle.aes.specs.declared.keys.RoundKeys.{RoundKeys}
use Rattle.pmac.specs.Pmac.{full}
use Rattle.bench.specs.Calls.{standing128}
use Rattle.bench.specs.Sums.{folded}
use Rattle.bench.proofs.Kept.{tag_read}
use Rattle.bench.proofs.bench_aes128_calls.Goals as goal

abbrev meaning : Metered RoundKeys Block128 → Meaning Block128
meaning e = metered (under (keys_in e.cipher)) e.allowance.left

pub returns : goal.returns
returns c =
    let made = sym (ap (made_by meaning) c.in-Ok.is) ∙ c.new.ensures in
    let x = full arith128 (meaning c.in-Ok.engine).enc (standing (8 * length c.args.message.now) c.tag_by_calls.new.memory) in
    let tag = c.read.ensures ∙ tag_read _ x c.tag_by_calls.new.tag refl c.in_ok-tag_by_calls.ensures in
    c.fold.ensures ∙ ap folded tag ∙ ap (λ m. standing128 m c.tag_by_calls.new.memory (8 * length c.args.message.now)) made
