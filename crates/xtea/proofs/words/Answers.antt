use Rattle.std.proofs.Common.{◌/◌, ap, ◌∙◌, rules}
use Rattle.std.specs.Simd.{first_chunks}
use Rattle.xtea.proofs.Chunks.{words_from}
use Rattle.xtea.proofs.words.Goals as goal

pub returns : goal.returns
returns c =
    let cut = c.as_chunks.ensures.front ∙ ap (λ n. first_chunks 4 (n / 4) c.args.key.now) c.requires in
    words_from c.args.key.now c.as_chunks.result.0.now cut c.from_fn.result c.from_fn.ensures.items.long (search rules) (search rules) (search rules) (search rules)
