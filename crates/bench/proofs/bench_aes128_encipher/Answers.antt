use Rattle.std.proofs.Common.{ap, ◌∙◌, rules}
use Rattle.bench.specs.Sums.{folded128}
use Rattle.bench.proofs.bench_aes128_encipher.Goals as goal

pub returns : goal.returns
returns c =
    let told = c.sum_under.ensures (λ m. m.enc) (λ engine block result left p. search rules) in
    c.fold.ensures ∙ ap folded128 (rw c.in_ok-sum.was at told)
