use Rattle.std.proofs.Common.{◌≡◌, ℕ, min, List, length, take, drop, ap, ◌∙◌, subst, ap₂, arith}
use Rattle.std.proofs.lemmas.List.{take_min, drop_min}
use Rattle.report.specs.Arguments.{seal_named}
use Rattle.report.specs.Seal.{seal_by, under_header}
use Rattle.report.specs.Shown.{Prints}
use Rattle.report.proofs.arguments.seal_split.Goals as goal

pub returns : goal.returns
returns c =
    let input = c.args.input.now in
    let turned : min (length input) 16 ≡ min 16 (length input) = omega arith in
    let key = c.split_at.ensures.front ∙ ap (λ n. take n input) (c.min.ensures ∙ turned) ∙ take_min 16 input in
    let message = c.split_at.ensures.back ∙ ap (λ n. drop n input) (c.min.ensures ∙ turned) ∙ drop_min 16 input in
    let P : List ℕ → Type 0 = λ text. Prints c.seal.result text in
    subst P (ap₂ (λ k m. under_header (seal_by c.in_ok-cipher.cipher k m)) key message
    ∙ ap (λ named. seal_named named (λ cipher. under_header (seal_by cipher (take 16 input) (drop 16 input)))) c.in_ok-cipher.ensures.value) c.seal.ensures
