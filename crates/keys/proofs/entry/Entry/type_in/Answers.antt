use Rattle.std.proofs.Common.{Err, sym, ap, ◌∙◌}
use Rattle.std.specs.Str.Iter.{chars_rest}
use Rattle.std.specs.Str.{chars}
use Rattle.std.proofs.lemmas.Result.{err_from_is_err_and}
use Rattle.std.proofs.lemmas.Str.{IsUtf8-past_char, chars_past_char}
use Rattle.keys.specs.Digits.{digit_of}
use Rattle.keys.specs.Entries.{typed}
use Rattle.keys.specs.Keys.{key_after, concluded}
use Rattle.keys.proofs.Texts.{goes_on, stops, ends}
use Rattle.keys.proofs.entry.Entry.type_in.Goals as goal

pub loop-c-preserved : goal.loop-c-preserved
loop-c-preserved c =
    let digits = typed c.loop-c.self in
    let rest = chars_rest c.next.new.self in
    let here = c.in-Some.ensures.steps.0 in
    let text = chars_past_char (chars_rest c.loop-c.c-iterator) rest c.in-Some.c c.loop-c.invariant.text here in
    let went = goes_on 16 digits (chars rest) (digit_of c.in-Some.c) (sym c.in_ok-push.was ∙ c.push.ensures.answer) in
    record {
      text = IsUtf8-past_char (chars_rest c.loop-c.c-iterator) rest c.in-Some.c c.loop-c.invariant.text here;
      same = ap (λ ds. key_after 16 ds (chars rest)) c.push.ensures.after ∙ sym went ∙ ap (key_after 16 digits) (sym text) ∙ c.loop-c.invariant.same;
    }

pub returns-in_err-push : goal.returns-in_err-push
returns-in_err-push c =
    let digits = typed c.loop-c.self in
    let rest = chars_rest c.next.new.self in
    let here = c.in-Some.ensures.steps.0 in
    let text = chars_past_char (chars_rest c.loop-c.c-iterator) rest c.in-Some.c c.loop-c.invariant.text here in
    let start = ap chars_rest c.into_iter-c-iterator.ensures.into_iter_gives ∙ c.chars-c-items.ensures.rest in
    let exit = err_from_is_err_and c.from_residual.result c.from_residual.ensures.1 in
    let went = stops 16 digits (chars rest) c.loop-c.self.short (digit_of c.in-Some.c) c.in_err-push.field-0.0 (sym c.in_err-push.was ∙ c.push.ensures.answer) in
    ap (λ r. concluded 16 r (typed c.push.new.self)) exit.1 ∙ ap (λ f. Err f) exit.2 ∙ went
    ∙ ap (key_after 16 digits) (sym text) ∙ c.loop-c.invariant.same ∙ ap (λ bs. key_after 16 (typed c.args.self.now) (chars bs)) start

pub returns : goal.returns
returns c =
    let start = ap chars_rest c.into_iter-c-iterator.ensures.into_iter_gives ∙ c.chars-c-items.ensures.rest in
    ends 16 (typed c.loop-c.self) (chars_rest c.loop-c.c-iterator) c.loop-c.self.short c.in-None.ensures.steps.0.0
    ∙ c.loop-c.invariant.same ∙ ap (λ bs. key_after 16 (typed c.args.self.now) (chars bs)) start
