use Rattle.std.proofs.Common.{◌≡◌, ℕ, suc, ◌-◌, Some, None, Ok, Option, MatchOption, sym, ap, subst, ◌∙◌, arith}
use Rattle.std.specs.Option.{ok_or}
use Rattle.book.specs.declared.fault.BookFault.{BookFault}
use Rattle.book.specs.Reading.{follow}
use Rattle.book.proofs.Chains.{verdict, known}
use Rattle.book.proofs.links.Links.follow.Goals as goal

-- what is known of a number that was there
there : (P : Type 0) (Q : ℕ → Type 0) (fault : BookFault) (x : ℕ) (o : Option ℕ) → Ok x ≡ ok_or o fault → MatchOption o P Q → Q x
there P Q fault x (Some y) e h = let same : y ≡ x = cc in subst Q same h
there P Q fault x None e h = cc

pub loop-next-preserved : goal.loop-next-preserved
loop-next-preserved c =
    let book = c.args.book.bytes.now in
    let before = c.loop-next.passed in
    let after = c.next-in-Some.new.self in
    let steps = c.next-in-Some.ensures.steps in
    let more = there _ _ _ c.in_ok-ok_or.field-0 c.next-in-Some.result c.in_ok-ok_or.ensures.value steps.1 in
    let end = steps.0 in
    let one : suc (after.end - after.start) ≡ before.end - before.start = omega (arith, more.0, more.2) in
    let k = known book (after.end - after.start) c.loop-next.slot (Ok (Some c.in-Some.next)) (sym (ap Ok c.in-Some.is) ∙ c.in_ok-next.ensures) in
    record {
      same = sym k.2 ∙ ap (λ n. verdict (follow book n c.loop-next.slot)) one ∙ c.loop-next.invariant.same;
      inside = k.0;
      left = omega (arith, more.0, more.2);
    }
