use Rattle.std.proofs.Common.{◌++◌, vec_items, sym, ap, ◌∙◌, arith}
use Rattle.history.specs.Views.{shown, slip_of}
use Rattle.history.proofs.Slips.{shown_more}
use Rattle.history.proofs.run.keep.Goals as goal

pub returns-in-Some : goal.returns-in-Some
returns-in-Some c =
    let items = vec_items c.args.slips.now in
    let slip = c.in-Some.slip in
    record {
      slips = ap shown c.push_reserved.ensures.items ∙ shown_more items slip ∙ sym (ap (λ z. shown items ++ slip_of z) c.in-Some.is);
      count = let e = c.push_reserved.ensures.len in omega arith;
      room = c.push_reserved.ensures.capacity;
    }
