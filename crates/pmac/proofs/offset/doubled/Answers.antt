use Rattle.std.proofs.Common.{◌≡◌, refl, ◌∙◌, rules, arith}
use Rattle.std.specs.List.{fold, range_with_len}
use Rattle.std.proofs.lemmas.Iterator.{YieldsList-from_range}
use Rattle.std.proofs.lemmas.Iterator.Consumers.{fold_from_yields_List}
use Rattle.pmac.proofs.Gray.{doubled_fold}
use Rattle.pmac.proofs.offset.doubled.Goals as goal

pub returns : goal.returns
returns g c =
    let A = g.B.Block.arith in
    let n = c.args.times in
    let run : c.fold.result ≡ fold (λ y k. A.double y) c.args.x (range_with_len 0 n) =
    fold_from_yields_List _ (λ y k. A.double y) c.args.x c.fold.result c.fold.ensures.ran (YieldsList-from_range 0 n n refl (omega arith)) (λ a x b q h. search rules) in
    run ∙ doubled_fold A c.args.x 0 n
