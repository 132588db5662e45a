-- A fresh ledger takes any slip. Assumes nothing.
use Rattle.std.proofs.Common.{◌≡◌, ℕ, ◌+◌, ◌≤◌, List, set, sym, refl, ap, ◌∙◌}
use Rattle.std.proofs.lemmas.Bool.{cond_above}
use Rattle.overlay.specs.declared.ledger.Account.{Account}
use Rattle.overlay.specs.Refusals.{carried, refused, numbered}
use Rattle.overlay.specs.Ledger.{Booked, opened, at, book}

pub emptied : (accounts : List Account) (n : ℕ) (b : Booked) → accounts ≡ opened 0 → n ≤ 4294967295 → b ≡ book accounts n 0 → b.slip ≡ 0
emptied accounts n b e h is =
    let full : Booked = record { outcome = refused (numbered 17); accounts = opened 0; slip = n } in
    let done : Booked = record { outcome = carried; accounts = set (opened 0) 0 (record { total = (at (opened 0) 0).total + n; latest = n }); slip = 0 } in
    ap (λ x. x.slip) (is ∙ ap (λ a. book a n 0) e ∙ sym (cond_above 4294967295 n full done done h refl))
