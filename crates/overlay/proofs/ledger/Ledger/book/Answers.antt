use Rattle.std.proofs.Common.{rules}
use lib.Seq.{set-get_or}
use Rattle.overlay.proofs.ledger.Ledger.book.Goals as goal

pub returns-in_err-enter : goal.returns-in_err-enter
returns-in_err-enter c = search (rules, set-get_or)
