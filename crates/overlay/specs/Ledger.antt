-- Sixteen accounts, and a slip's number booked into one of them. Assumes nothing.
use Rattle.std.specs.Prelude.{ℕ, ◌+◌, ◌-◌, Bool, cond, List, replicate, Some, None, Ok, Err, Option, Result, nat_lt, slice_index_or, slice_set}
use Rattle.overlay.specs.declared.fault.BookingFault.{BookingFault}
use Rattle.overlay.specs.declared.fault.BookingFault.TheVariants.{Full}
use Rattle.overlay.specs.declared.ledger.Account.{Account}
use Rattle.overlay.specs.Refusals.{Outcome, carried, refused, numbered}

-- all totals open at one number, and nothing is booked yet
abbrev pub opened : ℕ → List Account
opened total = replicate 16 (record { total = total; latest = 0 })

-- account i
abbrev pub at : List Account → ℕ → Account
at accounts i = slice_index_or accounts i (record { total = 0; latest = 0 })

-- a total that would pass 4,294,967,295
abbrev pub passes : Account → ℕ → Bool
passes a amount = nat_lt (4294967295 - a.total) amount

abbrev pub takes : Account → ℕ → Result (Unit {0}) BookingFault
takes a amount = cond (passes a amount) (Err Full) (Ok tt)

abbrev pub entered : Account → ℕ → Account
entered a amount = cond (passes a amount) a (record { total = a.total + amount; latest = amount })

-- what a booking gives and leaves: its outcome, the accounts, and what the slip shows
pub record Booked : Type 0 where
  pub outcome : Outcome
  pub accounts : List Account
  pub slip : ℕ

-- the slip's number moves into the account; 16 comes before 17, and either leaves all as it was
abbrev pub book : List Account → ℕ → ℕ → Booked
book accounts slip i =
    cond (nat_lt 15 i) (record { outcome = refused (numbered 16); accounts = accounts; slip = slip })
    (cond (passes (at accounts i) slip) (record { outcome = refused (numbered 17); accounts = accounts; slip = slip })
    (record { outcome = carried; accounts = slice_set accounts i (record { total = (at accounts i).total + slip; latest = slip }); slip = 0 }))

-- account i as it stands, if there is one
abbrev pub held : List Account → ℕ → Option Account
held accounts i = cond (nat_lt 15 i) None (Some (at accounts i))
