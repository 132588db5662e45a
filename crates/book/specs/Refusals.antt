-- Refusals of books, with their numbers and the slots that they tell. Assumes nothing.
use Rattle.std.specs.Prelude.{ℕ, [], ◌∷◌}
use Rattle.engine.specs.Refusals.{Refusal}
use Rattle.book.specs.declared.fault.BookFault.{BookFault}
use Rattle.book.specs.declared.fault.BookFault.TheVariants.{Data, Size, Link, Ring, Kind, Long, Full}

abbrev pub numbered : ℕ → Refusal
numbered n = record { number = n; told = [] }

-- a refusal that tells a slot
abbrev pub at : ℕ → ℕ → Refusal
at n slot = record { number = n; told = slot ∷ [] }

abbrev pub book_refusal : BookFault → Refusal
book_refusal Data = numbered 3
book_refusal Size = numbered 10
book_refusal (Link slot) = at 11 slot
book_refusal (Ring slot) = at 12 slot
book_refusal (Kind slot) = at 13 slot
book_refusal (Long slot) = at 14 slot
book_refusal Full = numbered 18
