-- The numbers of the kinds of records. Assumes nothing.
use Rattle.std.specs.Prelude.{◌≡◌, ◌≢◌, ℕ, Ok, Err, Result}
use Rattle.book.specs.declared.kind.Kind.{Kind}
use Rattle.book.specs.declared.kind.Kind.TheVariants.{Add, Cut, Put, Tag}
use Rattle.book.specs.declared.kind.UnknownKind.{UnknownKind}

abbrev pub kind_number : Kind → ℕ
kind_number Add = 1
kind_number Cut = 2
kind_number Put = 3
kind_number Tag = 4

-- the kind that has a number, or an error where none has it
abbrev pub Names : ℕ → Result Kind UnknownKind → Type 0
Names n (Ok kind) = kind_number kind ≡ n
Names n (Err e) = (kind : Kind) → kind_number kind ≢ n
