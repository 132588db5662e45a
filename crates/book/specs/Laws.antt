-- What a writer's calls mean for the records that a book reads as. Assumes nothing.
use Rattle.std.specs.Prelude.{◌≡◌, ℕ, ◌+◌, true, List, [], ◌∷◌, ◌++◌, length, take, Ok, Err, Result}
use Rattle.engine.specs.Refusals.{Refusal}
use Rattle.book.specs.Slots.{bytes_for, is_book}
use Rattle.book.specs.Reading.{Edit, adds, cuts, puts, tags, Entry, reading}
use Rattle.book.specs.Writing.{After, Words, putting, clearing}

-- edits as the records of a slot, the next one and on
abbrev pub in_order : ℕ → List Edit → List Entry
in_order slot [] = []
in_order slot (e ∷ edits) = record { slot = slot; edit = e } ∷ in_order (slot + 1) edits

-- an edit as it reads back: of the bytes handed in, those that its bits need
abbrev pub kept : Edit → Edit
kept (adds n bytes) = adds n (take (bytes_for n) bytes)
kept (cuts n) = cuts n
kept (puts position n bytes) = puts position n (take (bytes_for n) bytes)
kept (tags n) = tags n

-- a book reads as these edits, in slots 1, 2 and on up to the last one taken
pub record Holds (book : List ℕ) (last : ℕ) (edits : List Edit) : Type 0 where
  pub reads : reading book ≡ Ok (in_order 1 edits)
  pub count : length edits ≡ last

-- one edit more, where a call was carried out
abbrev pub grown : Result (Unit {0}) Refusal → List Edit → Edit → List Edit
grown (Ok u) edits e = edits ++ (kept e ∷ [])
grown (Err refusal) edits e = edits

-- a put: whatever edits the book held, it holds them and the new one behind them
abbrev pub Grows : List ℕ → ℕ → Edit → After → Type 0
Grows book last e a = (edits : List Edit) → Holds book last edits → Holds a.book a.last (grown a.outcome edits e)

-- edits put one after the other
abbrev pub put_all : After → List Edit → After
put_all a [] = a
put_all a (e ∷ edits) = put_all (putting a.book a.last e) edits

-- those of them that are carried out
abbrev pub carried : After → List Edit → List Edit
carried a [] = []
carried a (e ∷ edits) = grown (putting a.book a.last e).outcome [] e ++ carried (putting a.book a.last e) edits

abbrev pub AllWords : List Edit → Type 0
AllWords [] = Unit {0}
AllWords (e ∷ edits) = Words e × AllWords edits

-- whatever edits are put into a cleared book, it reads as those that were carried out, in slots 1, 2 and on
abbrev pub ReadsBack : Type 0
ReadsBack =
    (book : List ℕ) (edits : List Edit)
    → is_book book ≡ true
    → AllWords edits
    → Holds (put_all (clearing book) edits).book (put_all (clearing book) edits).last (carried (clearing book) edits)

-- a clear: the book holds none, unless it is refused
abbrev pub Empties : After → Type 0
Empties a = a.outcome ≡ Ok tt → Holds a.book a.last []
