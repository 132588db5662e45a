-- Edits and their fields as they are handed to a writer, as plain values. Assumes nothing.
use Rattle.std.specs.Prelude.{◌≡◌, ℕ, ◌-◌, true, false, List, ◌∷◌, ◌++◌, length, replicate, Ok, Err, Result}
use Rattle.book.specs.declared.edit.Edit.TheVariants.{Add, Cut, Put, Tag}
use Rattle.book.specs.declared.edit.Edit as handed
use Rattle.book.specs.declared.fields.Fields.{Fields}
use Rattle.book.specs.declared.fault.BookFault.{BookFault}
use Rattle.book.specs.declared.fault.BookFault.TheVariants.{Data}
use Rattle.book.specs.Kinds.{kind_number}
use Rattle.book.specs.Reading.{Edit, adds, cuts, puts, tags}
use Rattle.book.specs.Writing.{kind_of, position_of, bits_of, data_of, lacking, word_bytes}

abbrev pub plain : handed.Edit → Edit
plain (Add bits d) = adds bits d.now
plain (Cut bits) = cuts bits
plain (Put position bits d) = puts position bits d.now
plain (Tag bits) = tags bits

-- the fields of an edit
pub record Tells (f : Fields) (e : Edit) : Type 0 where
  pub kind : kind_number f.kind ≡ kind_of e
  pub position : f.position ≡ position_of e
  pub bits : f.bits ≡ bits_of e
  pub data' : f.«data».now ≡ data_of e

-- an edit's fields; refused where fewer bits are handed in than its length says
abbrev pub Laid : Edit → Result Fields BookFault → Type 0
Laid e (Ok f) = (lacking e ≡ false) × Tells f e
Laid e (Err fault) = (lacking e ≡ true) × (fault ≡ Data)

-- the bytes of a slot with these fields, and with no link yet; what is unused is zero
abbrev pub fields_bytes : Fields → List ℕ
fields_bytes f =
    0 ∷ 0 ∷ kind_number f.kind ∷ 0 ∷ (word_bytes f.position ++ (word_bytes f.bits ++ (f.«data».now ++ replicate (20 - length f.«data».now) 0)))
