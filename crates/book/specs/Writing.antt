-- Writing a book: what a record's slot holds, and what each call makes of the book. Assumes nothing.
use Rattle.std.specs.Prelude.{ℕ, ◌+◌, ◌-◌, ◌*◌, ◌/◌, ◌%◌, ◌^◌, ◌<◌, Bool, false, cond, not, List, [], ◌∷◌, ◌++◌, length, take, replicate, Ok, Err, Result, nat_le, nat_lt}
use Rattle.std.proofs.Math.Seq.{paste}
use Rattle.engine.specs.Refusals.{Refusal}
use Rattle.book.specs.Refusals.{numbered, at}
use Rattle.book.specs.Slots.{slots, is_book, bytes_for}
use Rattle.book.specs.Reading.{Edit, adds, cuts, puts, tags}

abbrev pub kind_of : Edit → ℕ
kind_of (adds n bytes) = 1
kind_of (cuts n) = 2
kind_of (puts position n bytes) = 3
kind_of (tags n) = 4

-- only a put has a position
abbrev pub position_of : Edit → ℕ
position_of (adds n bytes) = 0
position_of (cuts n) = 0
position_of (puts position n bytes) = position
position_of (tags n) = 0

abbrev pub bits_of : Edit → ℕ
bits_of (adds n bytes) = n
bits_of (cuts n) = n
bits_of (puts position n bytes) = n
bits_of (tags n) = n

-- the data of an add or a put: of the bytes handed in, those that its bits need
abbrev pub data_of : Edit → List ℕ
data_of (adds n bytes) = take (bytes_for n) bytes
data_of (cuts n) = []
data_of (puts position n bytes) = take (bytes_for n) bytes
data_of (tags n) = []

-- an add or a put has fewer bits handed in than its length
abbrev pub lacking : Edit → Bool
lacking (adds n bytes) = nat_lt (8 * length bytes) n
lacking (cuts n) = false
lacking (puts position n bytes) = nat_lt (8 * length bytes) n
lacking (tags n) = false

-- an add or a put has more bits than a slot's data
abbrev pub overlong : Edit → Bool
overlong (adds n bytes) = nat_lt 160 n
overlong (cuts n) = false
overlong (puts position n bytes) = nat_lt 160 n
overlong (tags n) = false

-- a number in two and in four bytes, high byte first
abbrev pub half_bytes : ℕ → List ℕ
half_bytes v = (v / 256 % 256) ∷ (v % 256) ∷ []

abbrev pub word_bytes : ℕ → List ℕ
word_bytes v = (v / 16777216 % 256) ∷ (v / 65536 % 256) ∷ (v / 256 % 256) ∷ (v % 256) ∷ []

-- a position and a length that four bytes hold
abbrev pub Words : Edit → Type 0
Words e = (position_of e < 2 ^ 32) × (bits_of e < 2 ^ 32)

-- the 32 bytes of a record's slot, with no link yet; what is unused is zero
abbrev pub slot_bytes : Edit → List ℕ
slot_bytes e =
    0 ∷ 0 ∷ kind_of e ∷ 0 ∷ (word_bytes (position_of e) ++ (word_bytes (bits_of e) ++ (data_of e ++ replicate (20 - length (data_of e)) 0)))

-- a record in a slot, and the link to it from the slot before
abbrev pub written : List ℕ → ℕ → Edit → List ℕ
written book last e = paste (paste book ((last + 1) * 32) (slot_bytes e) 32) (last * 32) (half_bytes (last + 1)) 2

-- what a call answers and leaves: its outcome, the last slot taken, and the book
pub record After : Type 0 where
  pub outcome : Result (Unit {0}) Refusal
  pub last : ℕ
  pub book : List ℕ

-- a refusal leaves all as it is
abbrev pub sent : List ℕ → ℕ → Refusal → After
sent book last refusal = record { outcome = Err refusal; last = last; book = book }

-- one record more, in the slot behind the last one taken
abbrev pub putting : List ℕ → ℕ → Edit → After
putting book last e =
    cond (lacking e) (sent book last (numbered 3))
    (cond (not (is_book book)) (sent book last (numbered 10))
    (cond (overlong e) (sent book last (at 14 (last + 1)))
    (cond (nat_le (slots book) (last + 1)) (sent book last (numbered 18))
    (record { outcome = Ok tt; last = last + 1; book = written book last e }))))

-- a book that is cleared, and in which no slot is taken
abbrev pub clearing : List ℕ → After
clearing book =
    cond (is_book book) (record { outcome = Ok tt; last = 0; book = replicate (length book) 0 }) (sent book 0 (numbered 10))
