-- What a book says: the records in chain order, or why it is refused. Assumes nothing.
use Rattle.std.specs.Prelude.{ℕ, zero, suc, ◌-◌, ◌<◌, cond, List, [], ◌∷◌, Ok, Err, Result, ◌==◌, nat_lt}
use Rattle.engine.specs.Refusals.{Refusal}
use Rattle.book.specs.Refusals.{numbered, at}
use Rattle.book.specs.Slots.{slots, is_book, link, kind, position, bits, data_of}

-- an edit: bits and their bytes added, bits cut, bits put at a position, a tag of some bits asked for
pub data Edit : Type 0 where
  adds : ℕ → List ℕ → Edit
  cuts : ℕ → Edit
  puts : ℕ → ℕ → List ℕ → Edit
  tags : ℕ → Edit

-- a record: an edit and the slot that it stands in
pub record Entry : Type 0 where
  pub slot : ℕ
  pub edit : Edit

abbrev pub in_slot : ℕ → Edit → Result Entry Refusal
in_slot slot edit = Ok (record { slot = slot; edit = edit })

-- a slot's data have at most 160 bits, or it is 14
abbrev pub in_data : ℕ → ℕ → Edit → Result Entry Refusal
in_data slot n edit = cond (nat_lt 160 n) (Err (at 14 slot)) (in_slot slot edit)

-- a record from the fields of a slot; 13 where its kind is none of the four
abbrev pub entry_of : ℕ → ℕ → ℕ → ℕ → List ℕ → Result Entry Refusal
entry_of slot kind position n bytes =
    cond (kind == 1) (in_data slot n (adds n bytes))
    (cond (kind == 2) (in_slot slot (cuts n))
    (cond (kind == 3) (in_data slot n (puts position n bytes))
    (cond (kind == 4) (in_slot slot (tags n)) (Err (at 13 slot)))))

abbrev pub entry_at : List ℕ → ℕ → Result Entry Refusal
entry_at book slot = entry_of slot (kind book slot) (position book slot) (bits book slot) (data_of book slot (bits book slot))

-- a slot more in front of a chain
abbrev pub linked : ℕ → Result (List ℕ) Refusal → Result (List ℕ) Refusal
linked slot (Ok chain) = Ok (slot ∷ chain)
linked slot (Err refusal) = Err refusal

-- what a slot's link says: the chain ends, or it leads to no slot, which is 11, or there is more
abbrev pub ended : List ℕ → ℕ → Result (List ℕ) Refusal → Result (List ℕ) Refusal
ended book slot more = cond (link book slot == 0) (Ok []) (cond (nat_lt (link book slot) (slots book)) more (Err (at 11 slot)))

-- the slots behind a slot, in chain order, where so many links may still be followed; past them a link is 12
abbrev pub follow : List ℕ → ℕ → ℕ → Result (List ℕ) Refusal
follow book zero slot = ended book slot (Err (at 12 slot))
follow book (suc links) slot = ended book slot (linked (link book slot) (follow book links (link book slot)))

-- as many links may be followed as there are slots beside slot 0
abbrev pub onwards : List ℕ → ℕ → Result (List ℕ) Refusal
onwards book slot = follow book (slots book - 1) slot

-- the chain; a book of one slot is looked at first
abbrev pub chain : List ℕ → Result (List ℕ) Refusal
chain book = cond (slots book == 1) (cond (link book 0 == 0) (Ok []) (Err (at 11 0))) (onwards book 0)

-- a record more in front of those that follow it
abbrev pub entered : Result Entry Refusal → Result (List Entry) Refusal → Result (List Entry) Refusal
entered (Ok first) (Ok rest) = Ok (first ∷ rest)
entered (Ok first) (Err refusal) = Err refusal
entered (Err refusal) rest = Err refusal

-- the records of slots, in their order
abbrev pub entries : List ℕ → List ℕ → Result (List Entry) Refusal
entries book [] = Ok []
entries book (slot ∷ chain) = entered (entry_at book slot) (entries book chain)

-- all links are looked at before any record
abbrev pub recorded : List ℕ → Result (List ℕ) Refusal → Result (List Entry) Refusal
recorded book (Ok chain) = entries book chain
recorded book (Err refusal) = Err refusal

-- the records behind a slot
abbrev pub behind : List ℕ → ℕ → Result (List Entry) Refusal
behind book slot = recorded book (onwards book slot)

abbrev pub reading : List ℕ → Result (List Entry) Refusal
reading book = cond (is_book book) (recorded book (chain book)) (Err (numbered 10))

-- records in slots below a number
abbrev pub Inside : ℕ → List Entry → Type 0
Inside n [] = Unit {0}
Inside n (e ∷ entries) = (e.slot < n) × Inside n entries
