-- What the small functions of a reading answer. Assumes nothing.
use Rattle.std.specs.Prelude.{◌≡◌, ℕ, ◌*◌, false, cond, List, take, drop, Some, None, Ok, Err, Option, Result, ◌==◌, nat_lt}
use Rattle.book.specs.declared.book.Book.{Book}
use Rattle.book.specs.declared.slot.Slot.{Slot}
use Rattle.book.specs.declared.fault.BookFault.{BookFault}
use Rattle.book.specs.declared.fault.BookFault.TheVariants.{Size, Link}
use Rattle.book.specs.Slots.{slots, is_book, link}

-- the bytes of a book, or refused where they are none
abbrev pub Checked : List ℕ → Result Book BookFault → Type 0
Checked bytes (Ok book) = book.bytes.now ≡ bytes
Checked bytes (Err fault) = (fault ≡ Size) × (is_book bytes ≡ false)

-- the slot of a book that has this number
pub record IsSlot (book : List ℕ) (n : ℕ) (slot : Slot) : Type 0 where
  pub number : slot.number ≡ n
  pub bytes : slot.bytes.now ≡ take 32 (drop (n * 32) book)

-- the slot behind a slot, if any
abbrev pub follower : List ℕ → ℕ → Option ℕ
follower book slot = cond (link book slot == 0) None (Some (link book slot))

-- the slot behind a slot, if any; refused where there is no such slot
abbrev pub led : List ℕ → ℕ → Result (Option ℕ) BookFault
led book slot = cond (link book slot == 0) (Ok None) (cond (nat_lt (link book slot) (slots book)) (Ok (Some (link book slot))) (Err (Link slot)))
