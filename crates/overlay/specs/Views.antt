-- Values of the code as plain values. Assumes nothing.
use Rattle.std.specs.Prelude.{◌≡◌, ℕ, List, [], Some, None, Ok, Err, Option, Result}
use Rattle.engine.specs.Meaning.{Meaning}
use Rattle.overlay.specs.declared.fault.BookingFault.{BookingFault}
use Rattle.overlay.specs.declared.fault.OverlayFault.{OverlayFault}
use Rattle.overlay.specs.declared.ledger.Account.{Account}
use Rattle.overlay.specs.declared.open.Open.{Open}
use Rattle.overlay.specs.declared.slip.Refused.{Refused}
use Rattle.overlay.specs.declared.received.Received.{Received}
use Rattle.pmac.specs.declared.SealedBits.{SealedBits}
use Rattle.overlay.specs.declared.received.Examined.{Examined}
use Rattle.overlay.specs.declared.slip.Answer.{Answer}
use Rattle.overlay.specs.Refusals.{carried, refused, numbered, overlay_refusal, outcome as outcome_of, booking_outcome}
use Rattle.overlay.specs.Ledger.{Booked}
use Rattle.overlay.specs.Calls.{State, World, After, Made, made, back}
use Rattle.overlay.specs.Receiving.{Arrived}

-- after a booking
abbrev pub booked : Result (Unit {0}) BookingFault → List Account → ℕ → Booked
booked r accounts slip = record { outcome = booking_outcome r; accounts = accounts; slip = slip }

module _ {E B : Type 0} (means : E → Meaning B) where
  -- an open overlay
  abbrev pub state : Open E B → State B
  state o = record { bits = o.bits; l = o.l; sum = o.sum; engine = means o.engine }

  -- with the memory and the buffer that a call finds or leaves
  abbrev pub world : Open E B → List ℕ → List ℕ → World (State B)
  world o memory buffer = record { state = state o; memory = memory; buffer = buffer }

  -- a received overlay, and with the memory that a call finds or leaves
  abbrev pub arrived : Received E B → Arrived B
  arrived h = record { bits = h.bits; engine = means h.engine }

  abbrev pub harbour : Received E B → List ℕ → World (Arrived B)
  harbour h memory = record { state = arrived h; memory = memory; buffer = [] }

  -- after the work of a check, which gives what was worked out or why it is refused; all but a right tag leave what is received
  abbrev pub opened_by : Option (SealedBits B) → ℕ → Received E B → Made (State B) (Arrived B)
  opened_by (Some x) due h = made (record { bits = h.bits; l = x.l; sum = x.sum; engine = means h.engine }) due
  opened_by None due h = back (arrived h) (numbered 9) due

  abbrev pub examined : Result (Examined B) OverlayFault → Received E B → Made (State B) (Arrived B)
  examined (Ok x) h = opened_by x.opened x.due h
  examined (Err fault) h = back (arrived h) (overlay_refusal fault) 0

-- after a call that takes an overlay on: the overlay, or what was handed in
abbrev pub taken : {X Y S M : Type 0} → (X → S) → (Y → M) → Result X (Refused Y) → ℕ → Made S M
taken given kept (Ok x) slip = made (given x) slip
taken given kept (Err r) slip = back (kept r.back) (overlay_refusal r.fault) slip

-- what was handed in comes back as the very same
abbrev pub Returned : {X Y : Type 0} → Result X (Refused Y) → Y → Type 0
Returned (Ok x) y = Unit {0}
Returned (Err r) y = r.back ≡ y

module _ {S : Type 0} where
  -- after the work of a call, which gives the operations that it took or why it is refused
  abbrev pub worked : Result ℕ OverlayFault → World S → After S
  worked (Ok due) w = record { outcome = carried; slip = due; world = w }
  worked (Err fault) w = record { outcome = refused (overlay_refusal fault); slip = 0; world = w }

  -- after a call
  abbrev pub seen : Answer (Unit {0}) OverlayFault → World S → After S
  seen a w = record { outcome = outcome_of a.outcome; slip = a.slip.count; world = w }
