-- Refusals of an overlay's calls and of bookings, with their numbers and told values. Assumes nothing.
use Rattle.std.specs.Prelude.{ℕ, [], Ok, Err, Result}
use Rattle.engine.specs.Refusals.{Refusal, engine_refusal}
use Rattle.overlay.specs.declared.fault.OverlayFault.{OverlayFault}
use Rattle.overlay.specs.declared.fault.OverlayFault.TheVariants.{Memory, Edit, Range, Room, TagLength, BlockNumber, WrongTag, Engine}
use Rattle.overlay.specs.declared.fault.BookingFault.{BookingFault}
use Rattle.overlay.specs.declared.fault.BookingFault.TheVariants.{NoAccount, Full}

abbrev pub numbered : ℕ → Refusal
numbered n = record { number = n; told = [] }

abbrev pub overlay_refusal : OverlayFault → Refusal
overlay_refusal Memory = numbered 2
overlay_refusal Edit = numbered 3
overlay_refusal Range = numbered 4
overlay_refusal Room = numbered 5
overlay_refusal TagLength = numbered 6
overlay_refusal BlockNumber = numbered 7
overlay_refusal WrongTag = numbered 9
overlay_refusal (Engine fault) = engine_refusal fault

abbrev pub booking_refusal : BookingFault → Refusal
booking_refusal NoAccount = numbered 16
booking_refusal Full = numbered 17

-- what came of a call: carried out, or refused
pub data Outcome : Type 0 where
  carried : Outcome
  refused : Refusal → Outcome

abbrev pub outcome : Result (Unit {0}) OverlayFault → Outcome
outcome (Ok u) = carried
outcome (Err fault) = refused (overlay_refusal fault)

abbrev pub booking_outcome : Result (Unit {0}) BookingFault → Outcome
booking_outcome (Ok u) = carried
booking_outcome (Err fault) = refused (booking_refusal fault)
