-- Values of the code as plain values. Assumes nothing.
use Rattle.std.specs.Prelude.{◌≡◌, ℕ, List, [], ◌∷◌, ◌++◌, take, Some, None, Ok, Err, Option, Result}
use Rattle.block.specs.Arith.{Arith}
use Rattle.engine.specs.Refusals.{Refusal}
use Rattle.engine.specs.Meaning.{Meaning}
use Rattle.overlay.specs.Refusals.{carried, refused, overlay_refusal, booking_refusal}
use Rattle.overlay.specs.Views.{state, arrived}
use Rattle.overlay.specs.declared.ledger.Account.{Account}
use Rattle.overlay.specs.declared.slip.Slip.{Slip}
use Rattle.history.specs.declared.call.Call as code
use Rattle.history.specs.declared.call.Call.TheVariants.{Check, Recover, Add, Cut, Put, Tag, Book}
use Rattle.history.specs.declared.call.Beginning as code-beginning
use Rattle.history.specs.declared.call.Beginning.TheVariants.{Opening, Receipt}
use Rattle.history.specs.declared.fault.CallFault.{CallFault}
use Rattle.history.specs.declared.fault.CallFault.TheVariants.{Overlay, Booking}
use Rattle.history.specs.declared.tag.TagBytes.{TagBytes}
use Rattle.history.specs.declared.answer.Stage.{Stage}
use Rattle.history.specs.declared.answer.Stage.TheVariants.{Returned, Received, Opened}
use Rattle.history.specs.declared.answer.Stepped.{Stepped}
use Rattle.history.specs.declared.answer.Reply as code-reply
use Rattle.history.specs.Reckoning.{Beginning, opens, receives, Call, checks, recovers, adds, cuts, puts, tags, books, Answer, silent, says, Reply}
use Rattle.history.specs.Desk.{Kept, engine, arrival, open_one, Desk, Turn, Moved, bits_in, left_in, ran, first_desk, History}

-- a call
abbrev pub call_of : code.Call → Call
call_of (Check tag) = checks tag.now
call_of (Recover tag block) = recovers tag.now block
call_of (Add edit count) = adds edit.now count
call_of (Cut count) = cuts count
call_of (Put position edit count) = puts position edit.now count
call_of (Tag bytes) = tags bytes
call_of (Book slip account) = books slip account

abbrev pub calls_of : List code.Call → List Call
calls_of [] = []
calls_of (c ∷ cs) = call_of c ∷ calls_of cs

abbrev pub beginning_of : code-beginning.Beginning → Beginning
beginning_of Opening = opens
beginning_of (Receipt bits) = receives bits

-- each fault's number and told values
abbrev pub call_refusal : CallFault → Refusal
call_refusal (Overlay fault) = overlay_refusal fault
call_refusal (Booking fault) = booking_refusal fault

-- what a call says, with a tag's bytes
abbrev pub said_of : Result TagBytes CallFault → Answer
said_of (Ok tag) = says carried (take tag.length tag.buffer)
said_of (Err fault) = says (refused (call_refusal fault)) []

abbrev pub answer_of : Option (Result TagBytes CallFault) → Answer
answer_of None = silent
answer_of (Some said) = said_of said

-- what is told of a call
abbrev pub reply_of : code-reply.Reply → Reply
reply_of x = record { answer = answer_of x.said; bits = x.bits; left = x.left }

abbrev pub replies_of : List code-reply.Reply → List Reply
replies_of [] = []
replies_of (x ∷ xs) = reply_of x ∷ replies_of xs

-- what slips show
abbrev pub shown : List Slip → List ℕ
shown [] = []
shown (x ∷ xs) = x.count ∷ shown xs

abbrev pub slip_of : Option Slip → List ℕ
slip_of None = []
slip_of (Some x) = x.count ∷ []

module _ {E B : Type 0} (means : E → Meaning B) where
  abbrev pub kept : Stage E B → Kept B
  kept (Returned e) = engine (means e)
  kept (Received h) = arrival (arrived means h)
  kept (Opened o) = open_one (state means o)

  -- after a call of an overlay
  abbrev pub turn_of : Stepped E B → List ℕ → Turn B
  turn_of r memory = record { answer = answer_of r.said; overlay = kept r.stage; memory = memory; slip = slip_of r.slip }

  -- a desk, and after a call on it
  abbrev pub desk_of : Stage E B → List ℕ → List Account → List Slip → Desk B
  desk_of s memory accounts slips = record { overlay = kept s; memory = memory; accounts = accounts; slips = shown slips }

  abbrev pub moved_of : Stepped E B → List ℕ → List Account → List Slip → Moved B
  moved_of r memory accounts slips =
      record { answer = answer_of r.said; desk = record { overlay = kept r.stage; memory = memory; accounts = accounts; slips = shown slips ++ slip_of r.slip } }

  -- what is told of a call that was made so
  abbrev pub telling_of : Stepped E B → code-reply.Reply
  telling_of r = record { said = r.said; bits = bits_in (kept r.stage); left = left_in (kept r.stage) }

  -- a whole history was run, and what is told of it is noted behind what was; or the engine came back and nothing changed
  abbrev pub Replayed : Arith B → Result (Stage E B) E → E → Beginning → List Call → List ℕ → List ℕ → List Account → List Account → List Slip → List Slip → List code-reply.Reply → List code-reply.Reply → Type 0
  Replayed A (Ok s) e b cs memory memory' accounts accounts' slips slips' replies replies' =
      (desk_of s memory' accounts' slips' ≡ ran A (first_desk A b (means e) memory accounts (shown slips)) cs)
      × ((xs : List code-reply.Reply) × ((replies' ≡ replies ++ xs) × History A (means e) memory accounts (shown slips) b cs (replies_of xs) (desk_of s memory' accounts' slips')))
  Replayed A (Err back) e b cs memory memory' accounts accounts' slips slips' replies replies' =
      (back ≡ e) × ((memory' ≡ memory) × ((accounts' ≡ accounts) × ((slips' ≡ slips) × (replies' ≡ replies))))
