-- What the three calls that seal a message come to: open, add and tag. Assumes nothing.
use Rattle.std.specs.Prelude.{◌≡◌, ℕ, ◌*◌, ◌≤◌, true, cond, List, length, Ok, Err, Result, nat_lt}
use Rattle.block.specs.Arith.{Arith, to_bytes}
use Rattle.bits.specs.Memory.{standing}
use Rattle.engine.specs.Meaning.{Meaning}
use Rattle.pmac.specs.Pmac.{full}
use Rattle.overlay.specs.declared.fault.OverlayFault.{OverlayFault}
use Rattle.overlay.specs.Refusals.{Outcome, carried, refused, overlay_refusal}
use Rattle.overlay.specs.Judging.{taggable}

-- a tag's bytes and the operations on the slips, or the number of the first refusal
pub data Came : Type 0 where
  tagged : List ℕ → ℕ → Came
  stopped : ℕ → Came

-- by what the code answers and by what a call leaves, with the buffer's bytes
abbrev pub came : Result ℕ OverlayFault → List ℕ → Came
came (Ok n) tag = tagged tag n
came (Err fault) tag = stopped (overlay_refusal fault).number

abbrev pub ended : Outcome → ℕ → List ℕ → Came
ended carried n tag = tagged tag n
ended (refused r) n tag = stopped r.number

-- what the calls are handed: a memory as long as the message, and a buffer for a whole block, which is a tag's length
pub record Handed {B : Type 0} (A : Arith B) (memory message buffer : List ℕ) : Type 0 where
  pub room : length memory ≡ length message
  pub small : length message ≤ 65536
  pub whole : length buffer ≡ A.size
  pub tags : taggable A A.size ≡ true

module _ {B : Type 0} (A : Arith B) where
  -- the full tag of all of a message for a number of operations, or refusal 8 where fewer are left
  abbrev pub sealing : Meaning B → List ℕ → ℕ → Came
  sealing m message due = cond (nat_lt m.left due) (stopped 8) (tagged (to_bytes A (full A m.enc (standing (8 * length message) message))) due)
