-- What the small functions of a call answer. Assumes nothing.
use Rattle.std.specs.Prelude.{ℕ, ◌*◌, cond, not, List, length, Ok, Err, Result, ◌==◌, nat_lt}
use Rattle.block.specs.Arith.{Arith}
use Rattle.bits.specs.Memory.{unfit}
use Rattle.overlay.specs.Judging.{taggable, missing}
use Rattle.overlay.specs.declared.fault.OverlayFault.{OverlayFault}
use Rattle.overlay.specs.declared.fault.OverlayFault.TheVariants.{Memory, Edit, Range, Room, TagLength, BlockNumber}

-- the outcome and the slip, from what the work of a call gave
abbrev pub answer : Result ℕ OverlayFault → Result (Unit {0}) OverlayFault × ℕ
answer (Ok due) = (Ok tt, due)
answer (Err fault) = (Err fault, 0)

-- whether a test was passed
abbrev pub tested : {X : Type 0} → Result X OverlayFault → Result (Unit {0}) OverlayFault
tested (Ok x) = Ok tt
tested (Err fault) = Err fault

-- each refuses with its own number where its condition holds
abbrev pub fits : List ℕ → ℕ → Result (Unit {0}) OverlayFault
fits memory b = cond (unfit memory b) (Err Memory) (Ok tt)

abbrev pub offers : List ℕ → ℕ → Result (Unit {0}) OverlayFault
offers edit a = cond (nat_lt (8 * length edit) a) (Err Edit) (Ok tt)

abbrev pub reaches : ℕ → ℕ → Result (Unit {0}) OverlayFault
reaches b end = cond (nat_lt b end) (Err Range) (Ok tt)

abbrev pub leaves : List ℕ → ℕ → Result (Unit {0}) OverlayFault
leaves memory end = cond (nat_lt (8 * length memory) end) (Err Room) (Ok tt)

abbrev pub tags : {B : Type 0} → Arith B → ℕ → Result (Unit {0}) OverlayFault
tags A n = cond (not (taggable A n)) (Err TagLength) (Ok tt)

abbrev pub fills : {B : Type 0} → Arith B → ℕ → Result (Unit {0}) OverlayFault
fills A n = cond (not (n == A.size)) (Err TagLength) (Ok tt)

abbrev pub has : {B : Type 0} → Arith B → ℕ → ℕ → Result (Unit {0}) OverlayFault
has A b i = cond (missing A b i) (Err BlockNumber) (Ok tt)
