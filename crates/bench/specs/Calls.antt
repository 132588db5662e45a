-- What a series of calls on one overlay keeps, and the tag behind it. Assumes nothing.
use Rattle.std.specs.Prelude.{ℕ, List, Ok, Err, Result}
use Rattle.block.specs.Arith.{Arith}
use Rattle.block.specs.Blocks.{Block128, arith128}
use Rattle.bits.specs.Memory.{standing}
use Rattle.engine.specs.Meaning.{Meaning}
use Rattle.engine.specs.Refusals.{Refusal}
use Rattle.pmac.specs.Pmac.{full}
use Rattle.overlay.specs.Calls.{State}
use Rattle.overlay.specs.Laws.{Stands}
use Rattle.bench.specs.Sums.{folded}

-- an overlay stands for the first bits of the memory, as many as it says
abbrev pub Keeps : {B : Type 0} → Arith B → State B → List ℕ → Type 0
Keeps A s memory = Stands A s memory (standing s.bits memory)

-- the full tag of the first b bits of a memory
abbrev pub standing128 : Result (Meaning Block128) Refusal → List ℕ → ℕ → ℕ
standing128 (Ok m) memory b = folded (full arith128 m.enc (standing b memory))
standing128 (Err r) memory b = 0
