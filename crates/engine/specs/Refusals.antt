-- What a refusal says: its number, and the values that it tells. Assumes nothing.
use Rattle.std.specs.Prelude.{ℕ, List, [], ◌∷◌, Ok, Err, Result}
use Rattle.engine.specs.Meaning.{Meaning}
use Rattle.engine.specs.declared.fault.KeyFault.{KeyFault}
use Rattle.engine.specs.declared.fault.KeyFault.TheVariants.{Length}
use Rattle.engine.specs.declared.fault.EngineFault.{EngineFault}
use Rattle.engine.specs.declared.fault.EngineFault.TheVariants.{Spent}

pub record Refusal : Type 0 where
  pub number : ℕ
  pub told : List ℕ

-- 1: a key of another length than the cipher's
abbrev pub key_refusal : KeyFault → Refusal
key_refusal Length = record { number = 1; told = [] }

-- 8: fewer operations left than are due; tells both
abbrev pub engine_refusal : EngineFault → Refusal
engine_refusal (Spent due left) = record { number = 8; told = due ∷ left ∷ [] }

-- what came of making an engine: what it means, or the refusal
abbrev pub made_by : {E B : Type 0} → (E → Meaning B) → Result E KeyFault → Result (Meaning B) Refusal
made_by means (Ok e) = Ok (means e)
made_by means (Err fault) = Err (key_refusal fault)
