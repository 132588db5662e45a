-- What sealing works out, and what the call for a full tag answers. Assumes nothing.
use Rattle.std.specs.Prelude.{ℕ, ◌+◌, Bool, cond, List, [], ◌∷◌, Ok, Err, Result, nat_lt}
use Rattle.block.specs.Arith.{Arith}
use Rattle.bits.specs.Blocks.{blocks}
use Rattle.bits.specs.Memory.{standing, unfit}
use Rattle.engine.specs.Refusals.{Refusal, engine_refusal}
use Rattle.engine.specs.Meaning.{Meaning}
use Rattle.pmac.specs.Pmac.{sum, full}
use Rattle.pmac.specs.declared.fault.TagFault.{TagFault}
use Rattle.pmac.specs.declared.fault.TagFault.TheVariants.{Memory, Engine}
use Rattle.pmac.specs.declared.FullTag.{FullTag}
use Rattle.pmac.specs.declared.SealedBits.{SealedBits}

-- L, the sum of Y[1] to Y[m - 1], and the full tag of some bits
abbrev pub sealing : {B : Type 0} → Arith B → (B → B) → List Bool → SealedBits B
sealing A enc bs = let l = enc A.zero in record { l = l; sum = sum A enc l bs; tag = full A enc bs }

-- 2: a memory over 65,536 bytes, or under the bits that are to stand in it
abbrev pub tag_refusal : TagFault → Refusal
tag_refusal Memory = record { number = 2; told = [] }
tag_refusal (Engine fault) = engine_refusal fault

-- a tag with the operations that it took, or a refusal, which took none
pub data Outcome (B : Type 0) : Type 0 where
  worked : B → ℕ → Outcome B
  refused : Refusal → Outcome B

abbrev pub operations : {B : Type 0} → Outcome B → ℕ
operations (worked tag n) = n
operations (refused r) = 0

abbrev pub outcome : {B : Type 0} → Result (FullTag B) TagFault → Outcome B
outcome (Ok t) = worked t.tag t.operations
outcome (Err fault) = refused (tag_refusal fault)

-- the full tag of the memory's first b bits, for m + 1 operations; refusals in rising order
abbrev pub full_tag : {B : Type 0} → Arith B → Meaning B → List ℕ → ℕ → Outcome B
full_tag A m memory b =
    let due = blocks A b + 1 in
    cond (unfit memory b) (refused (record { number = 2; told = [] }))
    (cond (nat_lt m.left due) (refused (record { number = 8; told = due ∷ m.left ∷ [] }))
    (worked (full A m.enc (standing b memory)) due))
