-- Sums of blocks after a map. Assumes nothing.
use Rattle.std.specs.Prelude.{◌≡◌, ℕ, zero, suc, ◌*◌, ◌/◌, ◌%◌, ◌^◌, List, length, take, drop, Some, None, Ok, Err, Option, Result, bit_xor}
use Rattle.std.specs.Fn.{Shared}
use Rattle.std.specs.Borrow.{MutBor}
use Rattle.block.specs.Arith.{Arith, from_bytes}
use Rattle.block.specs.Blocks.{Block64, Block128, arith64, arith128}
use Rattle.engine.specs.Meaning.{Meaning, answered}
use Rattle.engine.specs.declared.fault.EngineFault.{EngineFault}
use Rattle.engine.specs.Refusals.{Refusal}
use Rattle.pmac.specs.Sealing.{Outcome, worked, refused, full_tag}

-- block i of a memory
abbrev pub block_at : {B : Type 0} → Arith B → List ℕ → ℕ → B
block_at A memory i = from_bytes A (take A.size (drop (i * A.size) memory))

-- f of the first n blocks, summed
unfoldable pub summed : {B : Type 0} → Arith B → (B → B) → List ℕ → ℕ → B
summed A f memory zero = A.zero
summed A f memory (suc n) = A.plus (summed A f memory n) (f (block_at A memory n))

-- all whole blocks
abbrev pub total : {B : Type 0} → Arith B → (B → B) → List ℕ → B
total A f memory = summed A f memory (length memory / A.size)

-- the same under what came of a key, by the way of its engine's meaning that w picks
abbrev pub total_under : {B : Type 0} → Arith B → (Meaning B → B → B) → Result (Meaning B) Refusal → List ℕ → Option B
total_under A w (Ok m) memory = Some (total A (w m) memory)
total_under A w (Err r) memory = None

-- a call of `way` answers what w makes of the block by the engine's meaning, and leaves the engine with the same map
abbrev pub IsWay : {E B F : Type 0} → (E → Meaning B) → (Meaning B → B → B) → Shared F (MutBor E × (B × Unit {0})) (Result B EngineFault × (MutBor E × Unit {0})) → F → Type 0
IsWay {E} {B} means w calls way = (engine : MutBor E) (block : B) (result : Result B EngineFault) (left : MutBor E) → calls.post way (engine, (block, tt)) (result, (left, tt))
    → (result ≡ answered (means engine.now).left (w (means engine.now) block)) × (w (means left.now) ≡ w (means engine.now))

-- a block's two halves, summed
abbrev pub folded : Block128 → ℕ
folded x = bit_xor (x.value / 2 ^ 64) (x.value % 2 ^ 64)

-- 0 where there is none
abbrev pub folded128 : Option Block128 → ℕ
folded128 (Some x) = folded x
folded128 None = 0

abbrev pub folded64 : Option Block64 → ℕ
folded64 (Some x) = x.value
folded64 None = 0

-- what an engine's enciphering or deciphering of a memory adds up to
abbrev pub enciphering : Result (Meaning Block128) Refusal → List ℕ → ℕ
enciphering made memory = folded128 (total_under arith128 (λ m. m.enc) made memory)

abbrev pub deciphering : Result (Meaning Block128) Refusal → List ℕ → ℕ
deciphering made memory = folded128 (total_under arith128 (λ m. m.dec) made memory)

-- the full tag of a whole memory, if it is not refused
abbrev pub tag_of : {B : Type 0} → Outcome B → Option B
tag_of (worked tag n) = Some tag
tag_of (refused r) = None

-- the full tag of a whole memory under what came of a key; none where either is refused
abbrev pub tag_under : {B : Type 0} → Arith B → Result (Meaning B) Refusal → List ℕ → Option B
tag_under A (Ok m) memory = tag_of (full_tag A m memory (8 * length memory))
tag_under A (Err r) memory = None

abbrev pub tag128 : Result (Meaning Block128) Refusal → List ℕ → ℕ
tag128 made memory = folded128 (tag_under arith128 made memory)

abbrev pub tag64 : Result (Meaning Block64) Refusal → List ℕ → ℕ
tag64 made memory = folded64 (tag_under arith64 made memory)
