-- Which refusal a call meets, and what it owes: decided on the memory's size in bytes, the b bits standing, what is left, and the
-- call's arguments. Assumes nothing.
use Rattle.std.specs.Prelude.{ℕ, ◌+◌, ◌*◌, Bool, true, false, cond, not, ◌||◌, List, [], ◌∷◌, ◌==◌, nat_le, nat_lt}
use Rattle.block.specs.Arith.{Arith, width}
use Rattle.bits.specs.Blocks.{blocks}
use Rattle.engine.specs.Refusals.{Refusal}
use Rattle.overlay.specs.Refusals.{numbered}

-- what a call answers: refused by the first of its tests that holds, in rising order of their numbers; then by 8, which tells due and
-- left; else as it is carried out
abbrev pub decided : {R : Type 0} → (Refusal → R) → ℕ → List (Bool × ℕ) → ℕ → R → R
decided refuse left [] due done = cond (nat_lt left due) (refuse (record { number = 8; told = due ∷ left ∷ [] })) done
decided refuse left (t ∷ ts) due done = cond t.0 (refuse (numbered t.1)) (decided refuse left ts due done)

-- a memory over 65,536 bytes, or under b bits
abbrev pub misfits : ℕ → ℕ → Bool
misfits size b = cond (nat_lt 65536 size) true (nat_lt (8 * size) b)

-- receive meets 2 alone, and owes nothing
abbrev pub open_conditions : ℕ → List (Bool × ℕ)
open_conditions size = (misfits size 0, 2) ∷ []

-- of an edit: `bytes` are handed in, of which n bits are to be written
abbrev pub add_conditions : ℕ → ℕ → ℕ → ℕ → List (Bool × ℕ)
add_conditions size b bytes n = (misfits size b, 2) ∷ (nat_lt (8 * bytes) n, 3) ∷ (nat_lt (8 * size) (b + n), 5) ∷ []

abbrev pub cut_conditions : ℕ → ℕ → ℕ → List (Bool × ℕ)
cut_conditions size b n = (misfits size b, 2) ∷ (nat_lt b n, 4) ∷ []

abbrev pub put_conditions : ℕ → ℕ → ℕ → ℕ → ℕ → List (Bool × ℕ)
put_conditions size b pos bytes n = (misfits size b, 2) ∷ (nat_lt (8 * bytes) n, 3) ∷ (nat_lt b (pos + n), 4) ∷ []

module _ {B : Type 0} (A : Arith B) where
  -- a tag has 4, 8, 12 or 16 bytes, and no more than a block
  abbrev pub taggable : ℕ → Bool
  taggable n = cond (n == 4 || (n == 8 || (n == 12 || n == 16))) (nat_le n A.size) false

  -- of a tag to be worked out, and of one to be checked
  abbrev pub tag_conditions : ℕ → ℕ → ℕ → List (Bool × ℕ)
  tag_conditions size b bytes = (misfits size b, 2) ∷ (not (taggable bytes), 6) ∷ []

  -- no whole block i lies within b bits: i is 0 or over m, or the last block is short
  abbrev pub missing : ℕ → ℕ → Bool
  missing b i = cond (i == 0) true (nat_lt b (i * width A))

  -- of a recovery by a tag of so many bytes
  abbrev pub recover_conditions : ℕ → ℕ → ℕ → ℕ → List (Bool × ℕ)
  recover_conditions size b bytes i = (misfits size b, 2) ∷ (not (bytes == A.size), 6) ∷ (missing b i, 7) ∷ []

  -- operations due by a check and by a recovery
  abbrev pub whole_due : ℕ → ℕ
  whole_due b = blocks A b + 1
