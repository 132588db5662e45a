-- One lost block, written back from the rest and the full tag. Assumes nothing.
use Rattle.std.specs.Prelude.{◌≡◌, ℕ, ◌*◌, ◌≤◌, Bool, List, [], ◌∷◌, length}
use Rattle.block.specs.Arith.{Arith, width, to_bytes}
use Rattle.bits.specs.Blocks.{part}
use Rattle.bits.specs.Memory.{standing, replaced}
use Rattle.engine.specs.Meaning.{Meaning}
use Rattle.pmac.specs.Pmac.{full}
use Rattle.pmac.specs.Recovery.{placed}
use Rattle.overlay.specs.Refusals.{carried, refused}
use Rattle.overlay.specs.Judging.{whole_due}
use Rattle.history.specs.Reckoning.{says}
use Rattle.history.specs.Desk.{Turn, turn, arrival, engine, after}
use Rattle.overlay.specs.Calls.{Made, made, back}
use Rattle.overlay.specs.Receiving.{Arrived, receive, recover}

module _ {B : Type 0} (A : Arith B) where
  -- an overlay is received, and recovered if it is not refused
  abbrev pub then_recover : List ℕ → List ℕ → ℕ → Made (Arrived B) (Meaning B) → Turn B
  then_recover memory tag i (made a n) = after arrival (recover A (record { state = a; memory = memory; buffer = [] }) tag i)
  then_recover memory tag i (back e r n) = turn (refused r) [] (engine e) memory n

  abbrev pub restoring : Meaning B → List ℕ → ℕ → List ℕ → ℕ → Turn B
  restoring m memory b tag i = then_recover memory tag i (receive A m memory b)

  -- the block is back: the bits are the original ones again, and no other memory changed
  pub record Restored (memory : List ℕ) (bits : List Bool) (i : ℕ) (t : Turn B) : Type 0 where
    pub carried_out : t.answer ≡ says carried []
    pub bits_back : standing (length bits) t.memory ≡ bits
    pub rest_same : t.memory ≡ replaced A memory i (A.pack (part A i bits))
    pub price : t.slip ≡ whole_due A (length bits) ∷ []

  -- take any bits and their full tag, put any block v in place of a whole one, and leave operations enough
  abbrev pub Restores : Meaning B → List ℕ → ℕ → List ℕ → ℕ → Turn B → Type 0
  Restores m memory b tag i t =
      (bits : List Bool) (v : B) → b ≡ length bits → standing b memory ≡ placed A i v bits → tag ≡ to_bytes A (full A m.enc bits)
      → 1 ≤ i → i * width A ≤ length bits → length memory ≤ 65536 → b ≤ 8 * length memory → whole_due A b ≤ m.left → Restored memory bits i t
