-- What each call of a received overlay gives and leaves, from what it finds. Assumes nothing.
use Rattle.std.specs.Prelude.{ℕ, Bool, true, false, cond, ◌&&◌, List, [], ◌∷◌, length, take, ◌==◌}
use Rattle.block.specs.Arith.{Arith, from_bytes, to_bytes}
use Rattle.bits.specs.Memory.{standing, replaced}
use Rattle.engine.specs.Meaning.{Meaning, spent}
use Rattle.pmac.specs.Pmac.{sum, full}
use Rattle.pmac.specs.Recovery.{recovered}
use Rattle.overlay.specs.Refusals.{numbered}
use Rattle.overlay.specs.Calls.{State, World, After, Made, made, back, sent, did}
use Rattle.overlay.specs.Judging.{decided, misfits, tag_conditions, recover_conditions, whole_due}

-- what a received overlay keeps
pub record Arrived (B : Type 0) : Type 0 where
  pub bits : ℕ
  pub engine : Meaning B

-- two byte strings are the same
abbrev pub same : List ℕ → List ℕ → Bool
same [] [] = true
same [] (y ∷ ys) = false
same (x ∷ xs) [] = false
same (x ∷ xs) (y ∷ ys) = x == y && same xs ys

module _ {B : Type 0} (A : Arith B) where
  -- receive takes the memory's first b bits, and asks the engine nothing
  abbrev pub receive : Meaning B → List ℕ → ℕ → Made (Arrived B) (Meaning B)
  receive m memory b = cond (misfits (length memory) b) (back m (numbered 2) 0) (made (record { bits = b; engine = m }) 0)

  -- the tag handed in against the first bytes of the full tag; both ways have asked for all of it
  abbrev pub checked : Arrived B → List ℕ → List ℕ → Made (State B) (Arrived B)
  checked h memory tag =
      let enc = h.engine.enc in let l = enc A.zero in let bits = standing h.bits memory in let due = whole_due A h.bits in
      cond (same tag (take (length tag) (to_bytes A (full A enc bits))))
      (made (record { bits = h.bits; l = l; sum = sum A enc l bits; engine = spent due h.engine }) due)
      (back (record { bits = h.bits; engine = spent due h.engine }) (numbered 9) due)

  abbrev pub check : Arrived B → List ℕ → List ℕ → Made (State B) (Arrived B)
  check h memory tag = decided (λ r. back h r 0) h.engine.left (tag_conditions A (length memory) h.bits (length tag)) (whole_due A h.bits) (checked h memory tag)

  -- recover writes the block that gives the full tag handed in
  abbrev pub recover_done : World (Arrived B) → List ℕ → ℕ → World (Arrived B)
  recover_done w tag i =
      let h = w.state in
      record {
        state = record { bits = h.bits; engine = spent (whole_due A h.bits) h.engine };
        memory = replaced A w.memory i (recovered A h.engine.enc h.engine.dec (from_bytes A tag) (standing h.bits w.memory) i);
        buffer = w.buffer;
      }

  abbrev pub recover : World (Arrived B) → List ℕ → ℕ → After (Arrived B)
  recover w tag i =
      let h = w.state in let due = whole_due A h.bits in
      decided (sent w) h.engine.left (recover_conditions A (length w.memory) h.bits (length tag) i) due (did due (recover_done w tag i))
