-- What the calls mean for the bits that stand, for the allowance and for the price list. Assumes nothing.
use Rattle.std.specs.Prelude.{◌≡◌, ℕ, ◌+◌, ◌-◌, ◌*◌, ◌≤◌, Bool, List, [], ◌++◌, length, take}
use Rattle.std.proofs.Math.Seq.{paste}
use Rattle.block.specs.Bits.{bits_of}
use Rattle.block.specs.Arith.{Arith, to_bytes}
use Rattle.bits.specs.Memory.{standing}
use Rattle.pmac.specs.Pmac.{sum, full}
use Rattle.pmac.specs.Prices.{edit_bound, put_bound}
use Rattle.engine.specs.Meaning.{Meaning}
use Rattle.overlay.specs.Refusals.{Outcome, carried, refused}
use Rattle.overlay.specs.Calls.{State, World, After, Made, made, back}

-- the bits after a call that makes them ys of xs
abbrev pub then : {X : Type 0} → Outcome → X → X → X
then carried ys xs = ys
then (refused r) ys xs = xs

module _ {B : Type 0} (A : Arith B) where
  -- an overlay over a memory stands for bits: they are the memory's first, and what it keeps belongs to them
  pub record Stands (s : State B) (memory : List ℕ) (bits : List Bool) : Type 0 where
    pub fits : s.bits ≤ 8 * length memory
    pub first : standing s.bits memory ≡ bits
    pub l_is : s.l ≡ s.engine.enc A.zero
    pub sum_is : s.sum ≡ sum A s.engine.enc s.l bits

  -- a call at the price of at most `bound`, which makes the bits standing what `edit` gives of them
  pub record Edits (edit : List Bool → List Bool) (bound : ℕ) (w : World (State B)) (a : After (State B)) : Type 0 where
    -- whatever bits it stood for
    pub stands : (bits : List Bool) → Stands w.state w.memory bits → Stands a.world.state a.world.memory (then a.outcome (edit bits) bits)
    -- left falls by what the slip shows
    pub pays : a.world.state.engine.left + a.slip ≡ w.state.engine.left
    pub bounded : a.slip ≤ bound

  -- add appends, cut drops, put replaces
  abbrev pub Adds : World (State B) → List ℕ → ℕ → After (State B) → Type 0
  Adds w edit n a = Edits (λ bits. bits ++ take n (bits_of edit)) (edit_bound A n) w a

  abbrev pub Cuts : World (State B) → ℕ → After (State B) → Type 0
  Cuts w n a = Edits (λ bits. take (length bits - n) bits) (edit_bound A n) w a

  abbrev pub Puts : World (State B) → ℕ → List ℕ → ℕ → After (State B) → Type 0
  Puts w pos edit n a = Edits (λ bits. paste bits pos (bits_of edit) n) (put_bound A n) w a

  -- tag leaves the bits, and gives the first bytes of their PMAC from nothing
  pub record Tags (w : World (State B)) (a : After (State B)) : Type 0 where
    pub edits : Edits (λ bits. bits) 1 w a
    pub tag_is : (bits : List Bool) → Stands w.state w.memory bits
        → a.world.buffer ≡ then a.outcome (take (length w.buffer) (to_bytes A (full A w.state.engine.enc bits))) w.buffer

  -- an overlay just opened stands for no bits, over any memory
  abbrev pub Opens : Made (State B) (Meaning B) → Type 0
  Opens (made s slip) = (memory : List ℕ) → Stands s memory []
  Opens (back m r slip) = Unit {0}
