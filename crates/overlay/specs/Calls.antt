-- What each call of an open overlay gives and leaves, from what it finds. Assumes nothing.
use Rattle.std.specs.Prelude.{ℕ, ◌+◌, ◌-◌, List, length, take}
use Rattle.block.specs.Arith.{Arith, to_bytes}
use Rattle.bits.specs.Blocks.{blocks, last}
use Rattle.bits.specs.Memory.{standing, written}
use Rattle.engine.specs.Refusals.{Refusal}
use Rattle.engine.specs.Meaning.{Meaning, spent}
use Rattle.pmac.specs.Pmac.{over, ending}
use Rattle.pmac.specs.Stored.{stored}
use Rattle.pmac.specs.Edits.{touched_from, touched}
use Rattle.pmac.specs.Prices.{add_due, cut_due, put_due}
use Rattle.overlay.specs.Refusals.{Outcome, carried, refused}
use Rattle.overlay.specs.Judging.{decided, open_conditions, add_conditions, cut_conditions, put_conditions, tag_conditions}

-- what an open overlay keeps between calls, with what its engine means
pub record State (B : Type 0) : Type 0 where
  pub bits : ℕ  -- b, the bits standing
  pub l : B  -- L
  pub sum : B  -- the ⊕ of Y[1] to Y[m - 1]
  pub engine : Meaning B

-- all that a call finds: the overlay's state, and the memory and the buffer handed in
pub record World (S : Type 0) : Type 0 where
  pub state : S
  pub memory : List ℕ
  pub buffer : List ℕ

-- all that it gives and leaves: its outcome, what its slip shows, and the same things afterwards
pub record After (S : Type 0) : Type 0 where
  pub outcome : Outcome
  pub slip : ℕ
  pub world : World S

-- what a call that takes an overlay on gives: the overlay, or why not and what was handed in; and what the slip shows
pub data Made (S M : Type 0) : Type 0 where
  made : S → ℕ → Made S M
  back : M → Refusal → ℕ → Made S M

module _ {S : Type 0} where
  -- refused: all stays, and the slip shows zero
  abbrev pub sent : World S → Refusal → After S
  sent w r = record { outcome = refused r; slip = 0; world = w }

  -- carried out for what is due
  abbrev pub did : ℕ → World S → After S
  did due w = record { outcome = carried; slip = due; world = w }

module _ {B : Type 0} (A : Arith B) where
  -- the ⊕ of Y over n blocks from one on, as a memory holds them
  abbrev pub over_stored : State B → List ℕ → ℕ → ℕ → B
  over_stored s memory from n = over A (stored A s.engine.enc s.l memory) from n

  -- cut drops the last d bits: the blocks that are no longer before the last one leave the sum
  abbrev pub cut_done : World (State B) → ℕ → World (State B)
  cut_done w d =
      let s = w.state in let b = s.bits in
      record {
        state = record { bits = b - d; l = s.l; sum = A.plus s.sum (over_stored s w.memory (blocks A (b - d)) (cut_due A b d)); engine = spent (cut_due A b d) s.engine };
        memory = w.memory;
        buffer = w.buffer;
      }

  abbrev pub cut : World (State B) → ℕ → After (State B)
  cut w d =
      let s = w.state in let due = cut_due A s.bits d in
      decided (sent w) s.engine.left (cut_conditions (length w.memory) s.bits d) due (did due (cut_done w d))

  -- add writes a bits at the end: the blocks that are now before the last one enter the sum, as the memory then holds them
  abbrev pub add_done : World (State B) → List ℕ → ℕ → World (State B)
  add_done w edit a =
      let s = w.state in let b = s.bits in let memory = written w.memory b edit a in
      record {
        state = record { bits = b + a; l = s.l; sum = A.plus s.sum (over_stored s memory (blocks A b) (add_due A b a)); engine = spent (add_due A b a) s.engine };
        memory = memory;
        buffer = w.buffer;
      }

  abbrev pub add : World (State B) → List ℕ → ℕ → After (State B)
  add w edit a =
      let s = w.state in let due = add_due A s.bits a in
      decided (sent w) s.engine.left (add_conditions (length w.memory) s.bits (length edit) a) due (did due (add_done w edit a))

  -- put replaces a bits at a position: each touched block before the last one leaves the sum as it was and enters as it is
  abbrev pub put_done : World (State B) → ℕ → List ℕ → ℕ → World (State B)
  put_done w pos edit a =
      let s = w.state in let memory = written w.memory pos edit a in let from = touched_from A pos in let n = touched A s.bits pos a in
      record {
        state = record {
          bits = s.bits;
          l = s.l;
          sum = A.plus (A.plus s.sum (over_stored s w.memory from n)) (over_stored s memory from n);
          engine = spent (put_due A s.bits pos a) s.engine;
        };
        memory = memory;
        buffer = w.buffer;
      }

  abbrev pub put : World (State B) → ℕ → List ℕ → ℕ → After (State B)
  put w pos edit a =
      let s = w.state in let due = put_due A s.bits pos a in
      decided (sent w) s.engine.left (put_conditions (length w.memory) s.bits pos (length edit) a) due (did due (put_done w pos edit a))

  -- the full tag by what is kept, with the last block as the memory holds it
  abbrev pub tag_block : State B → List ℕ → B
  tag_block s memory = s.engine.enc (A.plus s.sum (ending A s.l (last A (standing s.bits memory))))

  -- tag fills the buffer with the first bytes of the full tag
  abbrev pub tag_done : World (State B) → World (State B)
  tag_done w =
      let s = w.state in
      record {
        state = record { bits = s.bits; l = s.l; sum = s.sum; engine = spent 1 s.engine };
        memory = w.memory;
        buffer = take (length w.buffer) (to_bytes A (tag_block s w.memory));
      }

  abbrev pub tag : World (State B) → After (State B)
  tag w = decided (sent w) w.state.engine.left (tag_conditions A (length w.memory) w.state.bits (length w.buffer)) 1 (did 1 (tag_done w))

  -- open gives an empty overlay over an engine, or the engine back
  abbrev pub begin : Meaning B → List ℕ → Made (State B) (Meaning B)
  begin m memory =
      decided (λ r. back m r 0) m.left (open_conditions (length memory)) 1 (made (record { bits = 0; l = m.enc A.zero; sum = A.zero; engine = spent 1 m }) 1)
