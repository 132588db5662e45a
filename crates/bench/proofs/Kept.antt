-- What calls of an open overlay keep, whether they are carried out or refused. Assumes nothing.
use Rattle.std.proofs.Common.{◌≡◌, ℕ, Bool, List, length, take, sym, refl, ap, ◌∙◌, subst, arith, take_all}
use Rattle.block.specs.Arith.{Arith, from_bytes, to_bytes}
use Rattle.block.specs.Blocks.{Block128, arith128}
use Rattle.block.specs.BitsLemmas.{length_bytes_of}
use Rattle.block.specs.Laws.{bytes_read_back}
use Rattle.block.specs.Same.{laws128}
use Rattle.overlay.specs.Judging.{decided, add_conditions, put_conditions, tag_conditions}
use Rattle.overlay.specs.Calls.{State, World, After, sent, did, add, add_done, put, put_done, tag, tag_done}
use Rattle.overlay.proofs.Laws.{decided_by}
use Rattle.overlay.specs.Laws.{Stands, Edits, Adds, Puts, Tags}
use Rattle.bench.specs.Calls.{Keeps}

module _ {B : Type 0} (A : Arith B) where
  -- an overlay that stands for some bits stands for the memory's first
  pub keeps : (s : State B) (memory : List ℕ) (bits : List Bool) → Stands A s memory bits → Keeps A s memory
  keeps s memory bits h = let P : List Bool → Type 0 = λ b. Stands A s memory b in subst P (sym h.first) h

  edited : (f : List Bool → List Bool) (bound : ℕ) (w : World (State B)) (a : After (State B)) → Edits A f bound w a
      → Keeps A w.state w.memory → Keeps A a.world.state a.world.memory
  edited f bound w a e h = keeps _ _ _ (e.stands _ h)

  -- the engine's map stays
  abbrev Same : World (State B) → After (State B) → Type 0
  Same w a = a.world.state.engine.enc ≡ w.state.engine.enc

  decided_same : (w : World (State B)) (ts : List (Bool × ℕ)) (due : ℕ) (done : World (State B)) → done.state.engine.enc ≡ w.state.engine.enc
      → Same w (decided (sent w) w.state.engine.left ts due (did due done))
  decided_same w ts due done e = decided_by (Same w) (sent w) w.state.engine.left ts due (did due done) (λ _. refl) (λ _ _. e)

  abbrev Keeping : World (State B) → After (State B) → Type 0
  Keeping w a = (Keeps A a.world.state a.world.memory) × (Same w a)

  pub added : (w : World (State B)) (edit : List ℕ) (n : ℕ) (a : After (State B)) → a ≡ add A w edit n → Adds A w edit n a → Keeps A w.state w.memory → Keeping w a
  added w edit n a e law h = (
    edited _ _ w a law h,
    ap (λ (x : After (State B)). x.world.state.engine.enc) e ∙ decided_same w (add_conditions (length w.memory) w.state.bits (length edit) n) _ (add_done A w edit n) refl,
  )

  pub replaced : (w : World (State B)) (pos : ℕ) (edit : List ℕ) (n : ℕ) (a : After (State B)) → a ≡ put A w pos edit n → Puts A w pos edit n a → Keeps A w.state w.memory → Keeping w a
  replaced w pos edit n a e law h = (
    edited _ _ w a law h,
    ap (λ (x : After (State B)). x.world.state.engine.enc) e ∙ decided_same w (put_conditions (length w.memory) w.state.bits pos (length edit) n) _ (put_done A w pos edit n) refl,
  )

  pub tagged : (w : World (State B)) (a : After (State B)) → a ≡ tag A w → Tags A w a → Keeps A w.state w.memory → Keeping w a
  tagged w a e law h = (
    edited _ _ w a law.edits h,
    ap (λ (x : After (State B)). x.world.state.engine.enc) e ∙ decided_same w (tag_conditions A (length w.memory) w.state.bits (length w.buffer)) _ (tag_done A w) refl,
  )

-- a tag of a whole block reads back
pub tag_read : (n : ℕ) (x : Block128) (bytes : List ℕ) → n ≡ 16 → bytes ≡ take n (to_bytes arith128 x) → from_bytes arith128 bytes ≡ x
tag_read n x bytes whole e =
    let long = length_bytes_of 16 (arith128.unpack x) in
    ap (from_bytes arith128) (e ∙ take_all n (to_bytes arith128 x) (omega arith)) ∙ (bytes_read_back laws128).block x
