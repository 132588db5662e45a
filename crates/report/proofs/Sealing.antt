-- The calls that seal a message, over a memory that is as long: where they stop, and what they leave. Assumes nothing.
use Rattle.std.proofs.Common.{◌≡◌, ℕ, ◌+◌, ◌-◌, ◌*◌, ◌<◌, ◌≤◌, Bool, true, false, ◌⊎◌, List, [], ◌∷◌, length, take, Err, Result, sym, refl, ap, ◌∙◌, subst, inl, inr, zero-add, arith, length-take-le, take_all}
use Rattle.std.proofs.lemmas.Bool.{lt-ltb, le-ltb, cases_lt, not_from_true, cond-true, cond-false}
use Rattle.block.specs.Bits.{bits_of}
use Rattle.block.specs.Arith as arithmetic
use Rattle.block.specs.Arith.{Arith, to_bytes}
use Rattle.block.specs.BitsLemmas.{length_bits_of, length_bytes_of}
use Rattle.bits.specs.Blocks.{blocks}
use Rattle.bits.specs.Memory.{standing}
use Rattle.bits.proofs.Counts.{blocks_some, blocks_inner}
use Rattle.engine.specs.Refusals.{Refusal}
use Rattle.engine.specs.Meaning.{Meaning, spent}
use Rattle.pmac.specs.Pmac.{full}
use Rattle.pmac.specs.Prices.{add_due}
use Rattle.overlay.specs.declared.fault.OverlayFault.{OverlayFault}
use Rattle.overlay.specs.Refusals.{Outcome, carried, refused, overlay_refusal}
use Rattle.overlay.specs.Judging.{decided, misfits, taggable, add_conditions, tag_conditions}
use Rattle.overlay.specs.Calls.{State, World, After, Made, made, back, begin, sent, did, add, add_done, tag, tag_done}
use Rattle.overlay.specs.Laws.{Stands, then, Adds, Tags}
use Rattle.report.specs.Calls.{tagged, stopped, came, ended, Handed, sealing}

-- refusal 8, with what it tells
abbrev short : ℕ → ℕ → Refusal
short due left = record { number = 8; told = due ∷ left ∷ [] }

number_of : Outcome → ℕ
number_of carried = 0
number_of (refused r) = r.number

-- a call that passes its tests is refused for what is left, or carried out
abbrev Pass : List (Bool × ℕ) → Type 0
Pass [] = Unit {0}
Pass (t ∷ ts) = (t.0 ≡ false) × (Pass ts)

module _ {S : Type 0} (left : ℕ) (v : World S) (due : ℕ) (done : World S) where
  abbrev Ways : After S → Type 0
  Ways a = ((left < due) × (a ≡ sent v (short due left))) ⊎ ((due ≤ left) × (a ≡ record { outcome = carried; slip = due; world = done }))

  passed : (ts : List (Bool × ℕ)) → Pass ts → decided (sent v) left ts due (did due done) ≡ decided (sent v) left [] due (did due done)
  passed [] p = refl
  passed (t ∷ ts) p = cond-false _ _ _ p.0 ∙ passed ts p.1

  ways : (ts : List (Bool × ℕ)) → Pass ts → (a : After S) → a ≡ decided (sent v) left ts due (did due done) → Ways a
  ways ts p a e = by (cases_lt left due)
    where
      by : (left < due) ⊎ (due ≤ left) → Ways a
      by (inl h) = inl (h, e ∙ passed ts p ∙ cond-true _ _ _ (lt-ltb left due h))
      by (inr h) = inr (h, e ∙ passed ts p ∙ cond-false _ _ _ (le-ltb left due h))

-- the exit of a refusal, whatever the buffer holds
pub came_stopped : (bytes : List ℕ) (r : Result ℕ OverlayFault) (fault : OverlayFault) → r ≡ Err fault → came r bytes ≡ stopped (overlay_refusal fault).number
came_stopped bytes r fault e = ap (λ x. came x bytes) e

fits : (memory : List ℕ) (b : ℕ) → length memory ≤ 65536 → b ≤ 8 * length memory → misfits (length memory) b ≡ false
fits memory b s h = cond-false _ _ _ (le-ltb 65536 (length memory) s) ∙ le-ltb (8 * length memory) b h

module _ {B : Type 0} {A : Arith B} (w : arithmetic.Laws A) where
  first_block : blocks A 0 ≡ 1
  first_block = by (cases_lt 1 (blocks A 0))
    where
      by : (1 < blocks A 0) ⊎ (blocks A 0 ≤ 1) → blocks A 0 ≡ 1
      by (inl h) = let k = blocks_inner w 0 1 (omega arith) h in omega arith
      by (inr h) = let k = blocks_some w 0 in omega arith

  -- an overlay that stands for no bits has none
  no_bits : (s : State B) (memory : List ℕ) → Stands A s memory [] → s.bits ≡ 0
  no_bits s memory h =
      let e = length_bits_of memory in
      let f = h.fits in
      let k = length-take-le s.bits (bits_of memory) (omega arith) in
      let l : length (take s.bits (bits_of memory)) ≡ 0 = ap length h.first in
      omega arith

  -- too few operations left, and enough
  sealing_stops : (m : Meaning B) (message : List ℕ) (due : ℕ) → m.left < due → stopped 8 ≡ sealing A m message due
  sealing_stops m message due h = sym (cond-true _ _ _ (lt-ltb m.left due h))

  sealing_goes : (m : Meaning B) (message : List ℕ) (due : ℕ) → due ≤ m.left → tagged (to_bytes A (full A m.enc (standing (8 * length message) message))) due ≡ sealing A m message due
  sealing_goes m message due h = sym (cond-false _ _ _ (le-ltb m.left due h))

  -- open
  start_number : Made (State B) (Meaning B) → ℕ
  start_number (made s slip) = 0
  start_number (back m r slip) = r.number

  pub open_stops : (m n : Meaning B) (memory message : List ℕ) (r : Refusal) (slip : ℕ) → length memory ≤ 65536 → back n r slip ≡ begin A m memory
      → stopped r.number ≡ sealing A m message (blocks A (8 * length message) + 1)
  unfolding start_number
  open_stops m n memory message r slip small e = by (cases_lt m.left 1)
    where
      by : (m.left < 1) ⊎ (1 ≤ m.left) → stopped r.number ≡ sealing A m message (blocks A (8 * length message) + 1)
      by (inl h) =
          let is : r.number ≡ 8 = ap start_number (e ∙ cond-false _ _ _ (fits memory 0 small (omega arith)) ∙ cond-true _ _ _ (lt-ltb m.left 1 h)) in
          ap stopped is ∙ sealing_stops m message _ (omega arith)
      by (inr h) =
          let q : ◌≡◌ {A = Made (State B) (Meaning B)} (back n r slip) (made (record { bits = 0; l = m.enc A.zero; sum = A.zero; engine = spent 1 m }) 1) =
          e ∙ cond-false _ _ _ (fits memory 0 small (omega arith)) ∙ cond-false _ _ _ (le-ltb m.left 1 h) in
          cc

  -- add
  module _ (v : World (State B)) (message buffer : List ℕ) (h : Stands A v.state v.memory []) (handed : Handed A v.memory message buffer) where
    abbrev all : ℕ
    all = 8 * length message

    abbrev due : ℕ
    due = add_due A v.state.bits all

    due_is : due ≡ blocks A all - 1
    due_is =
        let P : ℕ → Type 0 = λ k. add_due A k all ≡ blocks A all - 1 in
        let z : blocks A (0 + all) - blocks A 0 ≡ blocks A all - 1 = let e = ap (blocks A) (zero-add all) in let f = first_block in omega arith in
        subst P (sym (no_bits v.state v.memory h)) z

    abbrev AddWays : After (State B) → Type 0
    AddWays a = Ways v.state.engine.left v due (add_done A v message all) a

    add_ways : (a : After (State B)) → a ≡ add A v message all → AddWays a
    add_ways a e =
        let room = handed.room in
        let small = handed.small in
        let none = no_bits v.state v.memory h in
        ways v.state.engine.left v due (add_done A v message all) (add_conditions (length v.memory) v.state.bits (length message) all)
        (fits v.memory v.state.bits (omega arith) h.fits, (le-ltb _ _ (omega arith), (le-ltb _ _ (omega arith), tt))) a e

    pub add_stops : (a : After (State B)) → a ≡ add A v message all → (r : Refusal) → a.outcome ≡ refused r → stopped r.number ≡ sealing A v.state.engine message (blocks A all)
    unfolding number_of
    add_stops a e r o = by (add_ways a e)
      where
        by : AddWays a → stopped r.number ≡ sealing A v.state.engine message (blocks A all)
        by (inl k) =
            let is : r.number ≡ 8 = ap number_of (sym o ∙ ap (λ x. x.outcome) k.1) in
            ap stopped is ∙ sealing_stops v.state.engine message _ (let l = k.0 in let d = due_is in omega arith)
        by (inr k) = let q : a.outcome ≡ carried = ap (λ x. x.outcome) k.1 in cc

    -- tag, after an add that was carried out
    module _ (a : After (State B)) (e : a ≡ add A v message all) (adds : Adds A v message all a) (o : a.outcome ≡ carried) where
      abbrev u : World (State B)
      u = record { state = a.world.state; memory = a.world.memory; buffer = buffer }

      stands : Stands A a.world.state a.world.memory (take all (bits_of message))
      stands =
          let P : Outcome → Type 0 = λ x. Stands A a.world.state a.world.memory (then x (take all (bits_of message)) []) in
          subst P o (adds.stands [] h)

      added : (due ≤ v.state.engine.left) × (a ≡ record { outcome = carried; slip = due; world = add_done A v message all })
      added = by (add_ways a e)
        where
          by : AddWays a → (due ≤ v.state.engine.left) × (a ≡ record { outcome = carried; slip = due; world = add_done A v message all })
          by (inl k) = let q : a.outcome ≡ refused (short due v.state.engine.left) = ap (λ x. x.outcome) k.1 in let z : ◌≡◌ {A = ℕ} 0 1 = cc in absurd (omega arith)
          by (inr k) = k

      abbrev TagWays : After (State B) → Type 0
      TagWays z = Ways a.world.state.engine.left u 1 (tag_done A u) z

      tag_ways : (z : After (State B)) → z ≡ tag A u → TagWays z
      tag_ways z f =
          let room = handed.room in
          let small = handed.small in
          let long : length a.world.memory ≡ length v.memory = ap (λ x. length x.world.memory) added.1 ∙ length_bytes_of (length v.memory) _ in
          let whole : taggable A (length buffer) ≡ true = ap (taggable A) handed.whole ∙ handed.tags in
          ways a.world.state.engine.left u 1 (tag_done A u) (tag_conditions A (length u.memory) u.state.bits (length u.buffer))
          (fits a.world.memory a.world.state.bits (omega arith) stands.fits, (not_from_true _ whole, tt)) z f

      pub tag_ends : (z : After (State B)) → z ≡ tag A u → Tags A u z → ended z.outcome (a.slip + z.slip) z.world.buffer ≡ sealing A v.state.engine message (blocks A all)
      tag_ends z f tags = by (tag_ways z f)
        where
          by : TagWays z → ended z.outcome (a.slip + z.slip) z.world.buffer ≡ sealing A v.state.engine message (blocks A all)
          by (inl k) =
              let falls : a.world.state.engine.left ≡ v.state.engine.left - due = ap (λ x. x.world.state.engine.left) added.1 in
              let low : v.state.engine.left < blocks A all = let l = k.0 in let d = due_is in let b = blocks_some w all in omega (arith, added.0) in
              ap (λ x. ended x.outcome (a.slip + x.slip) x.world.buffer) k.1 ∙ sealing_stops v.state.engine message _ low
          by (inr k) =
              let falls : a.world.state.engine.left ≡ v.state.engine.left - due = ap (λ x. x.world.state.engine.left) added.1 in
              let high : blocks A all ≤ v.state.engine.left = let l = k.0 in let d = due_is in let b = blocks_some w all in omega (arith, added.0) in
              let oz : z.outcome ≡ carried = ap (λ x. x.outcome) k.1 in
              let sz : z.slip ≡ 1 = ap (λ x. x.slip) k.1 in
              let sa : a.slip ≡ due = ap (λ x. x.slip) added.1 in
              let sum : a.slip + z.slip ≡ blocks A all = let d = due_is in let b = blocks_some w all in omega arith in
              let bytes : List ℕ = to_bytes A (full A v.state.engine.enc (take all (bits_of message))) in
              let enc : a.world.state.engine.enc ≡ v.state.engine.enc = ap (λ x. x.world.state.engine.enc) added.1 in
              let long : length bytes ≡ length buffer = length_bytes_of A.size _ ∙ sym handed.whole in
              let got : z.world.buffer ≡ bytes =
              tags.tag_is (take all (bits_of message)) stands ∙ ap (λ x. then x (take (length buffer) (to_bytes A (full A a.world.state.engine.enc (take all (bits_of message))))) buffer) oz
              ∙ ap (λ f. take (length buffer) (to_bytes A (full A f (take all (bits_of message))))) enc ∙ take_all (length buffer) bytes (omega arith) in
              ap (λ x. ended x (a.slip + z.slip) z.world.buffer) oz ∙ ap (λ n. tagged z.world.buffer n) sum ∙ ap (λ x. tagged x (blocks A all)) got ∙ sealing_goes v.state.engine message _ high
