-- One lost block comes back. Assumes nothing.
use Rattle.std.proofs.Common.{◌≡◌, ℕ, ◌*◌, ◌≤◌, Bool, true, false, cond, not, List, [], ◌∷◌, length, sym, ap, ◌∙◌, ap₂, arith, le-ltb, eq-eqb, ne_eqb}
use Rattle.block.specs.Arith as arithmetic
use Rattle.block.specs.Arith.{Arith, width, from_bytes, to_bytes}
use Rattle.block.specs.BitsLemmas.{length_bytes_of}
use Rattle.block.specs.Laws.{bytes_read_back}
use Rattle.bits.specs.Blocks.{part}
use Rattle.bits.specs.Memory.{standing, replaced}
use Rattle.engine.specs.Refusals.{Refusal}
use Rattle.engine.specs.Meaning.{Meaning, Undoes}
use Rattle.pmac.specs.Pmac.{full}
use Rattle.pmac.specs.Recovery.{placed, recovered}
use Rattle.pmac.proofs.Places.{places, placed_twice, placed_same}
use Rattle.pmac.proofs.Recovery.{recoveries}
use Rattle.overlay.specs.Judging.{decided, misfits, missing, recover_conditions, whole_due}
use Rattle.overlay.specs.Calls.{World, sent}
use Rattle.overlay.proofs.Laws.{Passes}
use Rattle.history.specs.Desk.{Turn, arrival, after}
use Rattle.history.specs.Restoring.{then_recover, restoring, Restores}
use Rattle.overlay.specs.Receiving.{Arrived, recover, recover_done}
use Rattle.overlay.specs.Calls.{made, back, did}

-- where no test holds and left suffices, a call is carried out
carried_out : {R : Type 0} (refuse : Refusal → R) (left : ℕ) (ts : List (Bool × ℕ)) (due : ℕ) (done : R) → Passes ts → due ≤ left → decided refuse left ts due done ≡ done
unfolding Passes
carried_out refuse left [] due done p l = ap (λ t. cond t (refuse (record { number = 8; told = due ∷ left ∷ [] })) done) (le-ltb left due l)
carried_out refuse left (t ∷ ts) due done p l = ap (λ z. cond z (refuse (record { number = t.1; told = [] })) (decided refuse left ts due done)) p.0 ∙ carried_out refuse left ts due done p.1 l

passing : (x y z : Bool) → x ≡ false → y ≡ false → z ≡ false → Passes ((x, 2) ∷ (y, 6) ∷ (z, 7) ∷ [])
unfolding Passes
passing x y z p q r = (p, (q, (r, tt)))

module _ {B : Type 0} {A : Arith B} (w : arithmetic.Laws A) (m : Meaning B) (undo : Undoes m) (memory : List ℕ) (b : ℕ) (tag : List ℕ) (i : ℕ) where
  pub restores : (t : Turn B) → t ≡ restoring A m memory b tag i → Restores A m memory b tag i t
  restores t e bits v eb es et p h small fits left =
      let a : Arrived B = record { bits = b; engine = m } in
      let start : World (Arrived B) = record { state = a; memory = memory; buffer = [] } in
      let lost = recovered A m.enc m.dec (from_bytes A tag) (standing b memory) i in
      let there = A.pack (part A i bits) in
      let rec = recoveries w m undo (full A m.enc bits) bits i p h in
      let tag_is : from_bytes A tag ≡ full A m.enc bits = ap (from_bytes A) et ∙ (bytes_read_back w).block (full A m.enc bits) in
      let lost_is : lost ≡ there = ap₂ (λ x y. recovered A m.enc m.dec x y i) tag_is es ∙ rec.back v in
      let new = replaced A memory i lost in
      let new_is : new ≡ replaced A memory i there = ap (replaced A memory i) lost_is in
      let fit : misfits (length memory) b ≡ false = ap₂ (λ x y. cond x true y) (le-ltb 65536 (length memory) small) (le-ltb (8 * length memory) b fits) in
      let long : length tag ≡ A.size = ap length et ∙ length_bytes_of A.size (A.unpack (full A m.enc bits)) in
      let whole : missing A b i ≡ false = ap₂ (λ x y. cond x true y) (ne_eqb i 0 (λ z. omega arith)) (le-ltb b (i * width A) (omega arith)) in
      let all : Passes (recover_conditions A (length memory) b (length tag) i) = passing _ _ _ fit (ap not (eq-eqb (length tag) A.size long)) whole in
      let does : recover A start tag i ≡ did (whole_due A b) (recover_done A start tag i) =
      carried_out (sent start) m.left (recover_conditions A (length memory) b (length tag) i) (whole_due A b) (did (whole_due A b) (recover_done A start tag i)) all left in
      let is : t ≡ after arrival (did (whole_due A b) (recover_done A start tag i)) =
      e ∙ ap (λ z. then_recover A memory tag i (cond z (back m (record { number = 2; told = [] }) 0) (made a 0))) fit ∙ ap (after arrival) does in
      let stands : standing b new ≡ bits =
      places w memory lost b i p (omega arith) fits ∙ ap₂ (placed A i) lost_is es ∙ placed_twice w i bits p h there v ∙ placed_same w i bits p h in
      record {
        carried_out = ap (λ z. z.answer) is;
        bits_back = ap (λ z. standing z t.memory) (sym eb) ∙ ap (λ z. standing b z.memory) is ∙ stands;
        rest_same = ap (λ z. z.memory) is ∙ new_is;
        price = ap (λ z. z.slip) is ∙ ap (λ z. whole_due A z ∷ []) eb;
      }
