-- The laws of the plain reckoning: each call has an answer and only one, no operation is lost, and each price is within its bound.
-- Assumes nothing.
use Rattle.std.proofs.Common.{◌≡◌, ℕ, zero, suc, ◌+◌, ◌-◌, ◌*◌, ◌<◌, ◌≤◌, Bool, true, false, cond, eqb, ltb, List, [], ◌∷◌, ◌++◌, length, get_or, take, set, sym, refl, ap, ◌∙◌, arith}
use lib.Seq.{paste}
use Rattle.std.proofs.lemmas.Bool.{cond_both, ltb-true, ltb-false, eqb-false, both_ways}
use Rattle.block.specs.Bits.{bits_of}
use Rattle.block.specs.Arith.{Arith, Laws, width, from_bytes}
use Rattle.engine.specs.Refusals.{Refusal}
use Rattle.engine.specs.Meaning.{Meaning, Undoes}
use Rattle.pmac.specs.Pmac.{full}
use Rattle.pmac.specs.Prices.{add_due, cut_due, put_due}
use Rattle.pmac.specs.Recovery.{placed, recovered}
use Rattle.pmac.proofs.Prices.{prices}
use Rattle.pmac.proofs.Recovery.{recoveries, one_block}
use Rattle.overlay.specs.Refusals.{carried, refused, numbered}
use Rattle.overlay.specs.Judging.{decided, missing, add_conditions, cut_conditions, put_conditions, tag_conditions, recover_conditions, whole_due}
use Rattle.overlay.proofs.Laws.{Passes, decided_by, cut_fair, put_fair}
use Rattle.history.specs.Reckoning.{Call, checks, recovers, adds, cuts, puts, tags, books, Answer, silent, says, Phase, returned, received, opened, Reckoning, Verdict, untaken, refusal, wrong, granted}
use Rattle.history.specs.Reckoning.{cost, total as sum_of, worth, when_open, when_received, booking, paid, next, tag_of, verdict, Becomes, given, Goes, Step, bound, Total, Deterministic, Balanced, Fair}
use Rattle.overlay.specs.Receiving.{same}

-- ---- what holds of a call that is not taken, of every refusal, and of the call carried out where every test passed and left suffices
open_by : (P : Verdict → Type 0) (phase : Phase) (left : ℕ) (ts : List (Bool × ℕ)) (due : ℕ) (done : Verdict) → P untaken → ((x : Refusal) → P (refusal x))
    → (Passes ts → due ≤ left → P done) → P (when_open phase (decided refusal left ts due done))
open_by P returned left ts due done away sends does = away
open_by P received left ts due done away sends does = away
open_by P opened left ts due done away sends does = decided_by P refusal left ts due done sends does

received_by : (P : Verdict → Type 0) (phase : Phase) (left : ℕ) (ts : List (Bool × ℕ)) (due : ℕ) (done : Verdict) → P untaken → ((x : Refusal) → P (refusal x))
    → (Passes ts → due ≤ left → P done) → P (when_received phase (decided refusal left ts due done))
received_by P returned left ts due done away sends does = away
received_by P received left ts due done away sends does = decided_by P refusal left ts due done sends does
received_by P opened left ts due done away sends does = away

-- ---- sums of lists
pub sum_push : (xs : List ℕ) (n : ℕ) → sum_of (xs ++ (n ∷ [])) ≡ sum_of xs + n
sum_push [] n = omega arith
sum_push (x ∷ xs) n = omega (arith, sum_push xs n)

sum_set : (xs : List ℕ) (i n : ℕ) → i < length xs → sum_of (set xs i n) + get_or xs i 0 ≡ sum_of xs + n
sum_set [] i n h = absurd (omega arith)
sum_set (x ∷ xs) zero n h = omega arith
sum_set (x ∷ xs) (suc i) n h = omega (arith, sum_set xs i n (omega arith))

paid_worth : (phase : Phase) (bits : List Bool) (n : ℕ) (r : Reckoning) → n ≤ r.left → worth (paid phase bits n r) ≡ worth r
paid_worth phase bits n r h = omega (arith, sum_push r.slips n)

booking_worth : (r : Reckoning) (k i : ℕ) → length r.totals ≡ 16 → worth (booking r k i).1 ≡ worth r
booking_worth r k i long =
    let P : Answer × Reckoning → Type 0 = λ z. worth z.1 ≡ worth r in
    cond_both (ltb k (length r.slips)) _ _ P
    (λ there. cond_both (ltb 15 i) _ _ P (λ _. refl)
    (λ low. cond_both (ltb (4294967295 - get_or r.totals i 0) (get_or r.slips k 0)) _ _ P (λ _. refl)
    (λ _. moved (ltb-true _ _ there) (ltb-false _ _ low))))
    (λ _. refl)
  where
    moved : k < length r.slips → i ≤ 15
        → r.left + sum_of (set r.totals i (get_or r.totals i 0 + get_or r.slips k 0)) + sum_of (set r.slips k 0) ≡ worth r
    moved there low =
        omega (arith, sum_set r.totals i (get_or r.totals i 0 + get_or r.slips k 0) (omega arith), sum_set r.slips k 0 there)

-- ---- a call's tests, and what it owes
module _ {B : Type 0} (A : Arith B) (enc : B → B) (size : ℕ) where
  abbrev tests : Reckoning → Call → List (Bool × ℕ)
  tests r (checks tag) = tag_conditions A size (length r.bits) (length tag)
  tests r (recovers tag i) = recover_conditions A size (length r.bits) (length tag) i
  tests r (adds edit n) = add_conditions size (length r.bits) (length edit) n
  tests r (cuts n) = cut_conditions size (length r.bits) n
  tests r (puts pos edit n) = put_conditions size (length r.bits) pos (length edit) n
  tests r (tags n) = tag_conditions A size (length r.bits) n
  tests r (books k i) = []

  abbrev due : Reckoning → Call → ℕ
  due r (checks tag) = whole_due A (length r.bits)
  due r (recovers tag i) = whole_due A (length r.bits)
  due r (adds edit n) = add_due A (length r.bits) n
  due r (cuts n) = cut_due A (length r.bits) n
  due r (puts pos edit n) = put_due A (length r.bits) pos n
  due r (tags n) = 1
  due r (books k i) = 0

  -- what holds of the four ways in which a call goes holds of how it goes
  verdict_by : (P : Verdict → Type 0) (r : Reckoning) (c : Call) → P untaken → ((x : Refusal) → P (refusal x)) → (Passes (tests r c) → due r c ≤ r.left → P (wrong (due r c)))
      → (Passes (tests r c) → due r c ≤ r.left → P (granted (due r c))) → P (verdict A enc size r c)
  verdict_by P r (checks tag) away sends finds does =
      let c = checks tag in
      received_by P r.phase r.left (tests r c) (due r c) _ away sends (λ p l. cond_both (same tag (tag_of A enc size (length tag) r.bits)) _ _ P (λ _. does p l) (λ _. finds p l))
  verdict_by P r (recovers tag i) away sends finds does = received_by P r.phase r.left (tests r (recovers tag i)) _ _ away sends does
  verdict_by P r (adds edit n) away sends finds does = open_by P r.phase r.left (tests r (adds edit n)) _ _ away sends does
  verdict_by P r (cuts n) away sends finds does = open_by P r.phase r.left (tests r (cuts n)) _ _ away sends does
  verdict_by P r (puts pos edit n) away sends finds does = open_by P r.phase r.left (tests r (puts pos edit n)) _ _ away sends does
  verdict_by P r (tags n) away sends finds does = open_by P r.phase r.left (tests r (tags n)) _ _ away sends does
  verdict_by P r (books k i) away sends finds does = away

  -- a step is how its call goes, or a booking
  step_by : (Q : (Answer → Reckoning → Type 0) → Type 0) (r : Reckoning) (c : Call) → Q (λ a r'. Goes A enc size (verdict A enc size r c) r c a r')
      → ((k i : ℕ) → Q (λ a r'. (a ≡ (booking r k i).0) × (r' ≡ (booking r k i).1))) → Q (λ a r'. Step A enc size r c a r')
  step_by Q r (checks tag) goes books-it = goes
  step_by Q r (recovers tag i) goes books-it = goes
  step_by Q r (adds edit n) goes books-it = goes
  step_by Q r (cuts n) goes books-it = goes
  step_by Q r (puts pos edit n) goes books-it = goes
  step_by Q r (tags n) goes books-it = goes
  step_by Q r (books k i) goes books-it = books-it k i

  -- ---- no operation is lost
  affords : (r : Reckoning) (c : Call) → cost (verdict A enc size r c) ≤ r.left
  affords r c = verdict_by (λ v. cost v ≤ r.left) r c (omega arith) (λ _. omega arith) (λ _ l. l) (λ _ l. l)

  keeps : (v : Verdict) (r : Reckoning) (c : Call) (a : Answer) (r' : Reckoning) → cost v ≤ r.left → Goes A enc size v r c a r' → worth r' ≡ worth r
  keeps untaken r c a r' l s = ap worth s.1
  keeps (refusal x) r c a r' l s = ap worth s.1 ∙ paid_worth r.phase r.bits 0 r l
  keeps (wrong n) r c a r' l s = ap worth s.1 ∙ paid_worth r.phase r.bits n r l
  keeps (granted n) r c a r' l s = ap worth s.1.1.1 ∙ paid_worth (next c r.phase) s.0 n r l

-- ---- the laws
module _ {B : Type 0} {A : Arith B} (w : Laws A) where
  -- what is due is within the bound
  within : (enc : B → B) (size : ℕ) (r : Reckoning) (c : Call) → Passes (tests A enc size r c) → due A enc size r c ≤ bound A enc size (length r.bits) c
  unfolding Passes
  within enc size r (checks tag) p = omega arith
  within enc size r (recovers tag i) p = omega arith
  within enc size r (adds edit n) p = (prices w).add (length r.bits) n
  within enc size r (cuts n) p = cut_fair w (length r.bits) n (ltb-false _ _ p.1.0)
  within enc size r (puts pos edit n) p = put_fair w (length r.bits) pos n
  within enc size r (tags n) p = omega arith
  within enc size r (books k i) p = omega arith

  pub fair : (enc : B → B) (size : ℕ) → Fair A enc size
  fair enc size r c =
      verdict_by A enc size (λ v. cost v ≤ bound A enc size (length r.bits) c) r c (omega arith) (λ _. omega arith) (λ p _. within enc size r c p) (λ p _. within enc size r c p)

  pub balanced : (enc : B → B) (size : ℕ) → Balanced A enc size
  balanced enc size r c a r' long =
      step_by A enc size (λ F. F a r' → worth r' ≡ worth r) r c (keeps A enc size (verdict A enc size r c) r c a r' (affords A enc size r c))
      (λ k i s. ap worth s.1 ∙ booking_worth r k i long)

  -- ---- each call has an answer, and only one
  both_false : (t x : Bool) → cond t true x ≡ false → (t ≡ false) × (x ≡ false)
  both_false true x e = absurd (both_ways true e refl)
  both_false false x e = (refl, e)

  there : (b i : ℕ) → missing A b i ≡ false → (1 ≤ i) × (i * width A ≤ b)
  there b i e =
      let parts = both_false (eqb i 0) (ltb b (i * width A)) e in
      (omega (arith, eqb-false i 0 parts.0), ltb-false _ _ parts.1)

  module _ (m : Meaning B) (u : Undoes m) (size : ℕ) where
    -- the bits that a call leaves where its tests passed
    becomes_some : (r : Reckoning) (c : Call) → Passes (tests A m.enc size r c) → (bits : List Bool) × Becomes A m.enc size c r.bits bits
    unfolding Passes
    becomes_some r (checks tag) p = (r.bits, refl)
    becomes_some r (recovers tag i) p =
        let h = there (length r.bits) i p.1.1.0 in
        let t = from_bytes A tag in
        let v = recovered A m.enc m.dec t r.bits i in
        (placed A i v r.bits, (v, (refl, (recoveries w m u t r.bits i h.0 h.1).gives)))
    becomes_some r (adds edit n) p = (r.bits ++ take n (bits_of edit), refl)
    becomes_some r (cuts n) p = (take (length r.bits - n) r.bits, refl)
    becomes_some r (puts pos edit n) p = (paste r.bits pos (bits_of edit) n, refl)
    becomes_some r (tags n) p = (r.bits, refl)
    becomes_some r (books k i) p = (r.bits, refl)

    becomes_one : (r : Reckoning) (c : Call) → Passes (tests A m.enc size r c) → (bits bits' : List Bool) → Becomes A m.enc size c r.bits bits → Becomes A m.enc size c r.bits bits' → bits ≡ bits'
    unfolding Passes
    becomes_one r (checks tag) p bits bits' e e' = e ∙ sym e'
    becomes_one r (recovers tag i) p bits bits' e e' =
        let h = there (length r.bits) i p.1.1.0 in
        let is : full A m.enc (placed A i e.0 r.bits) ≡ from_bytes A tag = ap (full A m.enc) (sym e.1.0) ∙ e.1.1 in
        let is' : full A m.enc (placed A i e'.0 r.bits) ≡ from_bytes A tag = ap (full A m.enc) (sym e'.1.0) ∙ e'.1.1 in
        e.1.0 ∙ ap (λ v. placed A i v r.bits) (one_block w m u r.bits i e.0 e'.0 h.0 h.1 (is ∙ sym is')) ∙ sym e'.1.0
    becomes_one r (adds edit n) p bits bits' e e' = e ∙ sym e'
    becomes_one r (cuts n) p bits bits' e e' = e ∙ sym e'
    becomes_one r (puts pos edit n) p bits bits' e e' = e ∙ sym e'
    becomes_one r (tags n) p bits bits' e e' = e ∙ sym e'
    becomes_one r (books k i) p bits bits' e e' = e ∙ sym e'

    pub totally : Total A m.enc size
    totally r c =
        let Q : (Answer → Reckoning → Type 0) → Type 0 = λ F. (a : Answer) × ((r' : Reckoning) × F a r') in
        let P : Verdict → Type 0 = λ v. Q (λ a r'. Goes A m.enc size v r c a r') in
        step_by A m.enc size Q r c
        (verdict_by A m.enc size P r c (silent, (r, (refl, refl))) (λ x. (says (refused x) [], (paid r.phase r.bits 0 r, (refl, refl))))
        (λ _ _. (says (refused (numbered 9)) [], (paid r.phase r.bits (due A m.enc size r c) r, (refl, refl))))
        (λ p _. let b = becomes_some r c p in
        (says carried (given A m.enc size c b.0), (paid (next c r.phase) b.0 (due A m.enc size r c) r, (b.0, (b.1, (refl, refl)))))))
        (λ k i. ((booking r k i).0, ((booking r k i).1, (refl, refl))))

    pub deterministic : Deterministic A m.enc size
    deterministic r c a a' r₁ r₂ =
        let Q : (Answer → Reckoning → Type 0) → Type 0 = λ F. F a r₁ → F a' r₂ → (a ≡ a') × (r₁ ≡ r₂) in
        let P : Verdict → Type 0 = λ v. Q (λ a r'. Goes A m.enc size v r c a r') in
        step_by A m.enc size Q r c
        (verdict_by A m.enc size P r c (λ s t. (s.0 ∙ sym t.0, s.1 ∙ sym t.1)) (λ x s t. (s.0 ∙ sym t.0, s.1 ∙ sym t.1))
        (λ _ _ s t. (s.0 ∙ sym t.0, s.1 ∙ sym t.1))
        (λ p _ s t. let same_bits = becomes_one r c p s.0 t.0 s.1.0 t.1.0 in (
          s.1.1.0 ∙ ap (λ z. says carried (given A m.enc size c z)) same_bits ∙ sym t.1.1.0,
          s.1.1.1 ∙ ap (λ z. paid (next c r.phase) z (due A m.enc size r c) r) same_bits ∙ sym t.1.1.1,
        )))
        (λ k i s t. (s.0 ∙ sym t.0, s.1 ∙ sym t.1))
