-- One lost block. Assumes nothing.
use Rattle.std.proofs.Common.{◌≡◌, ℕ, ◌+◌, ◌-◌, ◌*◌, ◌<◌, ◌≤◌, Bool, ◌⊎◌, List, length, sym, refl, ap, ◌∙◌, ap₂, inl, inr, arith, le-ltb, lt-ltb}
use Rattle.std.proofs.lemmas.List.{length-take-le}
use Rattle.std.proofs.lemmas.Bool.{cases_lt}
use Rattle.block.specs.Bits.{bits_of}
use Rattle.block.specs.Arith.{Arith, Laws, width}
use Rattle.block.specs.BitsLemmas.{length_bits_of}
use Rattle.block.proofs.Group.{assoc, comm, left_comm, cancel, self, zero_r, across, twice}
use Rattle.bits.specs.Blocks.{blocks, part, last}
use Rattle.bits.specs.Memory.{standing}
use Rattle.bits.proofs.Counts.{blocks_some}
use Rattle.engine.specs.Meaning.{Meaning, Undoes}
use Rattle.pmac.specs.Pmac.{over, offset, ending, sealed, sum, full}
use Rattle.pmac.specs.Stored.{stored}
use Rattle.pmac.specs.Recovery.{placed, lost_inner, lost_last, recovered, Recoveries, OneBlock}
use Rattle.pmac.proofs.Over.{over_same, over_to, over_one}
use Rattle.pmac.proofs.Sums.{sealed_stored, sums}
use Rattle.pmac.proofs.Endings.{ending_whole}
use Rattle.pmac.proofs.Places.{placed_length, placed_part, placed_other, placed_twice, placed_same, not_past}

-- ---- the equations of a tag, solved for one block
module _ {B : Type 0} {A : Arith B} (w : Laws A) (m : Meaning B) (u : Undoes m) where
  inner_solved : (v o p e off t : B) → m.enc (A.plus (A.plus o (A.plus (m.enc (A.plus v off)) p)) e) ≡ t → v ≡ A.plus (m.dec (A.plus (A.plus (m.dec t) e) (A.plus o p))) off
  inner_solved v o p e off t h =
      let y = m.enc (A.plus v off) in
      let opened : A.plus (A.plus o (A.plus y p)) e ≡ m.dec t = sym (u.dec_enc _) ∙ ap m.dec h in
      let alone : y ≡ A.plus (A.plus (m.dec t) e) (A.plus o p) = sym (regroup o y p e) ∙ ap (λ z. A.plus (A.plus z e) (A.plus o p)) opened in
      across w v off _ (sym (u.dec_enc (A.plus v off)) ∙ ap m.dec alone)
    where
      regroup : (o y p e : B) → A.plus (A.plus (A.plus (A.plus o (A.plus y p)) e) e) (A.plus o p) ≡ y
      regroup o y p e = simp (assoc w, comm w, left_comm w, cancel w, self w, zero_r w)

  inner_solves : (o p e off t : B) → let v = A.plus (m.dec (A.plus (A.plus (m.dec t) e) (A.plus o p))) off in m.enc (A.plus (A.plus o (A.plus (m.enc (A.plus v off)) p)) e) ≡ t
  inner_solves o p e off t =
      let x = A.plus (A.plus (m.dec t) e) (A.plus o p) in
      ap m.enc (ap (λ z. A.plus (A.plus o (A.plus z p)) e) (ap m.enc (twice w (m.dec x) off) ∙ u.enc_dec x) ∙ regroup (m.dec t) o p e) ∙ u.enc_dec t
    where
      regroup : (d o p e : B) → A.plus (A.plus o (A.plus (A.plus (A.plus d e) (A.plus o p)) p)) e ≡ d
      regroup d o p e = simp (assoc w, comm w, left_comm w, cancel w, self w, zero_r w)

  last_solved : (v s h t : B) → m.enc (A.plus s (A.plus v h)) ≡ t → v ≡ A.plus (A.plus (m.dec t) s) h
  last_solved v s h t e = sym (regroup v s h) ∙ ap (λ z. A.plus (A.plus z s) h) (sym (u.dec_enc _) ∙ ap m.dec e)
    where
      regroup : (v s h : B) → A.plus (A.plus (A.plus s (A.plus v h)) s) h ≡ v
      regroup v s h = simp (assoc w, comm w, left_comm w, cancel w, self w, zero_r w)

  last_solves : (s h t : B) → m.enc (A.plus s (A.plus (A.plus (A.plus (m.dec t) s) h) h)) ≡ t
  last_solves s h t = ap m.enc (regroup (m.dec t) s h) ∙ u.enc_dec t
    where
      regroup : (d s h : B) → A.plus s (A.plus (A.plus (A.plus d s) h) h) ≡ d
      regroup d s h = simp (assoc w, left_comm w, self w, zero_r w)

-- ---- the tag of bits with another block i
module _ {B : Type 0} {A : Arith B} (w : Laws A) (enc : B → B) (l : B) (i : ℕ) (v : B) (bs : List Bool) (p : 1 ≤ i) (h : i * width A ≤ length bs) where
  same_blocks : blocks A (length (placed A i v bs)) ≡ blocks A (length bs)
  same_blocks = ap (blocks A) (placed_length w i v bs p h)

  sealed_other : (j : ℕ) → 1 ≤ j → (j < i) ⊎ (i < j) → sealed A enc l (placed A i v bs) j ≡ sealed A enc l bs j
  unfolding sealed
  sealed_other j q s = ap (λ z. enc (A.plus (A.pack z) (offset A l j))) (placed_other w i v bs p h j q s)

  sealed_here : sealed A enc l (placed A i v bs) i ≡ enc (A.plus v (offset A l i))
  unfolding sealed
  sealed_here = ap (λ z. enc (A.plus z (offset A l i))) (ap A.pack (placed_part w i v bs p h) ∙ w.pack_unpack v)

  front_same : over A (sealed A enc l (placed A i v bs)) 1 (i - 1) ≡ over A (sealed A enc l bs) 1 (i - 1)
  front_same = over_same A (sealed A enc l (placed A i v bs)) (sealed A enc l bs) 1 (i - 1) (λ j a b. sealed_other j a (inl (omega arith)))

  back_same : (m : ℕ) → over A (sealed A enc l (placed A i v bs)) (i + 1) (m - (i + 1)) ≡ over A (sealed A enc l bs) (i + 1) (m - (i + 1))
  back_same m = over_same A (sealed A enc l (placed A i v bs)) (sealed A enc l bs) (i + 1) (m - (i + 1)) (λ j a b. sealed_other j (omega arith) (inr (omega arith)))

  sum_inner : i < blocks A (length bs)
      → sum A enc l (placed A i v bs) ≡ A.plus (over A (sealed A enc l bs) 1 (i - 1)) (A.plus (enc (A.plus v (offset A l i))) (over A (sealed A enc l bs) (i + 1) (blocks A (length bs) - (i + 1))))
  unfolding sum
  sum_inner q =
      let m = blocks A (length bs) in
      let f = sealed A enc l (placed A i v bs) in
      let one : i + 1 - i ≡ 1 = omega arith in
      ap (λ z. over A f 1 (z - 1)) same_blocks
      ∙ over_to w f 1 i m p (omega arith)
      ∙ ap₂ A.plus front_same
      (over_to w f i (i + 1) m (omega arith) (omega arith) ∙ ap₂ A.plus (ap (over A f i) one ∙ over_one w f i ∙ sealed_here) (back_same m))

  last_inner : i < blocks A (length bs) → last A (placed A i v bs) ≡ last A bs
  unfolding last
  last_inner q = ap (λ z. part A z (placed A i v bs)) same_blocks ∙ placed_other w i v bs p h (blocks A (length bs)) (blocks_some w (length bs)) (inr q)

  sum_last : blocks A (length bs) ≡ i → sum A enc l (placed A i v bs) ≡ sum A enc l bs
  unfolding sum
  sum_last q = ap (λ z. over A (sealed A enc l (placed A i v bs)) 1 (z - 1)) (same_blocks ∙ q) ∙ front_same ∙ ap (λ z. over A (sealed A enc l bs) 1 (z - 1)) (sym q)

  ending_last : blocks A (length bs) ≡ i → ending A l (last A (placed A i v bs)) ≡ A.plus v (A.halve l)
  unfolding last
  ending_last q =
      ap (ending A l) (ap (λ z. part A z (placed A i v bs)) (same_blocks ∙ q) ∙ placed_part w i v bs p h)
      ∙ ending_whole A l (A.unpack v) (w.long v) ∙ ap (λ z. A.plus z (A.halve l)) (w.pack_unpack v)

-- ---- what is recovered
module _ {B : Type 0} {A : Arith B} (w : Laws A) (m : Meaning B) (u : Undoes m) (t : B) where
  Solved : (List Bool) → ℕ → B → Type 0
  Solved bs i x = (full A m.enc (placed A i x bs) ≡ t) × ((v : B) → full A m.enc (placed A i v bs) ≡ t → v ≡ x)

  module _ (bs : List Bool) (i : ℕ) (p : 1 ≤ i) (h : i * width A ≤ length bs) where
    inner : i < blocks A (length bs) → Solved bs i (lost_inner A m.enc m.dec (m.enc A.zero) (m.dec t) bs i)
    unfolding Solved full lost_inner
    inner q =
        let l = m.enc A.zero in
        let o = over A (sealed A m.enc l bs) 1 (i - 1) in
        let r = over A (sealed A m.enc l bs) (i + 1) (blocks A (length bs) - (i + 1)) in
        let e = ending A l (last A bs) in
        let is : (v : B) → full A m.enc (placed A i v bs) ≡ m.enc (A.plus (A.plus o (A.plus (m.enc (A.plus v (offset A l i))) r)) e) =
        λ v. ap₂ (λ x y. m.enc (A.plus x (ending A l y))) (sum_inner w m.enc l i v bs p h q) (last_inner w m.enc l i v bs p h q) in
        (is _ ∙ inner_solves w m u o r e (offset A l i) t, λ v f. inner_solved w m u v o r e (offset A l i) t (sym (is v) ∙ f))

    final : blocks A (length bs) ≡ i → Solved bs i (lost_last A m.enc (m.enc A.zero) (m.dec t) bs)
    unfolding Solved full lost_last
    final q =
        let l = m.enc A.zero in
        let s = sum A m.enc l bs in
        let is : (v : B) → full A m.enc (placed A i v bs) ≡ m.enc (A.plus s (A.plus v (A.halve l))) =
        λ v. ap₂ (λ x y. m.enc (A.plus x y)) (sum_last w m.enc l i v bs p h q) (ending_last w m.enc l i v bs p h q) in
        (is _ ∙ last_solves w m u s (A.halve l) t, λ v f. last_solved w m u v s (A.halve l) t (sym (is v) ∙ f))

    solved : Solved bs i (recovered A m.enc m.dec t bs i)
    unfolding recovered
    solved = at (cases_lt i (blocks A (length bs)))
      where
        at : (i < blocks A (length bs)) ⊎ (blocks A (length bs) ≤ i) → Solved bs i (recovered A m.enc m.dec t bs i)
        at (inl q) = rw (lt-ltb i (blocks A (length bs)) q) (inner q)
        at (inr q) = rw (le-ltb i (blocks A (length bs)) q) (final (let k = not_past w i bs p h in omega arith))

  pub blind : (bs : List Bool) (i : ℕ) → 1 ≤ i → i * width A ≤ length bs → (v : B) → recovered A m.enc m.dec t (placed A i v bs) i ≡ recovered A m.enc m.dec t bs i
  unfolding Solved
  blind bs i p h v =
      let long : i * width A ≤ length (placed A i v bs) = let e = placed_length w i v bs p h in omega arith in
      (solved bs i p h).1 _ (ap (full A m.enc) (sym (placed_twice w i bs p h _ v)) ∙ (solved (placed A i v bs) i p long).0)

pub recoveries : {B : Type 0} {A : Arith B} → Laws A → Recoveries A
unfolding Solved
recoveries {A = A} w m u t bs i p h = record {
  gives = (solved w m u t bs i p h).0;
  only = (solved w m u t bs i p h).1;
  blind = blind w m u t bs i p h;
  back = λ v. blind w m u (full A m.enc bs) bs i p h v ∙ sym ((solved w m u (full A m.enc bs) bs i p h).1 (A.pack (part A i bs)) (ap (full A m.enc) (placed_same w i bs p h)));
}

pub one_block : {B : Type 0} {A : Arith B} → Laws A → OneBlock A
one_block {A = A} w m u bs i v v' p h e =
    let found = recoveries w m u (full A m.enc (placed A i v' bs)) bs i p h in
    found.only v e ∙ sym (found.only v' refl)

-- ---- what the call works out from the memory
module _ {B : Type 0} {A : Arith B} (w : Laws A) (enc : B → B) (memory : List ℕ) (b : ℕ) (h : b ≤ 8 * length memory) where
  long : length (standing b memory) ≡ b
  long = length-take-le b (bits_of memory) (let e = length_bits_of memory in omega arith)

  range : (l : B) (a c : ℕ) → 1 ≤ a → c ≤ blocks A b → over A (stored A enc l memory) a (c - a) ≡ over A (sealed A enc l (standing b memory)) a (c - a)
  range l a c q r = sym (over_same A (sealed A enc l (standing b memory)) (stored A enc l memory) a (c - a) (λ j x y. sealed_stored w enc l memory b j h (omega arith) (omega arith)))

  pub inner_found : (dec : B → B) (l d : B) (i : ℕ) → 1 ≤ i → i < blocks A b → (end before behind y masked off : B)
      → end ≡ ending A l (last A (standing b memory)) → before ≡ over A (stored A enc l memory) 1 (i - 1) → behind ≡ over A (stored A enc l memory) (i + 1) (blocks A b - (i + 1))
      → y ≡ A.plus (A.plus d end) (A.plus before behind) → masked ≡ dec y → off ≡ offset A l i
      → A.plus masked off ≡ lost_inner A enc dec l d (standing b memory) i
  unfolding lost_inner
  inner_found dec l d i p q end before behind y masked off ee eb ea ey em eo =
      let bs = standing b memory in
      let front : before ≡ over A (sealed A enc l bs) 1 (i - 1) = eb ∙ range l 1 i (omega arith) (omega arith) in
      let back : behind ≡ over A (sealed A enc l bs) (i + 1) (blocks A (length bs) - (i + 1)) =
      ea ∙ range l (i + 1) (blocks A b) (omega arith) (omega arith) ∙ ap (λ z. over A (sealed A enc l bs) (i + 1) (blocks A z - (i + 1))) (sym long) in
      ap₂ A.plus (em ∙ ap dec (ey ∙ ap₂ (λ x z. A.plus (A.plus d x) z) ee (ap₂ A.plus front back))) eo

  pub last_found : (l d s : B) → s ≡ over A (stored A enc l memory) 1 (blocks A b - 1) → A.plus (A.plus d s) (A.halve l) ≡ lost_last A enc l d (standing b memory)
  unfolding lost_last
  last_found l d s es = ap (λ x. A.plus (A.plus d x) (A.halve l)) (es ∙ sym (sums w enc l memory b h))

  module _ (dec : B → B) (t l d : B) (i : ℕ) (el : l ≡ enc A.zero) (ed : d ≡ dec t) where
    pub recovered_inner : i < blocks A b → lost_inner A enc dec l d (standing b memory) i ≡ recovered A enc dec t (standing b memory) i
    unfolding recovered
    recovered_inner q = rw (lt-ltb i (blocks A (length (standing b memory))) (let e = ap (blocks A) long in omega arith)) (ap₂ (λ x y. lost_inner A enc dec x y (standing b memory) i) el ed)

    pub recovered_last : blocks A b ≤ i → lost_last A enc l d (standing b memory) ≡ recovered A enc dec t (standing b memory) i
    unfolding recovered
    recovered_last q = rw (le-ltb i (blocks A (length (standing b memory))) (let e = ap (blocks A) long in omega arith)) (ap₂ (λ x y. lost_last A enc x y (standing b memory)) el ed)
