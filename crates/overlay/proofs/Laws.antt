-- The calls' definitions keep what belongs to the bits that stand. Assumes nothing.
use Rattle.std.proofs.Common.{◌≡◌, ℕ, zero, suc, ◌+◌, ◌-◌, ◌*◌, ◌<◌, ◌≤◌, Bool, false, cond, ltb, ◌⊎◌, List, [], ◌∷◌, ◌++◌, length, take, sym, refl, ap, ◌∙◌, subst, ap₂, inl, inr, arith, length-take-le, take-take, eq-eqb, ne_eqb}
use lib.Seq.{paste}
use Rattle.std.proofs.lemmas.List.Edits.{length-paste, paste_none}
use Rattle.std.proofs.lemmas.Bool.{cond_both, ltb-false, cases_lt}
use Rattle.block.specs.Bits.{bits_of}
use Rattle.block.specs.Arith as arithmetic
use Rattle.block.specs.Arith.{Arith, to_bytes}
use Rattle.block.specs.BitsLemmas.{length_bits_of, length_bytes_of, bits_of_bytes_of}
use Rattle.block.proofs.Group.{zero_r}
use Rattle.bits.specs.Blocks.{blocks, ceil}
use Rattle.bits.specs.Memory.{standing, written}
use Rattle.bits.proofs.Counts.{blocks_inner}
use Rattle.engine.specs.Refusals.{Refusal}
use Rattle.pmac.specs.Pmac.{over, sealed, sum, full}
use Rattle.pmac.specs.Stored.{stored}
use Rattle.pmac.specs.Edits.{touched, touched_from, touched_to}
use Rattle.pmac.specs.Prices.{add_due, cut_due, put_due, put_bound}
use Rattle.pmac.proofs.Sums.{drops}
use Rattle.pmac.proofs.Over.{over_none}
use Rattle.pmac.proofs.Edits.{adds_written, puts_written}
use Rattle.pmac.proofs.Prices.{prices}
use Rattle.overlay.specs.Judging.{decided, cut_conditions, add_conditions, put_conditions, tag_conditions}
use Rattle.overlay.specs.Calls.{State, World, After, sent, did, cut, cut_done, add, add_done, put, put_done, tag, tag_done}
use Rattle.overlay.specs.Laws.{Stands, then, Edits, Adds, Cuts, Puts, Tags}

pub length_standing : (b : ℕ) (memory : List ℕ) → b ≤ 8 * length memory → length (standing b memory) ≡ b
length_standing b memory h = length-take-le b (bits_of memory) (let e = length_bits_of memory in omega arith)

standing_less : (b d : ℕ) (memory : List ℕ) (bits : List Bool) → b ≤ 8 * length memory → standing b memory ≡ bits → standing (b - d) memory ≡ take (length bits - d) bits
standing_less b d memory bits h e =
    let n : length bits ≡ b = ap length (sym e) ∙ length_standing b memory h in
    sym (take-take (b - d) b (bits_of memory) (omega arith)) ∙ ap (take (b - d)) e ∙ ap (λ k. take (k - d) bits) (sym n)

-- a write's bits, and that it keeps the memory's length
wrote : (memory edit : List ℕ) (pos n : ℕ) → pos + n ≤ 8 * length memory → n ≤ 8 * length edit → bits_of (written memory pos edit n) ≡ paste (bits_of memory) pos (bits_of edit) n
wrote memory edit pos n h k =
    let lm = length_bits_of memory in
    let le = length_bits_of edit in
    bits_of_bytes_of (length memory) _ (length-paste (bits_of memory) pos (bits_of edit) n (omega arith) (omega arith) ∙ lm)

-- what holds of every refusal, and of the call carried out where every test passed and left suffices, holds after the call
unfoldable pub Passes : List (Bool × ℕ) → Type 0
Passes [] = Unit {0}
Passes (t ∷ ts) = (t.0 ≡ false) × (Passes ts)

pub decided_by : {R : Type 0} (P : R → Type 0) (refuse : Refusal → R) (left : ℕ) (ts : List (Bool × ℕ)) (due : ℕ) (done : R) → ((r : Refusal) → P (refuse r))
    → (Passes ts → due ≤ left → P done) → P (decided refuse left ts due done)
unfolding Passes
decided_by P refuse left [] due done sends does = cond_both (ltb left due) _ _ P (λ _. sends _) (λ e. does tt (ltb-false _ _ e))
decided_by P refuse left (t ∷ ts) due done sends does = cond_both t.0 _ _ P (λ _. sends _) (λ e. decided_by P refuse left ts due done sends (λ p l. does (e, p) l))

module _ {B : Type 0} {A : Arith B} (w : arithmetic.Laws A) where
  -- one call: what it makes of the bits where it is carried out, and its price
  edits : (f : List Bool → List Bool) (bound : ℕ) (v : World (State B)) (ts : List (Bool × ℕ)) (due : ℕ) (done : World (State B))
      → done.state.engine.left ≡ v.state.engine.left - due
      → ((bits : List Bool) → Passes ts → Stands A v.state v.memory bits → Stands A done.state done.memory (f bits))
      → (Passes ts → due ≤ bound)
      → (a : After (State B)) → a ≡ decided (sent v) v.state.engine.left ts due (did due done) → Edits A f bound v a
  edits f bound v ts due done falls stands fair a is =
      let P : After (State B) → Type 0 = Edits A f bound v in
      subst P (sym is) (decided_by P (sent v) v.state.engine.left ts due (did due done)
      (λ _. record { stands = λ _ h. h; pays = omega arith; bounded = omega arith })
      (λ p l. record { stands = λ bits h. stands bits p h; pays = omega arith; bounded = fair p }))

  -- carried out, each call keeps what belongs to the bits
  pub cut_stands : (v : World (State B)) (d : ℕ) (bits : List Bool) → Stands A v.state v.memory bits
      → Stands A (cut_done A v d).state (cut_done A v d).memory (take (length bits - d) bits)
  cut_stands v d bits h =
      let s = v.state in
      let less = standing_less s.bits d v.memory bits h.fits h.first in
      let leaves = drops w s.engine.enc s.l v.memory s.bits (s.bits - d) (omega arith) h.fits in
      record { fits = let f = h.fits in omega arith; first = less; l_is = h.l_is; sum_is = let e = h.sum_is in let f = h.first in cc }

  pub cut_fair : (b d : ℕ) → d ≤ b → cut_due A b d ≤ ceil A d
  cut_fair b d most =
      let whole : b - d + d ≡ b = omega arith in
      let P : ℕ → Type 0 = λ z. blocks A z - blocks A (b - d) ≤ ceil A d in
      subst P whole ((prices w).add (b - d) d)

  pub cut_law : (v : World (State B)) (d : ℕ) (a : After (State B)) → a ≡ cut A v d → Cuts A v d a
  unfolding Passes
  cut_law v d =
      let s = v.state in
      edits (λ bits. take (length bits - d) bits) (ceil A d) v (cut_conditions (length v.memory) s.bits d) (cut_due A s.bits d) (cut_done A v d) refl
      (λ bits _ h. cut_stands v d bits h) (λ t. cut_fair s.bits d (ltb-false _ _ t.1.0))

  pub add_stands : (v : World (State B)) (edit : List ℕ) (n : ℕ) (bits : List Bool) → n ≤ 8 * length edit → v.state.bits + n ≤ 8 * length v.memory → Stands A v.state v.memory bits
      → Stands A (add_done A v edit n).state (add_done A v edit n).memory (bits ++ take n (bits_of edit))
  add_stands v edit n bits some room h =
      let s = v.state in
      let new = written v.memory s.bits edit n in
      let long = length_bytes_of (length v.memory) (paste (bits_of v.memory) s.bits (bits_of edit) n) in
      let le = length_bits_of edit in
      let added = adds_written w s.engine.enc s.l v.memory new (bits_of edit) s.bits n room long (omega arith) (wrote v.memory edit s.bits n room some) in
      record {
        fits = omega arith;
        first = added.stand ∙ ap (λ z. z ++ take n (bits_of edit)) h.first;
        l_is = h.l_is;
        sum_is = let e = h.sum_is in let f = h.first in let k = added.kept in let t = added.stand in cc;
      }

  pub add_law : (v : World (State B)) (edit : List ℕ) (n : ℕ) (a : After (State B)) → a ≡ add A v edit n → Adds A v edit n a
  unfolding Passes
  add_law v edit n =
      let s = v.state in
      edits (λ bits. bits ++ take n (bits_of edit)) (ceil A n) v (add_conditions (length v.memory) s.bits (length edit) n) (add_due A s.bits n) (add_done A v edit n) refl
      (λ bits t h. add_stands v edit n bits (ltb-false _ _ t.1.0) (ltb-false _ _ t.1.1.0) h) (λ _. (prices w).add s.bits n)

  -- how many blocks are touched: none by an edit of no bits
  untouched : (b pos n : ℕ) → n ≡ 0 → touched A b pos n ≡ 0
  untouched b pos n e = ap (λ t. cond t 0 (touched_to A pos n b - touched_from A pos)) (eq-eqb n 0 e)

  touches : (b pos n : ℕ) → 0 < n → touched A b pos n ≡ touched_to A pos n b - touched_from A pos
  touches b pos n h = ap (λ t. cond t 0 (touched_to A pos n b - touched_from A pos)) (ne_eqb n 0 (λ e. omega arith))

  pub put_fair : (b pos n : ℕ) → put_due A b pos n ≤ put_bound A n
  put_fair b pos n = by (cases_lt 0 n)
    where
      by : (0 < n) ⊎ (n ≤ 0) → put_due A b pos n ≤ put_bound A n
      by (inl h) =
          let e : put_bound A n ≡ 2 * (ceil A n + 1) = ap (λ t. cond t 0 (2 * (ceil A n + 1))) (ne_eqb n 0 (λ e. omega arith)) in
          omega (arith, touches b pos n h, (prices w).put b pos n)
      by (inr h) = omega (arith, untouched b pos n (omega arith))

  -- the touched blocks leave and enter the sum
  put_kept : (s : State B) (memory edit : List ℕ) (pos n : ℕ) (bits : List Bool) → n ≤ 8 * length edit → pos + n ≤ s.bits → Stands A s memory bits
      → (let new = written memory pos edit n in let f = stored A s.engine.enc s.l in let from = touched_from A pos in let k = touched A s.bits pos n in
      (standing s.bits new ≡ paste bits pos (bits_of edit) n)
      × (A.plus (A.plus s.sum (over A (f memory) from k)) (over A (f new) from k) ≡ sum A s.engine.enc s.l (paste bits pos (bits_of edit) n)))
  put_kept s memory edit pos n bits some inside h = by (cases_lt 0 n)
    where
      new : List ℕ
      new = written memory pos edit n

      f : List ℕ → ℕ → B
      f = stored A s.engine.enc s.l

      by : (0 < n) ⊎ (n ≤ 0)
          → (standing s.bits new ≡ paste bits pos (bits_of edit) n)
          × (A.plus (A.plus s.sum (over A (f memory) (touched_from A pos) (touched A s.bits pos n))) (over A (f new) (touched_from A pos) (touched A s.bits pos n))
          ≡ sum A s.engine.enc s.l (paste bits pos (bits_of edit) n))
      by (inl more) =
          let fits = h.fits in
          let le = length_bits_of edit in
          let long = length_bytes_of (length memory) (paste (bits_of memory) pos (bits_of edit) n) in
          let done = puts_written w s.engine.enc s.l memory new (bits_of edit) s.bits pos n fits long (omega arith) more inside (wrote memory edit pos n (omega arith) some) in
          let stand : standing s.bits new ≡ paste bits pos (bits_of edit) n = done.stand ∙ ap (λ z. paste z pos (bits_of edit) n) h.first in
          let k = touches s.bits pos n more in
          let kept = done.kept in
          let e = h.sum_is in
          let first = h.first in
          (stand, cc)
      by (inr none) =
          let fits = h.fits in
          let zero : n ≡ 0 = omega arith in
          let k = untouched s.bits pos n zero in
          let paste_is : (xs : List Bool) → paste xs pos (bits_of edit) n ≡ xs = λ xs. ap (paste xs pos (bits_of edit)) zero ∙ sym (paste_none xs pos (bits_of edit)) in
          let same : standing s.bits new ≡ standing s.bits memory = ap (take s.bits) (wrote memory edit pos n (omega arith) some ∙ paste_is (bits_of memory)) in
          let out : over A (f memory) (touched_from A pos) (touched A s.bits pos n) ≡ A.zero = ap (over A (f memory) (touched_from A pos)) k ∙ over_none A (f memory) (touched_from A pos) in
          let in_again : over A (f new) (touched_from A pos) (touched A s.bits pos n) ≡ A.zero = ap (over A (f new) (touched_from A pos)) k ∙ over_none A (f new) (touched_from A pos) in (
            same ∙ h.first ∙ sym (paste_is bits),
            ap₂ (λ x y. A.plus (A.plus s.sum x) y) out in_again ∙ zero_r w (A.plus s.sum A.zero) ∙ zero_r w s.sum ∙ h.sum_is ∙ ap (sum A s.engine.enc s.l) (sym (paste_is bits)),
          )

  pub put_stands : (v : World (State B)) (pos : ℕ) (edit : List ℕ) (n : ℕ) (bits : List Bool) → n ≤ 8 * length edit → pos + n ≤ v.state.bits → Stands A v.state v.memory bits
      → Stands A (put_done A v pos edit n).state (put_done A v pos edit n).memory (paste bits pos (bits_of edit) n)
  put_stands v pos edit n bits some inside h =
      let s = v.state in
      let long = length_bytes_of (length v.memory) (paste (bits_of v.memory) pos (bits_of edit) n) in
      let both = put_kept s v.memory edit pos n bits some inside h in
      record { fits = let f = h.fits in omega arith; first = both.0; l_is = h.l_is; sum_is = both.1 }

  pub put_law : (v : World (State B)) (pos : ℕ) (edit : List ℕ) (n : ℕ) (a : After (State B)) → a ≡ put A v pos edit n → Puts A v pos edit n a
  unfolding Passes
  put_law v pos edit n =
      let s = v.state in
      edits (λ bits. paste bits pos (bits_of edit) n) (put_bound A n) v (put_conditions (length v.memory) s.bits pos (length edit) n) (put_due A s.bits pos n) (put_done A v pos edit n) refl
      (λ bits t h. put_stands v pos edit n bits (ltb-false _ _ t.1.0) (ltb-false _ _ t.1.1.0) h) (λ _. put_fair s.bits pos n)

  pub tag_stands : (v : World (State B)) (bits : List Bool) → Stands A v.state v.memory bits → Stands A (tag_done A v).state v.memory bits
  tag_stands v bits h = record { fits = h.fits; first = h.first; l_is = h.l_is; sum_is = h.sum_is }

  pub tagged : (v : World (State B)) (bits : List Bool) → Stands A v.state v.memory bits → (tag_done A v).buffer ≡ take (length v.buffer) (to_bytes A (full A v.state.engine.enc bits))
  unfolding full
  tagged v bits h = let f = h.first in let e = h.sum_is in let l = h.l_is in cc

  pub tag_law : (v : World (State B)) (a : After (State B)) → a ≡ tag A v → Tags A v a
  tag_law v a e =
      let s = v.state in
      let ts = tag_conditions A (length v.memory) s.bits (length v.buffer) in
      record {
        edits = edits (λ bits. bits) 1 v ts 1 (tag_done A v) refl (λ bits _ h. tag_stands v bits h) (λ _. omega arith) a e;
        tag_is = λ bits h.
            let P : After (State B) → Type 0 = λ a. a.world.buffer ≡ then a.outcome (take (length v.buffer) (to_bytes A (full A s.engine.enc bits))) v.buffer in
            subst P (sym e) (decided_by P (sent v) s.engine.left ts 1 (did 1 (tag_done A v)) (λ _. refl) (λ _ _. tagged v bits h));
      }

  pub sum_none : (enc : B → B) (l : B) → sum A enc l [] ≡ A.zero
  unfolding sum over
  sum_none enc l = ap (λ n. over A (sealed A enc l []) 1 n) (one (blocks A 0 - 1) refl)
    where
      one : (n : ℕ) → blocks A 0 - 1 ≡ n → n ≡ 0
      one zero e = refl
      one (suc n) e = let h = blocks_inner w 0 1 (omega arith) (omega arith) in omega arith
