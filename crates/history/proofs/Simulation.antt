-- A desk that stands for a reckoning stands for the next one after each call. Assumes nothing.
use Rattle.std.proofs.Common.{◌≡◌, ℕ, zero, suc, ◌+◌, ◌-◌, ◌*◌, ◌<◌, ◌≤◌, min, Bool, true, false, cond, not, ◌||◌, eqb, ltb, leb, ◌⊎◌, List, [], ◌∷◌, ◌++◌, length, get_or, take, set, replicate, sym, refl, ap, ◌∙◌, subst, ap₂, inl, inr, arith, ne_eqb}
use lib.Seq.{paste, set-get_or}
use Rattle.std.proofs.lemmas.List.{append-nil, length-take-le, length-set}
use Rattle.std.proofs.lemmas.List.Edits.{length-paste}
use Rattle.std.proofs.lemmas.Bool.{ltb-false, cases_lt}
use Rattle.block.specs.Bits.{bits_of}
use Rattle.block.specs.Arith as arithmetic
use Rattle.block.specs.Arith.{Arith, width, from_bytes, to_bytes}
use Rattle.block.specs.BitsLemmas.{length_bytes_of}
use Rattle.bits.specs.Memory.{standing, replaced}
use Rattle.bits.proofs.Parts.{start_next}
use Rattle.engine.specs.Refusals.{Refusal}
use Rattle.engine.specs.Meaning.{Meaning, Undoes, spent}
use Rattle.pmac.specs.Pmac.{full}
use Rattle.pmac.specs.Prices.{add_due, cut_due, put_due}
use Rattle.pmac.specs.Recovery.{placed, recovered}
use Rattle.pmac.proofs.Places.{places}
use Rattle.pmac.proofs.Recovery.{recoveries}
use Rattle.overlay.specs.Refusals.{carried, refused, numbered}
use Rattle.overlay.specs.Judging.{decided, misfits, taggable, open_conditions, add_conditions, cut_conditions, put_conditions, tag_conditions, recover_conditions, missing, whole_due}
use Rattle.overlay.specs.Ledger.{Booked, at}
use Rattle.overlay.specs.Calls.{State, World, After, Made, back, sent, did, add, add_done, cut, cut_done, put, put_done, tag, tag_done}
use Rattle.overlay.specs.Laws.{Stands, then}
use Rattle.overlay.specs.declared.ledger.Account.{Account}
use Rattle.overlay.proofs.Laws.{Passes, length_standing, cut_stands, add_stands, put_stands, tag_stands, tagged, sum_none}
use Rattle.history.specs.Reckoning.{Beginning, opens, receives, Call, checks, recovers, adds, cuts, puts, tags, books, Answer, silent, says, Phase, returned, received, opened, Reckoning, Verdict, untaken, refusal, wrong, granted, when_open, when_received, booking, paid, next, tag_of, Becomes, given, Goes, beginning}
use Rattle.history.specs.Desk.{after_taken, Kept, engine, arrival, open_one, Desk, Turn, Moved, Entered, totals, booked_at, blank, moved, called, entered, started, Shows, StandsFor, Follows, Reckons}
use Rattle.overlay.specs.Receiving.{Arrived, same, check, checked, recover, recover_done}

-- two answers by the same tests
module _ {R S : Type 0} (P : R → S → Type 0) where
  both : (t : Bool) (a b : R) (c d : S) → (t ≡ true → P a c) → (t ≡ false → P b d) → P (cond t a b) (cond t c d)
  both true a b c d h k = h refl
  both false a b c d h k = k refl

  decided_both : (f : Refusal → R) (g : Refusal → S) (left : ℕ) (ts : List (Bool × ℕ)) (due : ℕ) (x : R) (y : S) → ((r : Refusal) → P (f r) (g r)) → (Passes ts → due ≤ left → P x y)
      → P (decided f left ts due x) (decided g left ts due y)
  unfolding Passes
  decided_both f g left [] due x y sends does = both (ltb left due) _ _ _ _ (λ _. sends _) (λ e. does tt (ltb-false _ _ e))
  decided_both f g left (t ∷ ts) due x y sends does = both t.0 _ _ _ _ (λ _. sends _) (λ e. decided_both f g left ts due x y sends (λ p l. does (e, p) l))

-- the reckoning that a desk shows
abbrev reckoned : Phase → List Bool → ℕ → List Account → List ℕ → Reckoning
reckoned p bits left accounts slips = record { phase = p; bits = bits; left = left; totals = totals accounts; slips = slips }

-- ---- buffers for tags
length_blank : (n : ℕ) → length (blank n) ≡ min n 17
length_blank n = length-take-le (min n 17) (replicate 17 0) (omega arith)

module _ {B : Type 0} {A : Arith B} (w : arithmetic.Laws A) where
  taggable_long : (n : ℕ) → 16 < n → taggable A n ≡ false
  taggable_long n h =
      let none : eqb n 4 || (eqb n 8 || (eqb n 12 || eqb n 16)) ≡ false =
      ap₂ ◌||◌ (ne_eqb n 4 (λ e. omega arith)) (ap₂ ◌||◌ (ne_eqb n 8 (λ e. omega arith)) (ap₂ ◌||◌ (ne_eqb n 12 (λ e. omega arith)) (ne_eqb n 16 (λ e. omega arith)))) in
      ap (λ t. cond t (leb n A.size) false) none

  taggable_blank : (n : ℕ) → taggable A (length (blank n)) ≡ taggable A n
  taggable_blank n = by (cases_lt 16 n)
    where
      by : (16 < n) ⊎ (n ≤ 16) → taggable A (length (blank n)) ≡ taggable A n
      by (inl more) = taggable_long (length (blank n)) (let e = length_blank n in omega arith) ∙ sym (taggable_long n more)
      by (inr few) = let e = length_blank n in let same : length (blank n) ≡ n = omega arith in ap (taggable A) same

  -- a tag that is given fills the buffer asked for
  blank_whole : (n : ℕ) → not (taggable A (length (blank n))) ≡ false → length (blank n) ≡ n
  blank_whole n e = by (cases_lt 16 n)
    where
      by : (16 < n) ⊎ (n ≤ 16) → length (blank n) ≡ n
      by (inl more) =
          let f : not (taggable A (length (blank n))) ≡ true = ap not (taggable_long (length (blank n)) (let l = length_blank n in omega arith)) in
          let z : ◌≡◌ {A = Bool} true false = sym f ∙ e in absurd (differ z)
        where
          differ : true ≡ false → ⊥
          differ z = let k : ◌≡◌ {A = ℕ} 0 1 = cc in omega arith
      by (inr few) = let l = length_blank n in omega arith

-- ---- an open overlay
module _ {B : Type 0} {A : Arith B} (w : arithmetic.Laws A) (s : State B) (memory : List ℕ) (accounts : List Account) (slips : List ℕ)
    (h : Stands A s memory (standing s.bits memory)) (sixteen : length accounts ≡ 16) where
  abbrev here : World (State B)
  here = record { state = s; memory = memory; buffer = [] }

  abbrev desk : Desk B
  desk = record { overlay = open_one s; memory = memory; accounts = accounts; slips = slips }

  abbrev old : Reckoning
  old = reckoned opened (standing s.bits memory) s.engine.left accounts slips

  long : length (standing s.bits memory) ≡ s.bits
  long = length_standing s.bits memory h.fits

  -- after a call that gives some bytes
  abbrev GoesOn : Call → (After (State B) → List ℕ) → After (State B) → Verdict → Type 0
  GoesOn c bytes a v =
      (r' : Reckoning)
      × (Goes A s.engine.enc (length memory) v old c (says a.outcome (bytes a)) r'
      × StandsFor A s.engine.enc (length memory) (record { overlay = open_one a.world.state; memory = a.world.memory; accounts = accounts; slips = slips ++ (a.slip ∷ []) }) r')

  goes : (c : Call) (start : World (State B)) (bytes : After (State B) → List ℕ) (ts : List (Bool × ℕ)) (due : ℕ) (done : World (State B)) (bits : List Bool)
      → start.state ≡ s → start.memory ≡ memory
      → ((x : Refusal) → bytes (sent start x) ≡ []) → next c opened ≡ opened
      → (Passes ts → bytes (did due done) ≡ given A s.engine.enc (length memory) c bits)
      → (Passes ts → Becomes A s.engine.enc (length memory) c (standing s.bits memory) bits)
      → (Passes ts → Stands A done.state done.memory bits)
      → done.state.engine ≡ spent due s.engine → length done.memory ≡ length memory
      → GoesOn c bytes (decided (sent start) s.engine.left ts due (did due done)) (decided refusal s.engine.left ts due (granted due))
  goes c start bytes ts due done bits es em none stays_open gives becomes stands spends size =
      decided_both (GoesOn c bytes) (sent start) refusal s.engine.left ts due (did due done) (granted due)
      (λ x. (
        paid opened (standing s.bits memory) 0 old,
        (
          (ap (says (refused x)) (none x), refl),
          record {
            overlay = (refl, (subst (λ z. Stands A z start.memory (standing s.bits memory)) (sym es) (subst (λ z. Stands A s z (standing s.bits memory)) (sym em) h), (ap (λ z. z.engine.enc) es, ap (λ z. z.engine.left) es ∙ zero_off)));
            size_is = ap length em;
            totals_are = refl;
            sixteen = sixteen;
            slips_are = refl;
          },
        ),
      ))
      (λ p l. (
        paid (next c opened) bits due old,
        (
          (bits, (becomes p, (ap (says carried) (gives p), refl))),
          record {
            overlay = (stays_open, (stands p, (ap (λ z. z.enc) spends, ap (λ z. z.left) spends)));
            size_is = size;
            totals_are = refl;
            sixteen = sixteen;
            slips_are = refl;
          },
        ),
      ))
    where
      zero_off : s.engine.left ≡ s.engine.left - 0
      zero_off = omega arith

  -- the edits
  pub added : (edit : List ℕ) (n : ℕ) → Follows A s.engine.enc (length memory) old (adds edit n) (called A desk (adds edit n))
  unfolding Passes
  added edit n =
      let v : ℕ → Verdict = λ b. decided refusal s.engine.left (add_conditions (length memory) b (length edit) n) (add_due A b n) (granted (add_due A b n)) in
      let a = add A here edit n in
      let P : ℕ → Type 0 = λ b. GoesOn (adds edit n) (λ _. []) a (v b) in
      subst P (sym long) (goes (adds edit n) here (λ _. []) (add_conditions (length memory) s.bits (length edit) n) (add_due A s.bits n) (add_done A here edit n)
      (standing s.bits memory ++ take n (bits_of edit)) refl refl (λ _. refl) refl (λ _. refl) (λ _. refl)
      (λ t. add_stands w here edit n (standing s.bits memory) (ltb-false _ _ t.1.0) (ltb-false _ _ t.1.1.0) h) refl (length_bytes_of (length memory) _))

  pub cut_off : (n : ℕ) → Follows A s.engine.enc (length memory) old (cuts n) (called A desk (cuts n))
  cut_off n =
      let v : ℕ → Verdict = λ b. decided refusal s.engine.left (cut_conditions (length memory) b n) (cut_due A b n) (granted (cut_due A b n)) in
      let P : ℕ → Type 0 = λ b. GoesOn (cuts n) (λ _. []) (cut A here n) (v b) in
      subst P (sym long) (goes (cuts n) here (λ _. []) (cut_conditions (length memory) s.bits n) (cut_due A s.bits n) (cut_done A here n)
      (take (length (standing s.bits memory) - n) (standing s.bits memory)) refl refl (λ _. refl) refl (λ _. refl) (λ _. refl)
      (λ _. cut_stands w here n (standing s.bits memory) h) refl refl)

  pub put_over : (pos : ℕ) (edit : List ℕ) (n : ℕ) → Follows A s.engine.enc (length memory) old (puts pos edit n) (called A desk (puts pos edit n))
  unfolding Passes
  put_over pos edit n =
      let v : ℕ → Verdict = λ b. decided refusal s.engine.left (put_conditions (length memory) b pos (length edit) n) (put_due A b pos n) (granted (put_due A b pos n)) in
      let P : ℕ → Type 0 = λ b. GoesOn (puts pos edit n) (λ _. []) (put A here pos edit n) (v b) in
      subst P (sym long) (goes (puts pos edit n) here (λ _. []) (put_conditions (length memory) s.bits pos (length edit) n) (put_due A s.bits pos n) (put_done A here pos edit n)
      (paste (standing s.bits memory) pos (bits_of edit) n) refl refl (λ _. refl) refl (λ _. refl) (λ _. refl)
      (λ t. put_stands w here pos edit n (standing s.bits memory) (ltb-false _ _ t.1.0) (ltb-false _ _ t.1.1.0) h) refl (length_bytes_of (length memory) _))

  -- a tag of n bytes goes as one into a buffer of n bytes, or of 17 where n is more
  pub tag_given : (n : ℕ) → Follows A s.engine.enc (length memory) old (tags n) (called A desk (tags n))
  unfolding Passes
  tag_given n =
      let k = length (blank n) in
      let start : World (State B) = record { state = s; memory = memory; buffer = blank n } in
      let bytes : After (State B) → List ℕ = λ a. then a.outcome a.world.buffer [] in
      let v : ℕ → Bool → Verdict = λ b t. decided refusal s.engine.left ((misfits (length memory) b, 2) ∷ (not t, 6) ∷ []) 1 (granted 1) in
      let P : ℕ → Type 0 = λ b. GoesOn (tags n) bytes (tag A start) (v b (taggable A n)) in
      let Q : Bool → Type 0 = λ t. GoesOn (tags n) bytes (tag A start) (v s.bits t) in
      subst P (sym long) (subst Q (taggable_blank w n)
      (goes (tags n) start bytes (tag_conditions A (length memory) s.bits k) 1 (tag_done A start) (standing s.bits memory) refl refl (λ _. refl) refl
      (λ t. tagged w start (standing s.bits memory) h ∙ ap (λ z. take z (to_bytes A (full A s.engine.enc (standing s.bits memory)))) (blank_whole w n t.1.0))
      (λ _. refl) (λ _. tag_stands w start (standing s.bits memory) h) refl refl))

-- ---- a received overlay
-- a whole block
present : {B : Type 0} (A : Arith B) (b i : ℕ) → missing A b i ≡ false → (1 ≤ i) × (i * width A ≤ b)
present A b i e = by (eqb i 0) refl e
  where
    by : (t : Bool) → eqb i 0 ≡ t → cond t true (ltb b (i * width A)) ≡ false → (1 ≤ i) × (i * width A ≤ b)
    by true f g = let z : ◌≡◌ {A = ℕ} 0 1 = cc in absurd (omega arith)
    by false f g = (positive i f, ltb-false _ _ g)
      where
        positive : (i : ℕ) → eqb i 0 ≡ false → 1 ≤ i
        positive zero f = let z : ◌≡◌ {A = ℕ} 0 1 = cc in absurd (omega arith)
        positive (suc i) f = omega arith

-- a block written keeps the memory's length
replaced_length : {B : Type 0} {A : Arith B} → arithmetic.Laws A → (memory : List ℕ) (x : B) (i : ℕ) → 1 ≤ i → i * width A ≤ 8 * length memory → length (replaced A memory i x) ≡ length memory
unfolding replaced
replaced_length {A = A} w memory x i p h =
    let bytes = length_bytes_of A.size (A.unpack x) in
    let at = start_next i A.size p in
    length-paste memory ((i - 1) * A.size) (to_bytes A x) A.size (omega arith) (omega arith)

module _ {B : Type 0} {A : Arith B} (w : arithmetic.Laws A) (a : Arrived B) (memory : List ℕ) (accounts : List Account) (slips : List ℕ)
    (fits : a.bits ≤ 8 * length memory) (sixteen : length accounts ≡ 16) where
  abbrev arrived_desk : Desk B
  arrived_desk = record { overlay = arrival a; memory = memory; accounts = accounts; slips = slips }

  abbrev arrived_old : Reckoning
  arrived_old = reckoned received (standing a.bits memory) a.engine.left accounts slips

  arrived_long : length (standing a.bits memory) ≡ a.bits
  arrived_long = length_standing a.bits memory fits

  nothing_off : a.engine.left ≡ a.engine.left - 0
  nothing_off = omega arith

  -- a received overlay with so many operations fewer left, over a memory of the same size
  shows_arrival : (h : Arrived B) (new : List ℕ) (n : ℕ) → h.bits ≡ a.bits → h.engine.enc ≡ a.engine.enc → h.engine.left ≡ a.engine.left - n → length new ≡ length memory
      → StandsFor A a.engine.enc (length memory) (record { overlay = arrival h; memory = new; accounts = accounts; slips = slips ++ (n ∷ []) }) (paid received (standing a.bits new) n arrived_old)
  shows_arrival h new n eb ee el size = record {
    overlay = (refl, (ap (λ z. standing z new) eb, ((let f = fits in omega arith), (ee, el))));
    size_is = size;
    totals_are = refl;
    sixteen = sixteen;
    slips_are = refl;
  }

  abbrev ChecksOn : List ℕ → Made (State B) (Arrived B) → Verdict → Type 0
  ChecksOn tag c v =
      (r' : Reckoning)
      × (Goes A a.engine.enc (length memory) v arrived_old (checks tag) (after_taken open_one arrival memory c).answer r'
      × StandsFor A a.engine.enc (length memory) (moved arrived_desk (after_taken open_one arrival memory c)).desk r')

  pub checked_by : (tag : List ℕ) → Follows A a.engine.enc (length memory) arrived_old (checks tag) (called A arrived_desk (checks tag))
  checked_by tag =
      let enc = a.engine.enc in
      let bits = standing a.bits memory in
      let due = whole_due A a.bits in
      let right = same tag (tag_of A enc (length memory) (length tag) bits) in
      let v : ℕ → Verdict = λ b. decided refusal a.engine.left (tag_conditions A (length memory) b (length tag)) (whole_due A b) (cond right (granted (whole_due A b)) (wrong (whole_due A b))) in
      let P : ℕ → Type 0 = λ b. ChecksOn tag (check A a memory tag) (v b) in
      subst P (sym arrived_long)
      (decided_both (ChecksOn tag) (λ x. back a x 0) refusal a.engine.left (tag_conditions A (length memory) a.bits (length tag)) due (checked A a memory tag) (cond right (granted due) (wrong due))
      (λ x. (paid received bits 0 arrived_old, ((refl, refl), shows_arrival a memory 0 refl refl nothing_off refl)))
      (λ _ l. both (ChecksOn tag) right _ _ _ _
      (λ _. (
        paid opened bits due arrived_old,
        (
          (bits, (refl, (refl, refl))),
          record {
            overlay = (refl, (record { fits = fits; first = refl; l_is = refl; sum_is = refl }, (refl, refl)));
            size_is = refl;
            totals_are = refl;
            sixteen = sixteen;
            slips_are = refl;
          },
        ),
      ))
      (λ _. (paid received bits due arrived_old, ((refl, refl), shows_arrival (record { bits = a.bits; engine = spent due a.engine }) memory due refl refl refl refl)))))

  abbrev RecoversOn : List ℕ → ℕ → After (Arrived B) → Verdict → Type 0
  RecoversOn tag i x v =
      (r' : Reckoning)
      × (Goes A a.engine.enc (length memory) v arrived_old (recovers tag i) (says x.outcome []) r'
      × StandsFor A a.engine.enc (length memory) (record { overlay = arrival x.world.state; memory = x.world.memory; accounts = accounts; slips = slips ++ (x.slip ∷ []) }) r')

  pub recovered_by : Undoes a.engine → (tag : List ℕ) (i : ℕ) → Follows A a.engine.enc (length memory) arrived_old (recovers tag i) (called A arrived_desk (recovers tag i))
  unfolding Passes
  recovered_by undo tag i =
      let bits = standing a.bits memory in
      let due = whole_due A a.bits in
      let start : World (Arrived B) = record { state = a; memory = memory; buffer = [] } in
      let lost = recovered A a.engine.enc a.engine.dec (from_bytes A tag) bits i in
      let new = replaced A memory i lost in
      let v : ℕ → Verdict = λ b. decided refusal a.engine.left (recover_conditions A (length memory) b (length tag) i) (whole_due A b) (granted (whole_due A b)) in
      let P : ℕ → Type 0 = λ b. RecoversOn tag i (recover A start tag i) (v b) in
      subst P (sym arrived_long)
      (decided_both (RecoversOn tag i) (sent start) refusal a.engine.left (recover_conditions A (length memory) a.bits (length tag) i) due (did due (recover_done A start tag i)) (granted due)
      (λ x. (paid received bits 0 arrived_old, ((refl, refl), shows_arrival a memory 0 refl refl nothing_off refl)))
      (λ t l.
      let whole = present A a.bits i t.1.1.0 in
      let placing : standing a.bits new ≡ placed A i lost bits = places w memory lost a.bits i whole.0 whole.1 fits in
      let inside : i * width A ≤ length bits = let e = arrived_long in let k = whole.1 in omega arith in
      let gives = (recoveries w a.engine undo (from_bytes A tag) bits i whole.0 inside).gives in (
        paid received (standing a.bits new) due arrived_old,
        (
          (standing a.bits new, ((lost, (placing, ap (full A a.engine.enc) placing ∙ gives)), (refl, refl))),
          shows_arrival (record { bits = a.bits; engine = spent due a.engine }) new due refl refl refl (replaced_length w memory lost i whole.0 (let k = whole.1 in let f = fits in omega arith)),
        ),
      )))

-- ---- bookings
pub totals_at : (xs : List Account) (i : ℕ) → get_or (totals xs) i 0 ≡ (at xs i).total
totals_at [] i = refl
totals_at (x ∷ xs) zero = refl
totals_at (x ∷ xs) (suc i) = totals_at xs i

totals_set : (xs : List Account) (i : ℕ) (x : Account) → totals (set xs i x) ≡ set (totals xs) i x.total
totals_set [] i x = refl
totals_set (y ∷ xs) zero x = refl
totals_set (y ∷ xs) (suc i) x = ap (λ z. y.total ∷ z) (totals_set xs i x)

same_reckoning : (r r' : Reckoning) → r.phase ≡ r'.phase → r.bits ≡ r'.bits → r.left ≡ r'.left → r.totals ≡ r'.totals → r.slips ≡ r'.slips → r ≡ r'
same_reckoning r r' p b l t s =
    ap₂ (λ x y. record { phase = x; bits = y; left = r.left; totals = r.totals; slips = r.slips }) p b
    ∙ ap₂ (λ x y. record { phase = r'.phase; bits = r'.bits; left = x; totals = y; slips = r.slips }) l t
    ∙ ap (λ x. record { phase = r'.phase; bits = r'.bits; left = r'.left; totals = r'.totals; slips = x }) s

module _ {B : Type 0} (A : Arith B) (enc : B → B) (size : ℕ) where
  -- an overlay has no part in totals and slips
  shows_with : (k : Kept B) (memory : List ℕ) (r : Reckoning) (ts ss : List ℕ) → Shows A enc k memory r → Shows A enc k memory (record { phase = r.phase; bits = r.bits; left = r.left; totals = ts; slips = ss })
  shows_with (engine m) memory r ts ss h = h
  shows_with (arrival a) memory r ts ss h = h
  shows_with (open_one s) memory r ts ss h = h

  module _ (d : Desk B) (r : Reckoning) (st : StandsFor A enc size d r) where
    abbrev plain : Reckoning
    plain = record { phase = r.phase; bits = r.bits; left = r.left; totals = totals d.accounts; slips = d.slips }

    plain_is : plain ≡ r
    plain_is = same_reckoning plain r refl refl refl st.totals_are st.slips_are

    stands_plain : (accounts : List Account) (ts slips : List ℕ) → totals accounts ≡ ts → length accounts ≡ 16
        → StandsFor A enc size (record { overlay = d.overlay; memory = d.memory; accounts = accounts; slips = slips }) (record { phase = r.phase; bits = r.bits; left = r.left; totals = ts; slips = slips })
    stands_plain accounts ts slips et sixteen =
        record { overlay = shows_with d.overlay d.memory r ts slips st.overlay; size_is = st.size_is; totals_are = et; sixteen = sixteen; slips_are = refl }

    abbrev BooksOn : Entered → (Answer × Reckoning) → Type 0
    BooksOn x p = (x.answer ≡ p.0) × StandsFor A enc size (record { overlay = d.overlay; memory = d.memory; accounts = x.accounts; slips = x.slips }) p.1

    books_on : (k i : ℕ) → BooksOn (booked_at d.accounts d.slips k i) (booking plain k i)
    books_on k i =
        let n = get_or d.slips k 0 in
        let of : Booked → Entered = λ b. record { answer = says b.outcome []; accounts = b.accounts; slips = set d.slips k b.slip } in
        let Q : Booked → (Answer × Reckoning) → Type 0 = λ b p. BooksOn (of b) p in
        let old = get_or (totals d.accounts) i 0 in
        let same_slips : set d.slips k n ≡ d.slips = set-get_or d.slips k 0 in
        let unchanged : (x : Refusal) → Q (record { outcome = refused x; accounts = d.accounts; slip = n }) (says (refused x) [], plain) =
        λ x. (refl, subst (λ z. StandsFor A enc size (record { overlay = d.overlay; memory = d.memory; accounts = d.accounts; slips = z }) plain) (sym same_slips) (stands_plain d.accounts (totals d.accounts) d.slips refl st.sixteen)) in
        let new : Account = record { total = (at d.accounts i).total + n; latest = n } in
        let total_is : (at d.accounts i).total ≡ old = sym (totals_at d.accounts i) in
        both BooksOn (ltb k (length d.slips)) _ _ _ _
        (λ _. both Q (ltb 15 i) _ _ _ _ (λ _. unchanged (numbered 16))
        (λ _. subst (λ z. Q (cond (ltb (4294967295 - (at d.accounts i).total) n) (record { outcome = refused (numbered 17); accounts = d.accounts; slip = n }) (record { outcome = carried; accounts = set d.accounts i new; slip = 0 }))
        (cond (ltb (4294967295 - z) n) (says (refused (numbered 17)) [], plain) (says carried [], record { phase = r.phase; bits = r.bits; left = r.left; totals = set (totals d.accounts) i (z + n); slips = set d.slips k 0 }))) total_is
        (both Q (ltb (4294967295 - (at d.accounts i).total) n) _ _ _ _ (λ _. unchanged (numbered 17))
        (λ _. (refl, stands_plain (set d.accounts i new) (set (totals d.accounts) i ((at d.accounts i).total + n)) (set d.slips k 0) (totals_set d.accounts i new) (length-set d.accounts i new ∙ st.sixteen))))))
        (λ _. (refl, stands_plain d.accounts (totals d.accounts) d.slips refl st.sixteen))

    pub booked_in : (k i : ℕ) → Follows A enc size r (books k i) (entered d k i)
    booked_in k i =
        let b = books_on k i in
        let P : Reckoning → Type 0 = λ z. Follows A enc size z (books k i) (entered d k i) in
        subst P plain_is ((booking plain k i).1, ((b.0, refl), b.1))

    -- a call that the state does not take
    idle : (c : Call) (v : Verdict) → v ≡ untaken
        → (r' : Reckoning) × (Goes A enc size v r c silent r' × StandsFor A enc size (record { overlay = d.overlay; memory = d.memory; accounts = d.accounts; slips = d.slips ++ [] }) r')
    idle c v e =
        let P : List ℕ → Type 0 = λ z. StandsFor A enc size (record { overlay = d.overlay; memory = d.memory; accounts = d.accounts; slips = z }) r in
        (r, (subst (λ z. Goes A enc size z r c silent r) (sym e) (refl, refl), subst P (sym (append-nil d.slips)) st))

-- ---- every call
-- a state that does not take a call
shut : (gate : Phase → Verdict → Verdict) (q : Phase) → ((v : Verdict) → gate q v ≡ untaken) → (p : Phase) (v : Verdict) → p ≡ q → gate p v ≡ untaken
shut gate q closed p v e = ap (λ z. gate z v) e ∙ closed v

-- what an overlay's engine means undoes itself
abbrev pub Undone : {B : Type 0} → Kept B → Type 0
Undone (engine m) = Undoes m
Undone (arrival a) = Undoes a.engine
Undone (open_one s) = Undoes s.engine

module _ {B : Type 0} {A : Arith B} (w : arithmetic.Laws A) (enc : B → B) (size : ℕ) (memory : List ℕ) (accounts : List Account) (slips : List ℕ) (r : Reckoning) where
  abbrev of : Kept B → Desk B
  of k = record { overlay = k; memory = memory; accounts = accounts; slips = slips }

  carry : (c : Call) (m : Moved B) (enc' : B → B) (old : Reckoning) → enc' ≡ enc → length memory ≡ size → old ≡ r → Follows A enc' (length memory) old c m → Follows A enc size r c m
  carry c m enc' old ee es er f =
      let P : (B → B) → Type 0 = λ z. Follows A z (length memory) old c m in
      let Q : ℕ → Type 0 = λ z. Follows A enc z old c m in
      let R : Reckoning → Type 0 = λ z. Follows A enc size z c m in
      subst R er (subst Q es (subst P ee f))

  returned_on : (m : Meaning B) → StandsFor A enc size (of (engine m)) r → (c : Call) → Follows A enc size r c (called A (of (engine m)) c)
  returned_on m st (checks t) = idle A enc size (of (engine m)) r st (checks t) _ (shut when_received returned (λ _. refl) r.phase _ st.overlay.0)
  returned_on m st (recovers t i) = idle A enc size (of (engine m)) r st (recovers t i) _ (shut when_received returned (λ _. refl) r.phase _ st.overlay.0)
  returned_on m st (adds edit n) = idle A enc size (of (engine m)) r st (adds edit n) _ (shut when_open returned (λ _. refl) r.phase _ st.overlay.0)
  returned_on m st (cuts n) = idle A enc size (of (engine m)) r st (cuts n) _ (shut when_open returned (λ _. refl) r.phase _ st.overlay.0)
  returned_on m st (puts pos edit n) = idle A enc size (of (engine m)) r st (puts pos edit n) _ (shut when_open returned (λ _. refl) r.phase _ st.overlay.0)
  returned_on m st (tags n) = idle A enc size (of (engine m)) r st (tags n) _ (shut when_open returned (λ _. refl) r.phase _ st.overlay.0)
  returned_on m st (books k i) = booked_in A enc size (of (engine m)) r st k i

  received_on : (a : Arrived B) → Undoes a.engine → StandsFor A enc size (of (arrival a)) r → (c : Call) → Follows A enc size r c (called A (of (arrival a)) c)
  received_on a u st (checks t) =
      let h = st.overlay in
      carry (checks t) _ a.engine.enc _ h.1.1.1.0 st.size_is (same_reckoning _ r (sym h.0) h.1.0 h.1.1.1.1 st.totals_are st.slips_are)
      (checked_by w a memory accounts slips h.1.1.0 st.sixteen t)
  received_on a u st (recovers t i) =
      let h = st.overlay in
      carry (recovers t i) _ a.engine.enc _ h.1.1.1.0 st.size_is (same_reckoning _ r (sym h.0) h.1.0 h.1.1.1.1 st.totals_are st.slips_are)
      (recovered_by w a memory accounts slips h.1.1.0 st.sixteen u t i)
  received_on a u st (adds edit n) = idle A enc size (of (arrival a)) r st (adds edit n) _ (shut when_open received (λ _. refl) r.phase _ st.overlay.0)
  received_on a u st (cuts n) = idle A enc size (of (arrival a)) r st (cuts n) _ (shut when_open received (λ _. refl) r.phase _ st.overlay.0)
  received_on a u st (puts pos edit n) = idle A enc size (of (arrival a)) r st (puts pos edit n) _ (shut when_open received (λ _. refl) r.phase _ st.overlay.0)
  received_on a u st (tags n) = idle A enc size (of (arrival a)) r st (tags n) _ (shut when_open received (λ _. refl) r.phase _ st.overlay.0)
  received_on a u st (books k i) = booked_in A enc size (of (arrival a)) r st k i

  module _ (s : State B) (st : StandsFor A enc size (of (open_one s)) r) where
    stood : Stands A s memory (standing s.bits memory)
    stood = let h = st.overlay.1.0 in subst (Stands A s memory) (sym h.first) h

    back_to : reckoned opened (standing s.bits memory) s.engine.left accounts slips ≡ r
    back_to = let h = st.overlay in same_reckoning _ r (sym h.0) h.1.0.first h.1.1.1 st.totals_are st.slips_are

    opened_on : (c : Call) → Follows A enc size r c (called A (of (open_one s)) c)
    opened_on (checks t) = idle A enc size (of (open_one s)) r st (checks t) _ (shut when_received opened (λ _. refl) r.phase _ st.overlay.0)
    opened_on (recovers t i) = idle A enc size (of (open_one s)) r st (recovers t i) _ (shut when_received opened (λ _. refl) r.phase _ st.overlay.0)
    opened_on (adds edit n) = carry (adds edit n) _ s.engine.enc _ st.overlay.1.1.0 st.size_is back_to (added w s memory accounts slips stood st.sixteen edit n)
    opened_on (cuts n) = carry (cuts n) _ s.engine.enc _ st.overlay.1.1.0 st.size_is back_to (cut_off w s memory accounts slips stood st.sixteen n)
    opened_on (puts pos edit n) = carry (puts pos edit n) _ s.engine.enc _ st.overlay.1.1.0 st.size_is back_to (put_over w s memory accounts slips stood st.sixteen pos edit n)
    opened_on (tags n) = carry (tags n) _ s.engine.enc _ st.overlay.1.1.0 st.size_is back_to (tag_given w s memory accounts slips stood st.sixteen n)
    opened_on (books k i) = booked_in A enc size (of (open_one s)) r st k i

  any_on : (k : Kept B) → Undone k → StandsFor A enc size (of k) r → (c : Call) → Follows A enc size r c (called A (of k) c)
  any_on (engine m) u st c = returned_on m st c
  any_on (arrival a) u st c = received_on a u st c
  any_on (open_one s) u st c = opened_on s st c

pub follows : {B : Type 0} {A : Arith B} → arithmetic.Laws A → (d : Desk B) → Undone d.overlay → (c : Call) → Reckons A d c (called A d c)
follows w d u c enc size r st = any_on w enc size d.memory d.accounts d.slips r d.overlay u st c

-- ---- open and receive
-- a memory that fits
fitting : (size b : ℕ) → misfits size b ≡ false → b ≤ 8 * size
fitting size b e = by (ltb 65536 size) refl e
  where
    by : (t : Bool) → ltb 65536 size ≡ t → cond t true (ltb (8 * size) b) ≡ false → b ≤ 8 * size
    by true f g = let z : ◌≡◌ {A = ℕ} 0 1 = cc in absurd (omega arith)
    by false f g = ltb-false _ _ g

module _ {B : Type 0} {A : Arith B} (w : arithmetic.Laws A) (m : Meaning B) (memory : List ℕ) (accounts : List Account) (slips : List ℕ) (sixteen : length accounts ≡ 16) where
  abbrev desk_of_turn : Turn B → Desk B
  desk_of_turn t = record { overlay = t.overlay; memory = t.memory; accounts = accounts; slips = slips ++ t.slip }

  abbrev Starts : Turn B → (Answer × Reckoning) → Type 0
  Starts t p = (t.answer ≡ p.0) × StandsFor A m.enc (length memory) (desk_of_turn t) p.1

  -- the engine comes back
  comes_back : (x : Refusal) → Starts (record { answer = says (refused x) []; overlay = engine m; memory = memory; slip = 0 ∷ [] })
      (says (refused x) [], record { phase = returned; bits = []; left = m.left; totals = totals accounts; slips = slips ++ (0 ∷ []) })
  comes_back x = (refl, record { overlay = (refl, (refl, (refl, refl))); size_is = refl; totals_are = refl; sixteen = sixteen; slips_are = refl })

  pub starts : (b : Beginning) → Starts (started A b m memory) (beginning A m.enc (length memory) b m.left (totals accounts) slips (bits_of memory))
  starts opens =
      let P : Made (State B) (Meaning B) → (Answer × Reckoning) → Type 0 = λ s p. Starts (after_taken open_one engine memory s) p in
      decided_both P (λ r. back m r 0) (λ x. (says (refused x) [], record { phase = returned; bits = []; left = m.left; totals = totals accounts; slips = slips ++ (0 ∷ []) })) m.left (open_conditions (length memory)) 1 _ _
      (λ x. comes_back x)
      (λ _ l. (
        refl,
        record {
          overlay = (refl, (record { fits = omega arith; first = refl; l_is = refl; sum_is = sym (sum_none w m.enc (m.enc A.zero)) }, (refl, refl)));
          size_is = refl;
          totals_are = refl;
          sixteen = sixteen;
          slips_are = refl;
        },
      ))
  starts (receives b) =
      let P : Made (Arrived B) (Meaning B) → (Answer × Reckoning) → Type 0 = λ s p. Starts (after_taken arrival engine memory s) p in
      both P (misfits (length memory) b) _ _ _ _ (λ _. comes_back (numbered 2))
      (λ e. (
        refl,
        record {
          overlay = (refl, (refl, (fitting (length memory) b e, (refl, refl))));
          size_is = refl;
          totals_are = refl;
          sixteen = sixteen;
          slips_are = refl;
        },
      ))
