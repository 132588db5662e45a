-- Whole histories: what is told of each call is what the reckoning says. Assumes nothing.
use Rattle.std.proofs.Common.{◌≡◌, ℕ, suc, ◌+◌, ◌<◌, ◌≤◌, List, [], ◌∷◌, ◌++◌, length, get_or, take, sym, refl, ap, ◌∙◌, subst, arith}
use Rattle.std.proofs.lemmas.List.{take_more, take_all}
use Rattle.block.specs.Bits.{bits_of}
use Rattle.block.specs.Arith as arithmetic
use Rattle.block.specs.Arith.{Arith}
use Rattle.engine.specs.Meaning.{Meaning}
use Rattle.overlay.specs.declared.ledger.Account.{Account}
use Rattle.overlay.proofs.Laws.{length_standing, decided_by}
use Rattle.overlay.specs.Refusals.{refused}
use Rattle.overlay.specs.Judging.{misfits, open_conditions}
use Rattle.history.specs.Reckoning.{Beginning, opens, receives, Call, Answer, says, returned, Reckoning, Reply, Tells, Run, ends, total, worth, Conserved, beginning}
use Rattle.history.specs.Desk.{Kept, engine, arrival, open_one, Desk, Moved, totals, bits_in, left_in, Shows, StandsFor, Reckons, Advances, Runs, History, Turn, started, called, ran}
use Rattle.history.specs.declared.call.Call as code
use Rattle.history.specs.declared.answer.Reply as code-reply
use Rattle.history.specs.Views.{call_of, calls_of, reply_of, replies_of}
use Rattle.std.proofs.lemmas.Bool.{cond_both}
use Rattle.history.proofs.Reckoned.{balanced, fair, sum_push}
use Rattle.history.proofs.Simulation.{starts}

totals_length : (xs : List Account) → length (totals xs) ≡ length xs
totals_length [] = refl
totals_length (x ∷ xs) = ap suc (totals_length xs)

module _ {B : Type 0} (A : Arith B) (enc : B → B) where
  -- an overlay tells the bits and the operations of the reckoning that it stands for
  shows_bits : (k : Kept B) (memory : List ℕ) (r : Reckoning) → Shows A enc k memory r → bits_in k ≡ length r.bits
  shows_bits (engine m) memory r h = sym (ap length h.1.0)
  shows_bits (arrival a) memory r h = sym (length_standing a.bits memory h.1.1.0) ∙ ap length h.1.0
  shows_bits (open_one s) memory r h = let st = h.1.0 in sym (length_standing s.bits memory st.fits) ∙ ap length st.first

  shows_left : (k : Kept B) (memory : List ℕ) (r : Reckoning) → Shows A enc k memory r → left_in k ≡ r.left
  shows_left (engine m) memory r h = h.1.1.1
  shows_left (arrival a) memory r h = h.1.1.1.1
  shows_left (open_one s) memory r h = h.1.1.1

-- one call, from what `step` promises
pub tells : {B : Type 0} {A : Arith B} → arithmetic.Laws A → (d : Desk B) (c : Call) (m : Moved B) → Reckons A d c m → (d' : Desk B) → m.desk ≡ d'
    → Advances A d c (record { answer = m.answer; bits = bits_in m.desk.overlay; left = left_in m.desk.overlay }) d'
tells {A = A} w d c m follows d' e enc size r st =
    let f = follows enc size r st in
    let r' = f.0 in
    let sixteen : length r.totals ≡ 16 = ap length (sym st.totals_are) ∙ totals_length d.accounts ∙ st.sixteen in
    let st' = f.1.1 in (
      r',
      (
        record {
          step = f.1.0;
          bits_are = shows_bits A enc m.desk.overlay m.desk.memory r' st'.overlay;
          left_is = shows_left A enc m.desk.overlay m.desk.memory r' st'.overlay;
          balanced = balanced w enc size r c m.answer r' sixteen f.1.0;
          fair = fair w enc size r c;
        },
        subst (λ z. StandsFor A enc size z r') e st',
      ),
    )

-- ---- runs
module _ {B : Type 0} (A : Arith B) (enc : B → B) (size : ℕ) where
  run_more : (r : Reckoning) (cs : List Call) (xs : List Reply) (rs : List Reckoning) (c : Call) (x : Reply) (r' : Reckoning) → Run A enc size r cs xs rs → Tells A enc size (ends r rs) c x r'
      → Run A enc size r (cs ++ (c ∷ [])) (xs ++ (x ∷ [])) (rs ++ (r' ∷ []))
  run_more r [] [] [] c x r' run t = (t, tt)
  run_more r [] [] (s ∷ rs) c x r' run t = absurd run
  run_more r [] (y ∷ xs) rs c x r' run t = absurd run
  run_more r (d ∷ cs) [] rs c x r' run t = absurd run
  run_more r (d ∷ cs) (y ∷ xs) [] c x r' run t = absurd run
  run_more r (d ∷ cs) (y ∷ xs) (s ∷ rs) c x r' run t = (run.0, run_more s cs xs rs c x r' run.1 t)

  ends_more : (r : Reckoning) (rs : List Reckoning) (r' : Reckoning) → ends r (rs ++ (r' ∷ [])) ≡ r'
  ends_more r [] r' = refl
  ends_more r (s ∷ rs) r' = ends_more s rs r'

  -- at every point of a run
  pub conserves : (n : ℕ) (r : Reckoning) (cs : List Call) (xs : List Reply) (rs : List Reckoning) → Run A enc size r cs xs rs → worth r ≡ n → Conserved n (r ∷ rs)
  conserves n r [] [] [] run e = (e, tt)
  conserves n r [] [] (s ∷ rs) run e = absurd run
  conserves n r [] (y ∷ xs) rs run e = absurd run
  conserves n r (d ∷ cs) [] rs run e = absurd run
  conserves n r (d ∷ cs) (y ∷ xs) [] run e = absurd run
  conserves n r (d ∷ cs) (y ∷ xs) (s ∷ rs) run e = (e, conserves n s cs xs rs run.1 (run.0.balanced ∙ e))

module _ {B : Type 0} (A : Arith B) where
  pub runs_none : (d : Desk B) → Runs A d [] [] d
  runs_none d enc size r st = ([], (tt, st))

  -- one call more
  pub runs_more : (d d₁ d₂ : Desk B) (cs : List Call) (xs : List Reply) (c : Call) (x : Reply) → Runs A d cs xs d₁ → Advances A d₁ c x d₂ → Runs A d (cs ++ (c ∷ [])) (xs ++ (x ∷ [])) d₂
  runs_more d d₁ d₂ cs xs c x so next enc size r st =
      let f = so enc size r st in
      let g = next enc size (ends r f.0) f.1.1 in
      (f.0 ++ (g.0 ∷ []), (run_more A enc size r cs xs f.0 c x g.0 f.1.0 g.1.0, subst (StandsFor A enc size d₂) (sym (ends_more A enc size r f.0 g.0)) g.1.1))

-- one call more, on all of a desk
ran_more : {B : Type 0} (A : Arith B) (d : Desk B) (cs : List Call) (c : Call) → ran A d (cs ++ (c ∷ [])) ≡ (called A (ran A d cs) c).desk
ran_more A d [] c = refl
ran_more A d (x ∷ cs) c = ran_more A (called A d x).desk cs c

-- ---- calls and replies of the code
calls_append : (xs ys : List code.Call) → calls_of (xs ++ ys) ≡ calls_of xs ++ calls_of ys
calls_append [] ys = refl
calls_append (x ∷ xs) ys = ap (λ z. call_of x ∷ z) (calls_append xs ys)

replies_append : (xs ys : List code-reply.Reply) → replies_of (xs ++ ys) ≡ replies_of xs ++ replies_of ys
replies_append [] ys = refl
replies_append (x ∷ xs) ys = ap (λ z. reply_of x ∷ z) (replies_append xs ys)

pub resumed : {B : Type 0} (A : Arith B) (d d₁ d₂ : Desk B) (cs : List code.Call) (i : ℕ) (z : code.Call) (xs : List code-reply.Reply) (x : code-reply.Reply) → i < length cs
    → Runs A d (calls_of (take i cs)) (replies_of xs) d₁ → Advances A d₁ (call_of (get_or cs i z)) (reply_of x) d₂ → Runs A d (calls_of (take (i + 1) cs)) (replies_of (xs ++ (x ∷ []))) d₂
resumed A d d₁ d₂ cs i z xs x h so next =
    let c = get_or cs i z in
    let calls : calls_of (take (i + 1) cs) ≡ calls_of (take i cs) ++ (call_of c ∷ []) = ap calls_of (take_more cs i z h) ∙ calls_append (take i cs) (c ∷ []) in
    let replies : replies_of (xs ++ (x ∷ [])) ≡ replies_of xs ++ (reply_of x ∷ []) = replies_append xs (x ∷ []) in
    let more = runs_more A d d₁ d₂ (calls_of (take i cs)) (replies_of xs) (call_of c) (reply_of x) so next in
    subst (λ q. Runs A d q (replies_of (xs ++ (x ∷ []))) d₂) (sym calls) (subst (λ q. Runs A d (calls_of (take i cs) ++ (call_of c ∷ [])) q d₂) (sym replies) more)

pub ran_on : {B : Type 0} (A : Arith B) (d d₁ d₂ : Desk B) (cs : List code.Call) (i : ℕ) (z : code.Call) → i < length cs
    → d₁ ≡ ran A d (calls_of (take i cs)) → d₂ ≡ (called A d₁ (call_of (get_or cs i z))).desk → d₂ ≡ ran A d (calls_of (take (i + 1) cs))
ran_on A d d₁ d₂ cs i z h so next =
    let c = call_of (get_or cs i z) in
    next ∙ ap (λ q. (called A q c).desk) so ∙ sym (ran_more A d (calls_of (take i cs)) c) ∙ sym (ap (ran A d) (ap calls_of (take_more cs i z h) ∙ calls_append (take i cs) (get_or cs i z ∷ [])))

pub ran_all : {B : Type 0} (A : Arith B) (d d' : Desk B) (cs : List code.Call) (i : ℕ) → length cs ≤ i → d' ≡ ran A d (calls_of (take i cs)) → d' ≡ ran A d (calls_of cs)
ran_all A d d' cs i h e = e ∙ ap (λ q. ran A d (calls_of q)) (take_all i cs h)

pub all_of : {B : Type 0} (A : Arith B) (d d' : Desk B) (cs : List code.Call) (i : ℕ) (xs : List Reply) → length cs ≤ i → Runs A d (calls_of (take i cs)) xs d' → Runs A d (calls_of cs) xs d'
all_of A d d' cs i xs h so = subst (λ q. Runs A d q xs d') (ap calls_of (take_all i cs h)) so

-- ---- from open or receive on
module _ {B : Type 0} {A : Arith B} (w : arithmetic.Laws A) (m : Meaning B) (memory : List ℕ) (accounts : List Account) (slips : List ℕ) (sixteen : length accounts ≡ 16) where
  abbrev starting : Beginning → Answer × Reckoning
  starting b = beginning A m.enc (length memory) b m.left (totals accounts) slips (bits_of memory)

  abbrev amount : ℕ
  amount = m.left + total (totals accounts) + total slips

  starts_worth : (b : Beginning) → worth (starting b).1 ≡ amount
  starts_worth opens =
      let P : Answer × Reckoning → Type 0 = λ p. worth p.1 ≡ amount in
      decided_by P (λ x. (says (refused x) [], record { phase = returned; bits = []; left = m.left; totals = totals accounts; slips = slips ++ (0 ∷ []) })) m.left (open_conditions (length memory)) 1 _
      (λ _. omega (arith, sum_push slips 0)) (λ _ l. omega (arith, sum_push slips 1))
  starts_worth (receives b) =
      let P : Answer × Reckoning → Type 0 = λ p. worth p.1 ≡ amount in
      cond_both (misfits (length memory) b) _ _ P (λ _. omega (arith, sum_push slips 0)) (λ _. omega (arith, sum_push slips 0))

  pub whole : (b : Beginning) (calls : List Call) (t : Turn B) (first : Reply) (rest : List Reply) (d end : Desk B) → t ≡ started A b m memory
      → d ≡ record { overlay = t.overlay; memory = t.memory; accounts = accounts; slips = slips ++ t.slip }
      → first ≡ record { answer = t.answer; bits = bits_in t.overlay; left = left_in t.overlay }
      → Runs A d calls rest end → History A m memory accounts slips b calls (first ∷ rest) end
  whole b calls t first rest d end et ed ef runs =
      let p = starting b in
      let st = starts w m memory accounts slips sixteen b in
      let at : Turn B → Desk B = λ t. record { overlay = t.overlay; memory = t.memory; accounts = accounts; slips = slips ++ t.slip } in
      let sure : StandsFor A m.enc (length memory) d p.1 = subst (λ z. StandsFor A m.enc (length memory) z p.1) (sym (ed ∙ ap at et)) st.1 in
      let made : StandsFor A m.enc (length memory) (at t) p.1 = subst (λ z. StandsFor A m.enc (length memory) z p.1) ed sure in
      let f = runs m.enc (length memory) p.1 sure in
      record {
        first = first;
        rest = rest;
        each = refl;
        start = p.1;
        points = f.0;
        begins = (
          ap (λ z. z.answer) ef ∙ ap (λ z. z.answer) et ∙ st.0,
          (
            refl,
            (
              ap (λ z. z.bits) ef ∙ shows_bits A m.enc t.overlay t.memory p.1 made.overlay,
              ap (λ z. z.left) ef ∙ shows_left A m.enc t.overlay t.memory p.1 made.overlay,
            ),
          ),
        );
        runs = f.1.0;
        stands = f.1.1;
        conserved = conserves A m.enc (length memory) amount p.1 calls rest f.0 f.1.0 (starts_worth b);
      }
