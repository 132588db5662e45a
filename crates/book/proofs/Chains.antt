-- Chains: how a chain goes on behind a slot, and that it does not matter how many more links may be followed. Assumes nothing.
use Rattle.std.proofs.Common.{◌≡◌, ℕ, zero, suc, ◌-◌, ◌<◌, ◌≤◌, Bool, true, false, cond, eqb, ltb, ◌⊎◌, List, [], ◌∷◌, Some, None, Ok, Err, Result, sym, refl, ap, ◌∙◌, subst, inl, inr, ⊎_elim, arith, ltb-true, le-ltb, lt-ltb, eq-eqb, ne_eqb, eqb-true, ltb-false, is_ok, Option}
use borrow.Author.Tests.{eqb-false}
use Rattle.std.proofs.lemmas.Bool.{cases_eq}
use Rattle.engine.specs.Refusals.{Refusal}
use Rattle.book.specs.Refusals.{at, book_refusal}
use Rattle.book.specs.declared.fault.BookFault.{BookFault}
use Rattle.book.specs.declared.fault.BookFault.TheVariants.{Link}
use Rattle.book.specs.Slots.{slots, link}
use Rattle.book.specs.Reading.{linked, ended, follow, onwards, chain}
use Rattle.book.specs.Tests.{follower, led}

-- ---- what a slot's link says

-- the chain ends here, or it goes on within the book
pub record Leads (book : List ℕ) (slot : ℕ) (more : Result (List ℕ) Refusal) (chain : List ℕ) : Type 0 where
  pub not_end : link book slot ≡ 0 → ⊥
  pub inside : link book slot < slots book
  pub goes_on : more ≡ Ok chain

ended_cases : (book : List ℕ) (slot : ℕ) (more : Result (List ℕ) Refusal) (chain : List ℕ) (z i : Bool) → eqb (link book slot) 0 ≡ z → ltb (link book slot) (slots book) ≡ i
    → cond z (Ok []) (cond i more (Err (at 11 slot))) ≡ Ok chain → ((link book slot ≡ 0) × (chain ≡ [])) ⊎ Leads book slot more chain
ended_cases book slot more chain true i p q h = inl (eqb-true _ _ p, (cc))
ended_cases book slot more chain false true p q h =
    inr (record { not_end = eqb-false _ _ p; inside = ltb-true _ _ q; goes_on = h })
ended_cases book slot more chain false false p q h = cc

pub ended_split : (book : List ℕ) (slot : ℕ) (more : Result (List ℕ) Refusal) (chain : List ℕ) → ended book slot more ≡ Ok chain → ((link book slot ≡ 0) × (chain ≡ [])) ⊎ Leads book slot more chain
ended_split book slot more chain h = ended_cases book slot more chain (eqb (link book slot) 0) (ltb (link book slot) (slots book)) refl refl h

pub ended_none : (book : List ℕ) (slot : ℕ) (more : Result (List ℕ) Refusal) → link book slot ≡ 0 → ended book slot more ≡ Ok []
ended_none book slot more e = rw (eq-eqb (link book slot) 0 e)

pub ended_more : (book : List ℕ) (slot : ℕ) (more : Result (List ℕ) Refusal) → (link book slot ≡ 0 → ⊥) → link book slot < slots book → ended book slot more ≡ more
ended_more book slot more n h =
    let a = ne_eqb (link book slot) 0 n in let b = lt-ltb (link book slot) (slots book) h in rw (a, b)

pub ended_stray : (book : List ℕ) (slot : ℕ) (more : Result (List ℕ) Refusal) → (link book slot ≡ 0 → ⊥) → slots book ≤ link book slot → ended book slot more ≡ Err (at 11 slot)
ended_stray book slot more n h =
    let a = ne_eqb (link book slot) 0 n in let b = le-ltb (link book slot) (slots book) h in rw (a, b)

-- ---- where a chain ends, however many links may be followed

pub linked_split : (slot : ℕ) (more : Result (List ℕ) Refusal) (chain : List ℕ) → linked slot more ≡ Ok chain → (rest : List ℕ) × (more ≡ Ok rest) × (chain ≡ slot ∷ rest)
linked_split slot (Ok rest) chain h = (rest, refl, (cc))
linked_split slot (Err refusal) chain h = cc

pub follow_none : (book : List ℕ) (links slot : ℕ) → link book slot ≡ 0 → follow book links slot ≡ Ok []
follow_none book zero slot e = ended_none book slot (Err (at 12 slot)) e
follow_none book (suc links) slot e = ended_none book slot (linked (link book slot) (follow book links (link book slot))) e

-- a link more may be followed
pub follow_more : (book : List ℕ) (links slot : ℕ) (chain : List ℕ) → follow book links slot ≡ Ok chain → follow book (suc links) slot ≡ Ok chain
follow_more book zero slot chain h =
    ⊎_elim
    (λ e. ended_none book slot (linked (link book slot) (follow book zero (link book slot))) e.0 ∙ ap Ok (sym e.1))
    (λ (l : Leads book slot (Err (at 12 slot)) chain). (cc l.goes_on))
    (ended_split book slot (Err (at 12 slot)) chain h)
follow_more book (suc links) slot chain h =
    let next = link book slot in
    ⊎_elim
    (λ e. ended_none book slot (linked next (follow book (suc links) next)) e.0 ∙ ap Ok (sym e.1))
    (λ (l : Leads book slot (linked next (follow book links next)) chain).
    let t = linked_split next (follow book links next) chain l.goes_on in
    ended_more book slot (linked next (follow book (suc links) next)) l.not_end l.inside
    ∙ ap (linked next) (follow_more book links next t.0 t.1) ∙ ap Ok (sym t.2))
    (ended_split book slot (linked next (follow book links next)) chain h)

-- ---- a step along a chain

pub record Next (book : List ℕ) (links next : ℕ) (chain : List ℕ) : Type 0 where
  pub inside : next < slots book
  pub rest : List ℕ
  pub chain_is : chain ≡ next ∷ rest
  pub rest_is : follow book links next ≡ Ok rest

by_link : (book : List ℕ) (links slot : ℕ) (chain : List ℕ) → follow book links slot ≡ Ok chain → (link book slot ≡ 0 → ⊥) → Next book links (link book slot) chain
by_link book zero slot chain h n =
    ⊎_elim
    (λ (e : (link book slot ≡ 0) × (chain ≡ [])). absurd (n e.0))
    (λ (l : Leads book slot (Err (at 12 slot)) chain). (cc l.goes_on))
    (ended_split book slot (Err (at 12 slot)) chain h)
by_link book (suc links) slot chain h n =
    let next = link book slot in
    ⊎_elim
    (λ (e : (link book slot ≡ 0) × (chain ≡ [])). absurd (n e.0))
    (λ (l : Leads book slot (linked next (follow book links next)) chain).
    let t = linked_split next (follow book links next) chain l.goes_on in
    record { inside = l.inside; rest = t.0; chain_is = t.2; rest_is = follow_more book links next t.0 t.1 })
    (ended_split book slot (linked next (follow book links next)) chain h)

pub follower_none : (book : List ℕ) (slot : ℕ) → follower book slot ≡ None → link book slot ≡ 0
follower_none book slot h =
    ⊎_elim (λ e. e)
    (λ (n : link book slot ≡ 0 → ⊥). let a = ne_eqb (link book slot) 0 n in cc (rw a at h))
    (cases_eq (link book slot) 0)

-- where a slot's follower is known
follower_cases : (book : List ℕ) (slot next : ℕ) (z : Bool) → eqb (link book slot) 0 ≡ z → cond z None (Some (link book slot)) ≡ Some next → (link book slot ≡ next) × (link book slot ≡ 0 → ⊥)
follower_cases book slot next true p h = cc
follower_cases book slot next false p h = ((cc), eqb-false _ _ p)

pub goes_on : (book : List ℕ) (links slot next : ℕ) (chain : List ℕ) → follow book links slot ≡ Ok chain → follower book slot ≡ Some next → Next book links next chain
goes_on book links slot next chain h e =
    let f = follower_cases book slot next (eqb (link book slot) 0) refl e in
    let P : ℕ → Type 0 = λ k. Next book links k chain in subst P f.0 (by_link book links slot chain h f.1)

-- ---- following a chain link by link

-- whether there is anything to refuse
abbrev pub verdict : {X : Type 0} → Result X Refusal → Result (Unit {0}) Refusal
verdict (Ok x) = Ok tt
verdict (Err refusal) = Err refusal

verdict_linked : (slot : ℕ) (more : Result (List ℕ) Refusal) → verdict (linked slot more) ≡ verdict more
verdict_linked slot (Ok chain) = refl
verdict_linked slot (Err refusal) = refl

-- what is known of a chain from what is said of a slot's link, where so many links may be followed
abbrev pub Known : List ℕ → ℕ → ℕ → Result (Option ℕ) BookFault → Type 0
Known book links slot (Ok None) = follow book links slot ≡ Ok []
Known book links slot (Ok (Some next)) =
    (next < slots book) × (follow book 0 slot ≡ Err (at 12 slot)) × (verdict (follow book (suc links) slot) ≡ verdict (follow book links next))
Known book links slot (Err fault) = follow book links slot ≡ Err (book_refusal fault)

follow_cases : (P : ℕ → Type 0) → P 0 → ((k : ℕ) → P (suc k)) → (n : ℕ) → P n
follow_cases P z s zero = z
follow_cases P z s (suc k) = s k

known_cases : (book : List ℕ) (links slot : ℕ) (z i : Bool) → eqb (link book slot) 0 ≡ z → ltb (link book slot) (slots book) ≡ i
    → Known book links slot (cond z (Ok None) (cond i (Ok (Some (link book slot))) (Err (Link slot))))
known_cases book links slot true i p q = follow_none book links slot (eqb-true _ _ p)
known_cases book links slot false true p q =
    let next = link book slot in
    let n = eqb-false _ _ p in
    let within = ltb-true _ _ q in (
      within,
      ended_more book slot (Err (at 12 slot)) n within,
      ap verdict (ended_more book slot (linked next (follow book links next)) n within) ∙ verdict_linked next (follow book links next),
    )
known_cases book links slot false false p q =
    let n = eqb-false _ _ p in
    let beyond : slots book ≤ link book slot = ltb-false _ _ q in
    follow_cases (λ k. follow book k slot ≡ Err (at 11 slot)) (ended_stray book slot (Err (at 12 slot)) n beyond)
    (λ k. ended_stray book slot (linked (link book slot) (follow book k (link book slot))) n beyond) links

pub known : (book : List ℕ) (links slot : ℕ) (r : Result (Option ℕ) BookFault) → r ≡ led book slot → Known book links slot r
known book links slot r e =
    let P : Result (Option ℕ) BookFault → Type 0 = λ x. Known book links slot x in
    subst P (sym e) (known_cases book links slot (eqb (link book slot) 0) (ltb (link book slot) (slots book)) refl refl)

-- a chain that is found to end, or refused, where another has the same verdict
pub verdict_err : {X : Type 0} (r : Result X Refusal) (refusal : Refusal) → verdict r ≡ Err refusal → r ≡ Err refusal
verdict_err (Ok x) refusal h = cc
verdict_err (Err r) refusal h = cc

pub verdict_ok : {X : Type 0} (r : Result X Refusal) → verdict r ≡ Ok tt → is_ok r ≡ true
verdict_ok (Ok x) h = refl
verdict_ok (Err r) h = cc

-- ---- the early look at a book of one slot says what following its links would say

one_slot : (book : List ℕ) (z : Bool) → slots book ≡ 1 → eqb (link book 0) 0 ≡ z → cond z (Ok []) (Err (at 11 0)) ≡ ended book 0 (Err (at 12 0))
one_slot book true e p = sym (ended_none book 0 (Err (at 12 0)) (eqb-true _ _ p))
one_slot book false e p =
    let n = eqb-false (link book 0) 0 p in sym (ended_stray book 0 (Err (at 12 0)) n (omega arith))

pub chain_is : (book : List ℕ) → chain book ≡ onwards book 0
chain_is book =
    ⊎_elim
    (λ (e : slots book ≡ 1).
    let a = eq-eqb (slots book) 1 e in
    let b : slots book - 1 ≡ 0 = omega arith in
    rw a (one_slot book (eqb (link book 0) 0) e refl ∙ ap (λ k. follow book k 0) (sym b)))
    (λ (n : slots book ≡ 1 → ⊥). let a = ne_eqb (slots book) 1 n in rw a)
    (cases_eq (slots book) 1)
