-- A whole book: its reading by its chain, and how many records there are and where. Assumes nothing.
use Rattle.std.proofs.Common.{◌≡◌, ℕ, zero, suc, ◌-◌, ◌%◌, ◌<◌, ◌≤◌, true, ◌&&◌, eqb, leb, List, [], ◌∷◌, length, is_ok, None, Ok, Err, Result, sym, refl, ap, ◌∙◌, subst, ⊎_elim, arith, leb-true}
use Rattle.std.proofs.lemmas.Bool.{and_parts}
use Rattle.engine.specs.Refusals.{Refusal}
use Rattle.book.specs.declared.links.Links.{Links}
use Rattle.book.specs.Refusals.{at}
use Rattle.book.specs.Tests.{follower}
use Rattle.book.specs.Slots.{slots, is_book, link}
use Rattle.book.specs.Reading.{Entry, entry_at, entries, linked, follow, onwards, recorded, behind, reading, Inside}
use Rattle.book.specs.Views.{Starts, listed}
use Rattle.book.proofs.Walks.{behind_none}
use Rattle.book.proofs.Chains.{verdict, verdict_ok, chain_is, Leads, ended_split, linked_split}
use Rattle.book.proofs.Grown.{entered_first, entered_some, entry_slot}

-- ---- a reading by the chain

pub reading_is : (book : List ℕ) → is_book book ≡ true → reading book ≡ behind book 0
reading_is book b = rw b (ap (recorded book) (chain_is book))

pub recorded_split : (book : List ℕ) (c : Result (List ℕ) Refusal) (es : List Entry) → recorded book c ≡ Ok es → (slots' : List ℕ) × (c ≡ Ok slots') × (entries book slots' ≡ Ok es)
recorded_split book (Ok slots') es h = (slots', refl, h)
recorded_split book (Err refusal) es h = cc

-- a book has 1 to 2,048 slots
pub book_slots : (book : List ℕ) → is_book book ≡ true → (1 ≤ slots book) × (slots book ≤ 2048)
book_slots book b =
    let sizes = and_parts (eqb (length book % 32) 0) (leb 1 (slots book) && leb (slots book) 2048) b in
    let size = and_parts (leb 1 (slots book)) (leb (slots book) 2048) sizes.1 in
    (leb-true 1 (slots book) size.0, leb-true (slots book) 2048 size.1)

-- ---- how many records there are, and where

-- slots below a number
abbrev pub Within : ℕ → List ℕ → Type 0
Within n [] = Unit {0}
Within n (slot ∷ chain) = (slot < n) × Within n chain

-- slots of a book, and no more than so many
pub record Short (book : List ℕ) (links : ℕ) (chain : List ℕ) : Type 0 where
  pub few : length chain ≤ links
  pub within : Within (slots book) chain

short_none : (book : List ℕ) (links : ℕ) (chain : List ℕ) → chain ≡ [] → Short book links chain
short_none book links chain e = let P : List ℕ → Type 0 = λ c. Short book links c in subst P (sym e) (record { few = omega arith; within = tt })

chain_short : (book : List ℕ) (links slot : ℕ) (chain : List ℕ) → follow book links slot ≡ Ok chain → Short book links chain
chain_short book zero slot chain h =
    ⊎_elim
    (λ (e : (link book slot ≡ 0) × (chain ≡ [])). short_none book zero chain e.1)
    (λ (l : Leads book slot (Err (at 12 slot)) chain). (cc l.goes_on))
    (ended_split book slot (Err (at 12 slot)) chain h)
chain_short book (suc links) slot chain h =
    let next = link book slot in
    ⊎_elim
    (λ (e : (link book slot ≡ 0) × (chain ≡ [])). short_none book (suc links) chain e.1)
    (λ (l : Leads book slot (linked next (follow book links next)) chain).
    let t = linked_split next (follow book links next) chain l.goes_on in
    let rest = chain_short book links next t.0 t.1 in
    let P : List ℕ → Type 0 = λ c. Short book (suc links) c in
    subst P (sym t.2) (record { few = let f = rest.few in omega arith; within = (l.inside, rest.within) }))
    (ended_split book slot (linked next (follow book links next)) chain h)

-- the records of a chain stand in its slots
entries_within : (book : List ℕ) (n : ℕ) (chain : List ℕ) (es : List Entry) → entries book chain ≡ Ok es → Within n chain → Inside n es × (length es ≡ length chain)
entries_within book n [] [] h w = (tt, refl)
entries_within book n [] (e ∷ es) h w = cc
entries_within book n (s ∷ chain) [] h w = absurd (entered_some (entry_at book s) (entries book chain) h)
entries_within book n (s ∷ chain) (e ∷ es) h w =
    let p = entered_first (entry_at book s) (entries book chain) e es h in
    let rest = entries_within book n chain es p.1 w.1 in
    let here : e.slot ≡ s = entry_slot book s e p.0 in
    let in_book = w.0 in
    ((omega arith, rest.0), let l = rest.1 in omega arith)

-- a book has fewer than 2,048 records, each in a slot of its own
pub reading_bounds : (book : List ℕ) (es : List Entry) → is_book book ≡ true → behind book 0 ≡ Ok es → Inside (slots book) es × (length es < 2048)
reading_bounds book es b h =
    let size = book_slots book b in
    let t = recorded_split book (onwards book 0) es h in
    let c = chain_short book (slots book - 1) 0 t.0 t.1 in
    let r = entries_within book (slots book) t.0 es t.2 c.within in
    let f = c.few in
    let l = r.1 in
    let s = size.1 in
    let o = size.0 in
    (r.0, omega arith)

bounds_of : (book : List ℕ) (r : Result (List Entry) Refusal) → is_book book ≡ true → behind book 0 ≡ r → is_ok r ≡ true → Inside (slots book) (listed r) × (length (listed r) < 2048)
bounds_of book (Ok es) b e h = reading_bounds book es b e
bounds_of book (Err refusal) b e h = cc

-- the same where a look at each record came to the end of the chain
pub bounds : (book : List ℕ) (links end : Links) → Starts book links → end.book.bytes.now ≡ book → verdict (behind book end.slot) ≡ verdict (behind book 0) → follower end.book.bytes.now end.slot ≡ None
    → Inside (slots book) (listed (behind links.book.bytes.now links.slot)) × (length (listed (behind links.book.bytes.now links.slot)) < 2048)
bounds book links end (l, s) e same none =
    let P : List ℕ → ℕ → Type 0 = λ b n. Inside (slots book) (listed (behind b n)) × (length (listed (behind b n)) < 2048) in
    let sized : is_book book ≡ true = ap is_book (sym l) ∙ links.book.sized in
    let ended : verdict (behind book 0) ≡ Ok tt = sym same ∙ ap (λ b. verdict (behind b end.slot)) (sym e) ∙ ap verdict (behind_none end.book.bytes.now end.slot none) in
    subst (λ (b : List ℕ). P b links.slot) (sym l)
    (subst (λ (n : ℕ). P book n) (sym s) (bounds_of book (behind book 0) sized refl (verdict_ok (behind book 0) ended)))
