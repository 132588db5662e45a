-- A record put into a book reads back behind those that were there. Assumes nothing.
use Rattle.std.proofs.Common.{◌≡◌, ℕ, zero, suc, ◌+◌, ◌<◌, ◌≤◌, Bool, true, false, cond, eqb, ltb, List, [], ◌∷◌, ◌++◌, length, Ok, Err, Result, sym, refl, ap, ◌∙◌, ⊎_elim, arith}
use Rattle.engine.specs.Refusals.{Refusal}
use Rattle.book.specs.Refusals.{at}
use Rattle.book.specs.Slots.{slots, link, kind, position, bits, data_of}
use Rattle.book.specs.Reading.{Edit, adds, cuts, puts, tags, Entry, in_slot, entry_at, linked, follow, entered, entries}
use Rattle.book.specs.Laws.{in_order}
use Rattle.book.proofs.Chains.{Leads, ended_split, ended_more, linked_split, follow_none}

-- ---- a chain of slots in a row

-- so many slots in a row from one on
abbrev pub row : ℕ → ℕ → List ℕ
row slot zero = []
row slot (suc n) = slot ∷ row (slot + 1) n

-- what holds of a book into which a record was put behind the last slot
pub record Linked (old new : List ℕ) (last : ℕ) : Type 0 where
  pub before : (k : ℕ) → k < last → link new k ≡ link old k
  pub at_last : link new last ≡ last + 1
  pub ends : link new (last + 1) ≡ 0
  pub same_slots : slots new ≡ slots old
  pub free : last + 1 < slots old

module _ (old new : List ℕ) (last : ℕ) (g : Linked old new last) where
  -- the chain from a slot on, where n more slots follow it in a row up to the last, gets one slot more
  pub row_grows : (n links slot : ℕ) → follow old links slot ≡ Ok (row (slot + 1) n) → slot + n ≡ last → n < links → follow new links slot ≡ Ok (row (slot + 1) (suc n))
  row_grows n zero slot h e f = absurd (omega arith)
  row_grows zero (suc links) slot h e f =
      let here : slot ≡ last = omega arith in
      let next : link new slot ≡ slot + 1 = ap (link new) here ∙ g.at_last ∙ ap (λ k. k + 1) (sym here) in
      let none : link new (slot + 1) ≡ 0 = ap (λ k. link new (k + 1)) here ∙ g.ends in
      let room = g.free in
      let same = g.same_slots in
      ended_more new slot (linked (link new slot) (follow new links (link new slot))) (λ z. omega arith) (omega arith)
      ∙ ap (λ k. linked k (follow new links k)) next
      ∙ ap (linked (slot + 1)) (follow_none new links (slot + 1) none)
  row_grows (suc n) (suc links) slot h e f =
      ⊎_elim
      (λ (none : (link old slot ≡ 0) × (row (slot + 1) (suc n) ≡ [])). (cc none.1))
      (λ (l : Leads old slot (linked (link old slot) (follow old links (link old slot))) (row (slot + 1) (suc n))).
      let t = linked_split (link old slot) (follow old links (link old slot)) (row (slot + 1) (suc n)) l.goes_on in
      let was : link old slot ≡ slot + 1 = cc t.2 in
      let rest : t.0 ≡ row (slot + 1 + 1) n = cc t.2 in
      let next : link new slot ≡ slot + 1 = g.before slot (omega arith) ∙ was in
      let on : follow old links (slot + 1) ≡ Ok (row (slot + 1 + 1) n) = ap (follow old links) (sym was) ∙ t.1 ∙ ap Ok rest in
      let more = row_grows n links (slot + 1) on (omega arith) (omega arith) in
      let same = g.same_slots in
      let in_old = l.inside in
      ended_more new slot (linked (link new slot) (follow new links (link new slot))) (λ z. omega arith) (omega arith)
      ∙ ap (λ k. linked k (follow new links k)) next
      ∙ ap (linked (slot + 1)) more)
      (ended_split old slot (linked (link old slot) (follow old links (link old slot))) (row (slot + 1) (suc n)) h)

-- ---- the records of a row of slots

-- a record stands in the slot that it was read from
in_data_lem : (slot n : ℕ) (e : Edit) (t : Bool) (x : Entry) → cond t (Err (at 14 slot)) (in_slot slot e) ≡ Ok x → x.slot ≡ slot
in_data_lem slot n e true x h = cc
in_data_lem slot n e false x h = cc

in_slot_lem : (slot : ℕ) (e : Edit) (x : Entry) → in_slot slot e ≡ Ok x → x.slot ≡ slot
in_slot_lem slot e x h = cc

entry_cases : (slot position n : ℕ) (bytes : List ℕ) (a b c d t : Bool) (x : Entry)
    → cond a (cond t (Err (at 14 slot)) (in_slot slot (adds n bytes))) (cond b (in_slot slot (cuts n)) (cond c (cond t (Err (at 14 slot)) (in_slot slot (puts position n bytes))) (cond d (in_slot slot (tags n)) (Err (at 13 slot))))) ≡ Ok x
    → x.slot ≡ slot
entry_cases slot position n bytes true b c d t x h = in_data_lem slot n (adds n bytes) t x h
entry_cases slot position n bytes false true c d t x h = in_slot_lem slot (cuts n) x h
entry_cases slot position n bytes false false true d t x h = in_data_lem slot n (puts position n bytes) t x h
entry_cases slot position n bytes false false false true t x h = in_slot_lem slot (tags n) x h
entry_cases slot position n bytes false false false false t x h = cc

pub entry_slot : (book : List ℕ) (slot : ℕ) (x : Entry) → entry_at book slot ≡ Ok x → x.slot ≡ slot
entry_slot book slot x h =
    entry_cases slot (position book slot) (bits book slot) (data_of book slot (bits book slot)) (eqb (kind book slot) 1) (eqb (kind book slot) 2) (eqb (kind book slot) 3) (eqb (kind book slot) 4) (ltb 160 (bits book slot)) x h

-- records that begin with one
pub entered_first : (a : Result Entry Refusal) (b : Result (List Entry) Refusal) (x : Entry) (xs : List Entry) → entered a b ≡ Ok (x ∷ xs) → (a ≡ Ok x) × (b ≡ Ok xs)
entered_first (Ok y) (Ok ys) x xs h = ((cc), (cc))
entered_first (Ok y) (Err refusal) x xs h = cc
entered_first (Err refusal) b x xs h = cc

pub entered_some : (a : Result Entry Refusal) (b : Result (List Entry) Refusal) → entered a b ≡ Ok [] → ⊥
entered_some (Ok y) (Ok ys) h = cc
entered_some (Ok y) (Err refusal) h = cc
entered_some (Err refusal) b h = cc

-- records in order stand in slots in a row
pub row_of : (book chain : List ℕ) (slot : ℕ) (edits : List Edit) → entries book chain ≡ Ok (in_order slot edits) → chain ≡ row slot (length edits)
row_of book [] slot [] h = refl
row_of book [] slot (e ∷ edits) h = cc
row_of book (s ∷ chain) slot [] h = absurd (entered_some (entry_at book s) (entries book chain) h)
row_of book (s ∷ chain) slot (e ∷ edits) h =
    let p = entered_first (entry_at book s) (entries book chain) (record { slot = slot; edit = e }) (in_order (slot + 1) edits) h in
    let here : slot ≡ s = entry_slot book s (record { slot = slot; edit = e }) p.0 in
    let rest = row_of book chain (slot + 1) edits p.1 in
    (cc)

-- the records of a row of slots, and one more behind the last
pub entries_grow : (old new : List ℕ) (last : ℕ) (x : Edit) → ((k : ℕ) → k ≤ last → entry_at new k ≡ entry_at old k) → entry_at new (last + 1) ≡ Ok (record { slot = last + 1; edit = x })
    → (n slot : ℕ) (edits : List Edit) → entries old (row slot n) ≡ Ok (in_order slot edits) → slot + n ≡ last + 1 → entries new (row slot (suc n)) ≡ Ok (in_order slot (edits ++ (x ∷ [])))
entries_grow old new last x same fresh zero slot [] h e =
    let here : slot ≡ last + 1 = omega arith in
    ap (λ a. entered a (Ok [])) (ap (entry_at new) here ∙ fresh ∙ ap (λ k. Ok (record { slot = k; edit = x })) (sym here))
entries_grow old new last x same fresh zero slot (y ∷ edits) h e = cc
entries_grow old new last x same fresh (suc n) slot [] h e = absurd (entered_some (entry_at old slot) (entries old (row (slot + 1) n)) h)
entries_grow old new last x same fresh (suc n) slot (y ∷ edits) h e =
    let p = entered_first (entry_at old slot) (entries old (row (slot + 1) n)) (record { slot = slot; edit = y }) (in_order (slot + 1) edits) h in
    let more = entries_grow old new last x same fresh n (slot + 1) edits p.1 (omega arith) in
    ap (λ a. entered a (entries new (row (slot + 1) (suc n)))) (same slot (omega arith) ∙ p.0) ∙ ap (entered (Ok (record { slot = slot; edit = y }))) more
