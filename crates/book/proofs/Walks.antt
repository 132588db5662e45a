-- Walks: the records behind a slot, one step on. Assumes nothing.
use Rattle.std.proofs.Common.{◌≡◌, ℕ, ◌-◌, ◌<◌, true, List, [], ◌∷◌, length, IfSome, is_ok, Some, None, Ok, Err, Option, Result, sym, refl, ap, ◌∙◌, subst, arith}
use Rattle.std.specs.Result.{result_ok}
use Rattle.engine.specs.Refusals.{Refusal}
use Rattle.book.specs.declared.fault.BookFault.{BookFault}
use Rattle.book.specs.declared.links.Links.{Links}
use Rattle.book.specs.declared.slot.Slot.{Slot}
use Rattle.book.specs.declared.«record».Record.{Record}
use Rattle.book.specs.Slots.{slots}
use Rattle.book.specs.Reading.{Entry, entry_at, onwards, entered, entries, recorded, behind}
use Rattle.book.specs.Views.{slot_entry, slots_in, looked, listed, entry, Led, Gave}
use Rattle.book.specs.Refusals.{book_refusal}
use Rattle.book.specs.Tests.{follower}
use Rattle.book.proofs.Slots.{slot_reads}
use Rattle.book.proofs.Chains.{verdict, follow_none, follower_none, goes_on}

pub behind_none : (book : List ℕ) (slot : ℕ) → follower book slot ≡ None → behind book slot ≡ Ok []
behind_none book slot e = ap (recorded book) (follow_none book (slots book - 1) slot (follower_none book slot e))

-- records that begin with one
entered_split : (a : Result Entry Refusal) (b : Result (List Entry) Refusal) → is_ok (entered a b) ≡ true → (first : Entry) × (rest : List Entry) × (a ≡ Ok first) × (b ≡ Ok rest)
entered_split (Ok first) (Ok rest) h = (first, rest, refl, refl)
entered_split (Ok first) (Err refusal) h = cc
entered_split (Err refusal) b h = cc

-- ---- one step along a chain that ends

pub record Look (book : List ℕ) (slot next : ℕ) : Type 0 where
  pub inside : next < slots book
  pub sound : is_ok (onwards book next) ≡ true
  pub fewer : length (slots_in (onwards book next)) < length (slots_in (onwards book slot))
  pub behind_is : behind book slot ≡ entered (entry_at book next) (behind book next)

found : (book : List ℕ) (slot next : ℕ) (chain : List ℕ) → onwards book slot ≡ Ok chain → follower book slot ≡ Some next → Look book slot next
found book slot next chain h e =
    let n = goes_on book (slots book - 1) slot next chain h e in
    let a = ap (λ c. length (slots_in c)) h in
    let b = ap length n.chain_is in
    let d = ap (λ c. length (slots_in c)) n.rest_is in
    record {
      inside = n.inside;
      sound = ap is_ok n.rest_is;
      fewer = omega arith;
      behind_is =
          ap (recorded book) h ∙ ap (entries book) n.chain_is ∙ sym (ap (λ c. entered (entry_at book next) (recorded book c)) n.rest_is);
    }

followed : (book : List ℕ) (slot next : ℕ) (c : Result (List ℕ) Refusal) → onwards book slot ≡ c → is_ok c ≡ true → follower book slot ≡ Some next → Look book slot next
followed book slot next (Ok chain) h o e = found book slot next chain h e
followed book slot next (Err refusal) h o e = cc

pub look_on : (book : List ℕ) (slot next : ℕ) → is_ok (onwards book slot) ≡ true → follower book slot ≡ Some next → Look book slot next
look_on book slot next o e = followed book slot next (onwards book slot) refl o e

look_right : (r : Record) (a : Result Entry Refusal) (b : Result (List Entry) Refusal) → looked (Ok r) ≡ a → verdict b ≡ verdict (entered a b)
look_right r (Ok first) (Ok rest) h = refl
look_right r (Ok first) (Err refusal) h = refl
look_right r (Err refusal) b h = cc

-- a record that is not refused: those behind it say whether any is
pub passed : (before after : Links) (slot : Slot) → Led before (Some slot) after → (r : Record) → looked (Ok r) ≡ slot_entry slot
    → verdict (behind before.book.bytes.now after.slot) ≡ verdict (behind before.book.bytes.now before.slot)
passed before after slot led r e =
    let book = before.book.bytes.now in
    look_right r (entry_at book after.slot) (behind book after.slot) (e ∙ slot_reads book after.slot slot led.2)
    ∙ ap verdict (sym (look_on book before.slot after.slot before.ends led.0).behind_is)

-- a record that is refused
pub refused : (before after : Links) (slot : Slot) → Led before (Some slot) after → (f : BookFault) → looked (Err f) ≡ slot_entry slot → verdict (behind before.book.bytes.now before.slot) ≡ Err (book_refusal f)
refused before after slot led f e =
    let book = before.book.bytes.now in
    ap verdict (look_on book before.slot after.slot before.ends led.0).behind_is
    ∙ ap (λ a. verdict (entered a (behind book after.slot))) (sym (e ∙ slot_reads book after.slot slot led.2))

-- ---- what a step of a walk gives

-- what is known of a slot from which a walk goes on to the next
pub record Onward (book : List ℕ) (slot next : ℕ) : Type 0 where
  pub first : Entry
  pub rest : List Entry
  pub first_is : entry_at book next ≡ Ok first
  pub rest_is : behind book next ≡ Ok rest
  pub all_is : behind book slot ≡ Ok (first ∷ rest)

pub onward : (book : List ℕ) (slot next : ℕ) → is_ok (behind book slot) ≡ true → behind book slot ≡ entered (entry_at book next) (behind book next) → Onward book slot next
onward book slot next h e =
    let p = entered_split (entry_at book next) (behind book next) (sym (ap is_ok e) ∙ h) in
    record {
      first = p.0;
      rest = p.1;
      first_is = p.2;
      rest_is = p.3;
      all_is = e ∙ ap (λ a. entered a (behind book next)) p.2 ∙ ap (entered (Ok p.0)) p.3;
    }

-- the records behind a slot stay right along a step
pub still_sound : (before : Links) (o : Option Slot) (after : Links) → Led before o after → is_ok (behind before.book.bytes.now before.slot) ≡ true → is_ok (behind after.book.bytes.now after.slot) ≡ true
still_sound before None after led h = ap (λ b. is_ok (behind b after.slot)) led.1 ∙ ap (λ s. is_ok (behind before.book.bytes.now s)) led.2 ∙ h
still_sound before (Some slot) after led h =
    let book = before.book.bytes.now in
    let look = look_on book before.slot after.slot before.ends led.0 in
    ap (λ b. is_ok (behind b after.slot)) led.1 ∙ ap is_ok (onward book before.slot after.slot h look.behind_is).rest_is

pub gave : (book : List ℕ) (slot next : ℕ) → Onward book slot next → (r : Result Record BookFault) → looked r ≡ entry_at book next
    → Gave (listed (behind book slot)) (result_ok r) (listed (behind book next))
gave book slot next o (Ok x) e =
    let f : entry x ≡ o.first = cc (o.first_is, e) in ap listed o.all_is ∙ (cc (f, ap listed o.rest_is))
gave book slot next o (Err fault) e = cc (o.first_is, e)

pub walked : (before after : Links) (slot : Slot) → Led before (Some slot) after → is_ok (behind before.book.bytes.now before.slot) ≡ true → (r : Result Record BookFault) → looked r ≡ slot_entry slot
    → Gave (listed (behind before.book.bytes.now before.slot)) (result_ok r) (listed (behind after.book.bytes.now after.slot))
walked before after slot led h r e =
    let book = before.book.bytes.now in
    let look = look_on book before.slot after.slot before.ends led.0 in
    let o = onward book before.slot after.slot h look.behind_is in
    let P : List ℕ → Type 0 = λ b. Gave (listed (behind book before.slot)) (result_ok r) (listed (behind b after.slot)) in
    subst P (sym led.1) (gave book before.slot after.slot o r (e ∙ slot_reads book after.slot slot led.2))

pub shorter : (before after : List Entry) (o : Option Record) → Gave before o after → IfSome o (λ _. Unit {0} × Unit {0} × (length after < length before))
shorter before after None g = tt
shorter before after (Some x) g = (tt, tt, let e = ap length g in omega arith)
