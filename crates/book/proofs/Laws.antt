-- What a writer's calls mean for the records that a book reads as. Assumes nothing.
use Rattle.std.proofs.Common.{◌≡◌, ℕ, ◌+◌, ◌-◌, ◌*◌, ◌/◌, ◌%◌, ◌^◌, ◌<◌, Bool, true, cond, not, ◌&&◌, eqb, leb, List, [], ◌∷◌, ◌++◌, length, get_or, replicate, Ok, Err, Result, sym, refl, ap, ◌∙◌, subst, append_assoc, append-nil, arith, leb-false}
use borrow.Author.Tests.{not-false}
use lib.ListN.{length-replicate}
use Rattle.std.proofs.lemmas.List.{length_push, get_or-replicate}
use Rattle.std.proofs.lemmas.Bool.{cond_both}
use Rattle.engine.specs.Refusals.{Refusal}
use Rattle.book.specs.Refusals.{numbered, at}
use Rattle.book.specs.Slots.{slots, is_book, link}
use Rattle.book.specs.Reading.{Edit, entries, recorded, follow, onwards}
use Rattle.book.specs.Writing.{bits_of, position_of, lacking, overlong, written, After, sent, putting, clearing}
use Rattle.book.specs.Laws.{in_order, kept, Holds, grown, Grows, Empties, put_all, carried, AllWords, ReadsBack}
use Rattle.book.proofs.Chains.{follow_none}
use Rattle.book.proofs.Whole.{reading_is, recorded_split, book_slots}
use Rattle.book.proofs.Written.{Room, length_written, link_before, link_last, link_new, entry_before, entry_new}
use Rattle.book.proofs.Grown.{row, Linked, row_grows, row_of, entries_grow}

-- bytes of the same length are a book as well
still_book : (a b : List ℕ) → length a ≡ length b → is_book a ≡ is_book b
still_book a b l = ap (λ n. eqb (n % 32) 0 && (leb 1 (n / 32) && leb (n / 32) 2048)) l

-- ---- a put that is carried out

holds_written : (book : List ℕ) (last : ℕ) (e : Edit) (edits : List Edit) → is_book book ≡ true → Room book last e → Holds book last edits → Holds (written book last e) (last + 1) (edits ++ (kept e ∷ []))
holds_written book last e edits b r h =
    let new = written book last e in
    let n = length edits in
    let c = h.count in
    let f = r.free in
    let t = recorded_split book (onwards book 0) (in_order 1 edits) (sym (reading_is book b) ∙ h.reads) in
    let old : t.0 ≡ row 1 n = row_of book t.0 1 edits t.2 in
    let same_slots : slots new ≡ slots book = ap (λ k. k / 32) (length_written book last e r) in
    let g : Linked book new last = record { before = link_before book last e r; at_last = link_last book last e r; ends = link_new book last e r; same_slots = same_slots; free = r.free } in
    let grown = row_grows book new last g n (slots book - 1) 0 (t.1 ∙ ap Ok old) (omega arith) (omega arith) in
    let all = entries_grow book new last (kept e) (entry_before book last e r) (entry_new book last e r) n 1 edits (ap (entries book) (sym old) ∙ t.2) (omega arith) in
    record {
      reads =
          reading_is new (still_book new book (length_written book last e r) ∙ b)
          ∙ ap (λ k. recorded new (follow new (k - 1) 0)) same_slots
          ∙ ap (recorded new) grown ∙ all;
      count = length_push edits (kept e) ∙ ap (λ k. k + 1) c;
    }

pub put_law : (book : List ℕ) (last : ℕ) (e : Edit) (a : After) → bits_of e < 2 ^ 32 → position_of e < 2 ^ 32 → a ≡ putting book last e → Grows book last e a
put_law book last e a small_bits small_position is =
    let P : After → Type 0 = λ x. Grows book last e x in
    let done : After = record { outcome = Ok tt; last = last + 1; book = written book last e } in
    let full = cond (leb (slots book) (last + 1)) (sent book last (numbered 18)) done in
    let long = cond (overlong e) (sent book last (at 14 (last + 1))) full in
    let no_book = cond (not (is_book book)) (sent book last (numbered 10)) long in
    subst P (sym is)
    (cond_both (lacking e) (sent book last (numbered 3)) no_book P (λ _ edits h. h)
    (λ offered. cond_both (not (is_book book)) (sent book last (numbered 10)) long P (λ _ edits h. h)
    (λ b. cond_both (overlong e) (sent book last (at 14 (last + 1))) full P (λ _ edits h. h)
    (λ short. cond_both (leb (slots book) (last + 1)) (sent book last (numbered 18)) done P (λ _ edits h. h)
    (λ free edits h.
    let most = (book_slots book (not-false (is_book book) b)).1 in
    let room = leb-false (slots book) (last + 1) free in
    holds_written book last e edits (not-false (is_book book) b)
    (record { free = room; offered = offered; short = short; small_bits = small_bits; small_position = small_position; few = omega arith })
    h)))))

-- ---- a clear that is carried out

holds_none : (n : ℕ) → is_book (replicate n 0) ≡ true → Holds (replicate n 0) 0 []
holds_none n b =
    let some = (book_slots (replicate n 0) b).0 in
    let l : length (replicate {A = ℕ} n 0) ≡ n = length-replicate n 0 in
    let first : get_or {A = ℕ} (replicate n 0) (0 * 32) 0 ≡ 0 = get_or-replicate n 0 0 0 (omega arith) in
    let second : get_or {A = ℕ} (replicate n 0) (0 * 32 + 1) 0 ≡ 0 = get_or-replicate n 1 0 0 (omega arith) in
    let none : link (replicate n 0) 0 ≡ 0 = omega arith in
    record { reads = reading_is (replicate n 0) b ∙ ap (recorded (replicate n 0)) (follow_none (replicate n 0) (slots (replicate n 0) - 1) 0 none); count = refl }

pub clear_law : (book : List ℕ) (a : After) → a ≡ clearing book → Empties a
clear_law book a is =
    let P : After → Type 0 = λ x. Empties x in
    let done : After = record { outcome = Ok tt; last = 0; book = replicate (length book) 0 } in
    subst P (sym is)
    (cond_both (is_book book) done (sent book 0 (numbered 10)) P
    (λ b _. holds_none (length book) (still_book (replicate (length book) 0) book (length-replicate (length book) 0) ∙ b))
    (λ _ h. (cc)))

-- ---- any list of edits

abbrev cleared : Bool → List ℕ → After
cleared t book = cond t (record { outcome = Ok tt; last = 0; book = replicate (length book) 0 }) (sent book 0 (numbered 10))

grown_behind : (o : Result (Unit {0}) Refusal) (held : List Edit) (e : Edit) (more : List Edit) → grown o held e ++ more ≡ held ++ (grown o [] e ++ more)
grown_behind (Ok u) held e more = append_assoc held (kept e ∷ []) more
grown_behind (Err refusal) held e more = refl

all_hold : (a : After) (held edits : List Edit) → Holds a.book a.last held → AllWords edits → Holds (put_all a edits).book (put_all a edits).last (held ++ carried a edits)
all_hold a held [] h w = let P : List Edit → Type 0 = λ x. Holds a.book a.last x in subst P (sym (append-nil held)) h
all_hold a held (e ∷ edits) h w =
    let b = putting a.book a.last e in
    let one = put_law a.book a.last e b w.0.1 w.0.0 refl held h in
    let P : List Edit → Type 0 = λ x. Holds (put_all b edits).book (put_all b edits).last x in
    subst P (grown_behind b.outcome held e (carried b edits)) (all_hold b (grown b.outcome held e) edits one w.1)

pub reads_back : ReadsBack
reads_back book edits b w =
    let done : (clearing book).outcome ≡ Ok tt = ap (λ t. (cleared t book).outcome) b in
    all_hold (clearing book) [] edits (clear_law book (clearing book) refl done) w
