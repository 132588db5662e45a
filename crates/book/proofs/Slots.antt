-- The slots of a book, each as 32 bytes of its own, and the record that they say. Assumes nothing.
use Rattle.std.proofs.Common.{◌≡◌, ℕ, zero, suc, ◌+◌, ◌*◌, ◌<◌, ◌≤◌, List, [], get_or, take, drop, Err, sym, refl, ap, ◌∙◌, ⊎_elim, ne_eqb, lt-ltb, arith}
use Rattle.std.proofs.lemmas.List.{get_or-take, get_or-drop, drop-take, take-take, drop-drop}
use Rattle.std.proofs.lemmas.Bool.{cases_lt}
use Rattle.std.specs.Simd.{first_chunks}
use Rattle.book.specs.declared.kind.Kind.{Kind}
use Rattle.book.specs.declared.kind.Kind.TheVariants.{Add, Cut, Put, Tag}
use Rattle.book.specs.declared.slot.Slot.{Slot}
use Rattle.book.specs.Kinds.{kind_number}
use Rattle.book.specs.Refusals.{at}
use Rattle.book.specs.Slots.{kind, position, bits, bytes_for, data_of}
use Rattle.book.specs.Reading.{entry_of, entry_at}
use Rattle.book.specs.Tests.{IsSlot}
use Rattle.book.specs.Views.{slot_entry}

pub chunk_at : (k i : ℕ) (xs : List ℕ) → i < k → get_or (first_chunks 32 k xs) i [] ≡ take 32 (drop (i * 32) xs)
chunk_at zero i xs h = absurd (omega arith)
chunk_at (suc k) zero xs h = refl
chunk_at (suc k) (suc i) xs h =
    let next : 32 + i * 32 ≡ suc i * 32 = omega arith in
    chunk_at k i (drop 32 xs) (omega arith) ∙ ap (take 32) (drop-drop (i * 32) 32 xs ∙ ap (λ n. drop n xs) next)

-- the data of a record that has more bits than a slot do not count
pub data_counts : (slot kind position n : ℕ) (d f : List ℕ) → (n ≤ 160 → d ≡ f) → entry_of slot kind position n d ≡ entry_of slot kind position n f
data_counts slot kind position n d f same =
    ⊎_elim (λ (h : 160 < n). let t = lt-ltb 160 n h in rw t) (λ (h : n ≤ 160). ap (entry_of slot kind position n) (same h)) (cases_lt 160 n)

-- a byte that stands for no kind is refused
pub no_kind : (slot k position n : ℕ) (d : List ℕ) → ((kind : Kind) → kind_number kind ≡ k → ⊥) → Err (at 13 slot) ≡ entry_of slot k position n d
no_kind slot k position n d h =
    let add = ne_eqb k 1 (λ e. h Add (sym e)) in
    let cut = ne_eqb k 2 (λ e. h Cut (sym e)) in
    let put = ne_eqb k 3 (λ e. h Put (sym e)) in
    let tag = ne_eqb k 4 (λ e. h Tag (sym e)) in rw (add, cut, put, tag)

-- a byte of a slot, and the same byte in the book
byte_in : (book : List ℕ) (slot i j : ℕ) → i ≡ slot * 32 + j → j < 32 → get_or (take 32 (drop (slot * 32) book)) j 0 ≡ get_or book i 0
byte_in book slot i j e h =
    get_or-take 32 (drop (slot * 32) book) j 0 h ∙ get_or-drop (slot * 32) book j 0 ∙ ap (λ k. get_or book k 0) (sym e)

-- of a slot's twenty data bytes, those that no more than 160 bits need
pub data_part : (n : ℕ) (bytes : List ℕ) → n ≤ 160 → take (bytes_for n) (take 20 (drop 12 bytes)) ≡ data_of bytes 0 n
data_part n bytes h = take-take (bytes_for n) 20 (drop 12 bytes) (omega arith)

data_in : (book : List ℕ) (slot n : ℕ) → n ≤ 160 → data_of (take 32 (drop (slot * 32) book)) 0 n ≡ data_of book slot n
data_in book slot n h =
    ap (take (bytes_for n)) (drop-take 12 20 (drop (slot * 32) book))
    ∙ data_part n (drop (slot * 32) book) h
    ∙ ap (take (bytes_for n)) (drop-drop 12 (slot * 32) book)

fields_in : (book : List ℕ) (slot : ℕ) → let b = take 32 (drop (slot * 32) book) in entry_of slot (kind b 0) (position b 0) (bits b 0) (data_of b 0 (bits b 0)) ≡ entry_at book slot
fields_in book slot =
    let b = take 32 (drop (slot * 32) book) in
    let at = byte_in book slot in
    let k : kind b 0 ≡ kind book slot = at (slot * 32 + 2) 2 (omega arith) (omega arith) in
    let p0 = at (slot * 32 + 4) 4 (omega arith) (omega arith) in
    let p1 = at (slot * 32 + 4 + 1) 5 (omega arith) (omega arith) in
    let p2 = at (slot * 32 + 4 + 2) 6 (omega arith) (omega arith) in
    let p3 = at (slot * 32 + 4 + 3) 7 (omega arith) (omega arith) in
    let p : position b 0 ≡ position book slot = cc in
    let n0 = at (slot * 32 + 8) 8 (omega arith) (omega arith) in
    let n1 = at (slot * 32 + 8 + 1) 9 (omega arith) (omega arith) in
    let n2 = at (slot * 32 + 8 + 2) 10 (omega arith) (omega arith) in
    let n3 = at (slot * 32 + 8 + 3) 11 (omega arith) (omega arith) in
    let n : bits b 0 ≡ bits book slot = cc in
    ap (λ x. entry_of slot x (position b 0) (bits b 0) (data_of b 0 (bits b 0))) k
    ∙ ap (λ x. entry_of slot (kind book slot) x (bits b 0) (data_of b 0 (bits b 0))) p
    ∙ ap (λ x. entry_of slot (kind book slot) (position book slot) x (data_of b 0 x)) n
    ∙ data_counts slot (kind book slot) (position book slot) (bits book slot) (data_of b 0 (bits book slot)) (data_of book slot (bits book slot)) (data_in book slot (bits book slot))

-- a slot's record is the one that the book has there
pub slot_reads : (book : List ℕ) (n : ℕ) (s : Slot) → IsSlot book n s → slot_entry s ≡ entry_at book n
slot_reads book n s is =
    ap (λ k. entry_of k (kind s.bytes.now 0) (position s.bytes.now 0) (bits s.bytes.now 0) (data_of s.bytes.now 0 (bits s.bytes.now 0))) is.number
    ∙ ap (λ b. entry_of n (kind b 0) (position b 0) (bits b 0) (data_of b 0 (bits b 0))) is.bytes
    ∙ fields_in book n
