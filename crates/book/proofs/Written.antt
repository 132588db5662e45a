-- A book into which a record was put: what its slots say. Assumes nothing.
use Rattle.std.proofs.Common.{◌≡◌, ℕ, ◌+◌, ◌-◌, ◌*◌, ◌/◌, ◌%◌, ◌^◌, ◌<◌, ◌≤◌, false, List, ◌∷◌, ◌++◌, length, get_or, take, drop, replicate, Ok, sym, refl, ap, ◌∙◌, ⊎_elim, arith, ltb-false}
use native.Mathlib.Nat.{div-div-eq-div-mul}
use lib.Seq.{paste}
use Rattle.std.proofs.lemmas.List.{get_or_append_left, get_or-append-add, get_or-take, get_or-drop, length-take, length-drop, length-take-le, ext_get_or}
use Rattle.std.proofs.lemmas.List.Edits.{length-paste}
use Rattle.std.proofs.lemmas.Bool.{cases_lt}
use Rattle.book.specs.Slots.{slots, link, kind, position, bits, bytes_for, data_of}
use Rattle.book.specs.Reading.{Edit, adds, cuts, puts, tags, entry_of, entry_at}
use Rattle.book.specs.Writing.{kind_of, position_of, bits_of, lacking, overlong, half_bytes, word_bytes, slot_bytes, written}
use Rattle.book.specs.Writing as writing
use Rattle.book.specs.Laws.{kept}
use Rattle.book.proofs.Slots.{data_counts}
use Rattle.book.proofs.Pastes.{paste_below, paste_inside, paste_above}
use Rattle.book.proofs.Laid.{length_slot, length_data}

-- ---- parts and records that agree

part_same : (a b : List ℕ) (k n : ℕ) → k + n ≤ length b → length a ≡ length b → ((i : ℕ) → k ≤ i → i < k + n → get_or a i 0 ≡ get_or b i 0) → take n (drop k a) ≡ take n (drop k b)
part_same a b k n h l same =
    let la : length (take n (drop k a)) ≡ n = simp (length-take, length-drop) (omega arith) in
    let lb : length (take n (drop k b)) ≡ n = simp (length-take, length-drop) (omega arith) in
    ext_get_or 0 (take n (drop k a)) (take n (drop k b)) (la ∙ sym lb)
    (λ i t.
    let u : i < n = omega arith in
    get_or-take n (drop k a) i 0 u ∙ get_or-drop k a i 0 ∙ same (k + i) (omega arith) (omega arith) ∙ sym (get_or-drop k b i 0) ∙ sym (get_or-take n (drop k b) i 0 u))

-- a record with these fields is the edit as it is kept
entry_kept : (slot : ℕ) (e : Edit) (d : List ℕ) → overlong e ≡ false → (bytes_for (bits_of e) ≡ length (writing.data_of e) → d ≡ writing.data_of e) → lacking e ≡ false
    → entry_of slot (kind_of e) (position_of e) (bits_of e) d ≡ Ok (record { slot = slot; edit = kept e })
entry_kept slot (adds n bytes) d h same o =
    let l = ltb-false (8 * length bytes) n o in
    let k : bytes_for n ≡ length (take (bytes_for n) bytes) = sym (length-take-le (bytes_for n) bytes (omega arith)) in
    rw h (ap (λ x. Ok (record { slot = slot; edit = adds n x })) (same k))
entry_kept slot (cuts n) d h same o = refl
entry_kept slot (puts position n bytes) d h same o =
    let l = ltb-false (8 * length bytes) n o in
    let k : bytes_for n ≡ length (take (bytes_for n) bytes) = sym (length-take-le (bytes_for n) bytes (omega arith)) in
    rw h (ap (λ x. Ok (record { slot = slot; edit = puts position n x })) (same k))
entry_kept slot (tags n) d h same o = refl

-- four bytes of a number read back
word_back : (v : ℕ) → v < 2 ^ 32 → ((v / 16777216 % 256 * 256 + v / 65536 % 256) * 256 + v / 256 % 256) * 256 + v % 256 ≡ v
word_back v h =
    let a = div-div-eq-div-mul v 256 256 in
    let b = div-div-eq-div-mul v 65536 256 in
    let c = div-div-eq-div-mul v 16777216 256 in omega arith

-- ---- where a byte of the new book comes from

-- a record can be put into the slot behind the last one
pub record Room (book : List ℕ) (last : ℕ) (e : Edit) : Type 0 where
  pub free : last + 1 < slots book
  pub offered : lacking e ≡ false
  pub short : overlong e ≡ false
  pub small_bits : bits_of e < 2 ^ 32
  pub small_position : position_of e < 2 ^ 32
  pub few : last < 2048

module _ (book : List ℕ) (last : ℕ) (e : Edit) (r : Room book last e) where
  abbrev slotted : List ℕ
  slotted = paste book ((last + 1) * 32) (slot_bytes e) 32

  whole : (last + 1) * 32 + 32 ≤ length book
  whole = let f = r.free in omega arith

  width : 32 ≤ length (slot_bytes e)
  width = let l = length_slot e r.short in omega arith

  length_slotted : length slotted ≡ length book
  length_slotted = length-paste book ((last + 1) * 32) (slot_bytes e) 32 whole width

  pub length_written : length (written book last e) ≡ length book
  length_written = let w = whole in let l = length_slotted in length-paste slotted (last * 32) (half_bytes (last + 1)) 2 (omega arith) (omega arith) ∙ length_slotted

  -- bytes before the last slot, and its bytes behind the link, stay
  byte_before : (i : ℕ) → i < last * 32 → get_or (written book last e) i 0 ≡ get_or book i 0
  byte_before i h =
      let w = whole in
      let l = length_slotted in
      paste_below slotted (last * 32) (half_bytes (last + 1)) 2 i (omega arith) (omega arith) h
      ∙ paste_below book ((last + 1) * 32) (slot_bytes e) 32 i (omega arith) width (omega arith)

  byte_in : (i : ℕ) → last * 32 + 2 ≤ i → i < (last + 1) * 32 → get_or (written book last e) i 0 ≡ get_or book i 0
  byte_in i h k =
      let w = whole in
      let l = length_slotted in
      paste_above slotted (last * 32) (half_bytes (last + 1)) 2 i (omega arith) (omega arith) h
      ∙ paste_below book ((last + 1) * 32) (slot_bytes e) 32 i (omega arith) width k

  byte_linked : (j : ℕ) → j < 2 → get_or (written book last e) (last * 32 + j) 0 ≡ get_or (half_bytes (last + 1)) j 0
  byte_linked j h =
      let w = whole in
      let l = length_slotted in
      paste_inside slotted (last * 32) (half_bytes (last + 1)) 2 j (omega arith) (omega arith) h

  byte_new : (j : ℕ) → j < 32 → get_or (written book last e) ((last + 1) * 32 + j) 0 ≡ get_or (slot_bytes e) j 0
  byte_new j h =
      let w = whole in
      let l = length_slotted in
      paste_above slotted (last * 32) (half_bytes (last + 1)) 2 ((last + 1) * 32 + j) (omega arith) (omega arith) (omega arith)
      ∙ paste_inside book ((last + 1) * 32) (slot_bytes e) 32 j (omega arith) width h

  -- ---- links

  pub link_before : (k : ℕ) → k < last → link (written book last e) k ≡ link book k
  link_before k h =
      let a = byte_before (k * 32) (omega arith) in let b = byte_before (k * 32 + 1) (omega arith) in (cc)

  pub link_last : link (written book last e) last ≡ last + 1
  link_last =
      let a = byte_linked 0 (omega arith) in
      let b = byte_linked 1 (omega arith) in
      let z : last * 32 + 0 ≡ last * 32 = omega arith in
      let a' : get_or (written book last e) (last * 32) 0 ≡ (last + 1) / 256 % 256 = ap (λ i. get_or (written book last e) i 0) (sym z) ∙ a in
      let f = r.few in
      omega arith

  pub link_new : link (written book last e) (last + 1) ≡ 0
  link_new =
      let a = byte_new 0 (omega arith) in
      let b = byte_new 1 (omega arith) in
      let z : (last + 1) * 32 + 0 ≡ (last + 1) * 32 = omega arith in
      let a' : get_or (written book last e) ((last + 1) * 32) 0 ≡ 0 = ap (λ i. get_or (written book last e) i 0) (sym z) ∙ a in
      omega arith

  -- ---- records

  byte_kept : (slot i : ℕ) → slot ≤ last → slot * 32 + 2 ≤ i → i < slot * 32 + 32 → get_or (written book last e) i 0 ≡ get_or book i 0
  byte_kept slot i h l u =
      ⊎_elim (λ (k : slot < last). byte_before i (omega arith)) (λ (k : last ≤ slot). byte_in i (omega arith) (omega arith)) (cases_lt slot last)

  pub entry_before : (slot : ℕ) → slot ≤ last → entry_at (written book last e) slot ≡ entry_at book slot
  entry_before slot h =
      let b = written book last e in
      let w = whole in
      let at : (i : ℕ) → slot * 32 + 2 ≤ i → i < slot * 32 + 32 → get_or b i 0 ≡ get_or book i 0 = λ i l u. byte_kept slot i h l u in
      let k : kind b slot ≡ kind book slot = at (slot * 32 + 2) (omega arith) (omega arith) in
      let p0 = at (slot * 32 + 4) (omega arith) (omega arith) in
      let p1 = at (slot * 32 + 4 + 1) (omega arith) (omega arith) in
      let p2 = at (slot * 32 + 4 + 2) (omega arith) (omega arith) in
      let p3 = at (slot * 32 + 4 + 3) (omega arith) (omega arith) in
      let p : position b slot ≡ position book slot = cc in
      let n0 = at (slot * 32 + 8) (omega arith) (omega arith) in
      let n1 = at (slot * 32 + 8 + 1) (omega arith) (omega arith) in
      let n2 = at (slot * 32 + 8 + 2) (omega arith) (omega arith) in
      let n3 = at (slot * 32 + 8 + 3) (omega arith) (omega arith) in
      let n : bits b slot ≡ bits book slot = cc in
      let d : bits book slot ≤ 160 → data_of b slot (bits book slot) ≡ data_of book slot (bits book slot) =
      λ s. part_same b book (slot * 32 + 12) (bytes_for (bits book slot)) (omega arith) length_written (λ i l u. at i (omega arith) (omega arith)) in
      ap (λ x. entry_of slot x (position b slot) (bits b slot) (data_of b slot (bits b slot))) k
      ∙ ap (λ x. entry_of slot (kind book slot) x (bits b slot) (data_of b slot (bits b slot))) p
      ∙ ap (λ x. entry_of slot (kind book slot) (position book slot) x (data_of b slot x)) n
      ∙ data_counts slot (kind book slot) (position book slot) (bits book slot) (data_of b slot (bits book slot)) (data_of book slot (bits book slot)) d

  byte_field : (i j : ℕ) → i ≡ (last + 1) * 32 + j → j < 32 → get_or (written book last e) i 0 ≡ get_or (slot_bytes e) j 0
  byte_field i j h k = ap (λ x. get_or (written book last e) x 0) h ∙ byte_new j k

  -- the twelve bytes before the data
  abbrev fields : List ℕ
  fields = 0 ∷ 0 ∷ kind_of e ∷ 0 ∷ (word_bytes (position_of e) ++ word_bytes (bits_of e))

  byte_data : (i : ℕ) → i < length (writing.data_of e) → get_or (written book last e) ((last + 1) * 32 + 12 + i) 0 ≡ get_or (writing.data_of e) i 0
  byte_data i h =
      let m = length_data e r.short in
      byte_field ((last + 1) * 32 + 12 + i) (12 + i) (omega arith) (omega arith)
      ∙ get_or-append-add fields (writing.data_of e ++ replicate (20 - length (writing.data_of e)) 0) i 0
      ∙ get_or_append_left (writing.data_of e) (replicate (20 - length (writing.data_of e)) 0) 0 i h

  data_new : bytes_for (bits_of e) ≡ length (writing.data_of e) → data_of (written book last e) (last + 1) (bits_of e) ≡ writing.data_of e
  data_new h =
      let b = written book last e in
      let w = whole in
      let lw = length_written in
      let m = length_data e r.short in
      let k = (last + 1) * 32 + 12 in
      let n = bytes_for (bits_of e) in
      let l : length (take n (drop k b)) ≡ n = simp (length-take, length-drop) (omega arith) in
      ext_get_or 0 (take n (drop k b)) (writing.data_of e) (l ∙ h)
      (λ i t. let u : i < n = omega arith in get_or-take n (drop k b) i 0 u ∙ get_or-drop k b i 0 ∙ byte_data i (omega arith))

  pub entry_new : entry_at (written book last e) (last + 1) ≡ Ok (record { slot = last + 1; edit = kept e })
  entry_new =
      let b = written book last e in
      let base = (last + 1) * 32 in
      let k : kind b (last + 1) ≡ kind_of e = byte_field (base + 2) 2 refl (omega arith) in
      let p0 = byte_field (base + 4) 4 refl (omega arith) in
      let p1 = byte_field (base + 4 + 1) 5 (omega arith) (omega arith) in
      let p2 = byte_field (base + 4 + 2) 6 (omega arith) (omega arith) in
      let p3 = byte_field (base + 4 + 3) 7 (omega arith) (omega arith) in
      let pb = word_back (position_of e) r.small_position in
      let p : position b (last + 1) ≡ position_of e = cc in
      let n0 = byte_field (base + 8) 8 refl (omega arith) in
      let n1 = byte_field (base + 8 + 1) 9 (omega arith) (omega arith) in
      let n2 = byte_field (base + 8 + 2) 10 (omega arith) (omega arith) in
      let n3 = byte_field (base + 8 + 3) 11 (omega arith) (omega arith) in
      let nb = word_back (bits_of e) r.small_bits in
      let n : bits b (last + 1) ≡ bits_of e = cc in
      ap (λ x. entry_of (last + 1) x (position b (last + 1)) (bits b (last + 1)) (data_of b (last + 1) (bits b (last + 1)))) k
      ∙ ap (λ x. entry_of (last + 1) (kind_of e) x (bits b (last + 1)) (data_of b (last + 1) (bits b (last + 1)))) p
      ∙ ap (λ x. entry_of (last + 1) (kind_of e) (position_of e) x (data_of b (last + 1) x)) n
      ∙ entry_kept (last + 1) e (data_of b (last + 1) (bits_of e)) r.short data_new r.offered
