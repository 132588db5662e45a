-- The bits with another block i. Assumes nothing.
use Rattle.std.proofs.Common.{◌≡◌, ℕ, suc, ◌+◌, ◌-◌, ◌*◌, ◌<◌, ◌≤◌, Bool, ◌⊎◌, List, ◌++◌, length, take, drop, sym, ap, ◌∙◌, ap₂, inl, inr, mul-le-mul_right, arith}
use Rattle.std.proofs.lemmas.List.{append_assoc, length-append, length-drop, length-take-le, take_all, take_at, drop_at, take-append-drop, drop-drop}
use Rattle.std.proofs.lemmas.Bool.{cases_lt}
use Rattle.block.specs.Bits.{bits_of}
use Rattle.block.specs.Arith.{Arith, Laws, width, to_bytes}
use Rattle.block.specs.BitsLemmas.{length_bits_of, length_bytes_of, bits_of_bytes_of}
use Rattle.bits.specs.Blocks.{blocks, part}
use Rattle.bits.specs.Memory.{standing, replaced}
use Rattle.bits.proofs.Counts.{blocks_all}
use Rattle.bits.proofs.Parts.{part_front, part_back, start_next}
use Rattle.bits.proofs.Writing.{bytes_pasted}
use Rattle.pmac.specs.Recovery.{placed, PlacesWritten}
use Rattle.pmac.proofs.Edits.{take_of_paste}

module _ {B : Type 0} {A : Arith B} (w : Laws A) (i : ℕ) (v : B) (bs : List Bool) (p : 1 ≤ i) (h : i * width A ≤ length bs) where
  ends : (i - 1) * width A + width A ≡ i * width A
  ends = start_next i (width A) p

  before : length (take ((i - 1) * width A) bs) ≡ (i - 1) * width A
  before = let e = ends in length-take-le ((i - 1) * width A) bs (omega arith)

  pub placed_length : length (placed A i v bs) ≡ length bs
  unfolding placed
  placed_length =
      let e = ends in let f = before in let g = w.long v in let d = length-drop (i * width A) bs in
      let all = length-append (take ((i - 1) * width A) bs) (A.unpack v ++ drop (i * width A) bs) in
      let rest = length-append (A.unpack v) (drop (i * width A) bs) in
      omega arith

  pub placed_front : take ((i - 1) * width A) (placed A i v bs) ≡ take ((i - 1) * width A) bs
  unfolding placed
  placed_front = take_at (take ((i - 1) * width A) bs) (A.unpack v ++ drop (i * width A) bs) ((i - 1) * width A) before

  pub placed_back : drop (i * width A) (placed A i v bs) ≡ drop (i * width A) bs
  unfolding placed
  placed_back =
      let front = take ((i - 1) * width A) bs in
      let long : length (front ++ A.unpack v) ≡ i * width A = length-append front (A.unpack v) ∙ ap₂ ◌+◌ before (w.long v) ∙ ends in
      ap (drop (i * width A)) (sym (append_assoc front (A.unpack v) (drop (i * width A) bs)))
      ∙ drop_at (front ++ A.unpack v) (drop (i * width A) bs) (i * width A) long

  pub placed_part : part A i (placed A i v bs) ≡ A.unpack v
  unfolding placed part
  placed_part =
      ap (take (width A)) (drop_at (take ((i - 1) * width A) bs) (A.unpack v ++ drop (i * width A) bs) ((i - 1) * width A) before)
      ∙ take_at (A.unpack v) (drop (i * width A) bs) (width A) (w.long v)

  -- every other block stays
  pub placed_other : (j : ℕ) → 1 ≤ j → (j < i) ⊎ (i < j) → part A j (placed A i v bs) ≡ part A j bs
  placed_other j q (inl below) =
      let le : j ≤ i - 1 = omega arith in
      part_front A j ((i - 1) * width A) (placed A i v bs) bs q (mul-le-mul_right (width A) le) placed_front
  placed_other j q (inr above) =
      let le : i ≤ j - 1 = omega arith in
      part_back A j (i * width A) (placed A i v bs) bs (mul-le-mul_right (width A) le) placed_back

module _ {B : Type 0} {A : Arith B} (w : Laws A) (i : ℕ) (bs : List Bool) (p : 1 ≤ i) (h : i * width A ≤ length bs) where
  -- placed over another, and placed as it was
  pub placed_twice : (u v : B) → placed A i u (placed A i v bs) ≡ placed A i u bs
  placed_twice u v = unfold placed in ap₂ (λ x y. x ++ (A.unpack u ++ y)) (placed_front w i v bs p h) (placed_back w i v bs p h)

  pub placed_same : placed A i (A.pack (part A i bs)) bs ≡ bs
  unfolding placed part
  placed_same =
      let front = take ((i - 1) * width A) bs in
      let rest = drop ((i - 1) * width A) bs in
      let e = start_next i (width A) p in
      let long : length (take (width A) rest) ≡ width A = length-take-le (width A) rest (let d = length-drop ((i - 1) * width A) bs in omega arith) in
      ap₂ (λ x y. front ++ (x ++ y)) (w.unpack_pack (part A i bs) long) (ap (λ z. drop z bs) (sym e) ∙ sym (drop-drop (width A) ((i - 1) * width A) bs))
      ∙ ap (λ z. front ++ z) (take-append-drop (width A) rest)
      ∙ take-append-drop ((i - 1) * width A) bs

  -- a whole block is no block behind the last
  pub not_past : i ≤ blocks A (length bs)
  not_past = at (cases_lt (blocks A (length bs)) i)
    where
      at : (blocks A (length bs) < i) ⊎ (i ≤ blocks A (length bs)) → i ≤ blocks A (length bs)
      at (inl q) =
          let s = w.some in
          let le : suc (blocks A (length bs)) ≤ i = q in
          omega (arith, mul-le-mul_right (width A) le, blocks_all w (length bs))
      at (inr q) = q

pub places : {B : Type 0} {A : Arith B} → Laws A → PlacesWritten A
unfolding placed replaced
places {A = A} w memory v b i p inside fits =
    let start = (i - 1) * A.size in
    let bytes = to_bytes A v in
    let bs = standing b memory in
    let size = length_bytes_of A.size (A.unpack v) in
    let next = start_next i A.size p in
    let long = length_bits_of memory in
    let at : 8 * start ≡ (i - 1) * width A = omega arith in
    let past : 8 * start + width A ≡ i * width A = omega arith in
    let read : bits_of bytes ≡ A.unpack v = bits_of_bytes_of A.size (A.unpack v) (w.long v) in
    let all : take (width A) (bits_of bytes) ≡ A.unpack v = ap (take (width A)) read ∙ take_all (width A) (A.unpack v) (let l = w.long v in omega arith) in
    ap (take b) (bytes_pasted memory bytes start A.size (omega arith) (omega arith))
    ∙ take_of_paste (bits_of memory) (bits_of bytes) (8 * start) (width A) b (omega arith) (omega arith) (let l = length_bits_of bytes in omega arith)
    ∙ ap₂ (λ x y. take x bs ++ take (width A) (bits_of bytes) ++ drop y bs) at past
    ∙ ap (λ x. take ((i - 1) * width A) bs ++ x ++ drop (i * width A) bs) all
    ∙ append_assoc (take ((i - 1) * width A) bs) (A.unpack v) (drop (i * width A) bs)
