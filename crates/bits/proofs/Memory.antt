-- Blocks of the bits that stand, read from the memory. Assumes nothing.
use Rattle.std.proofs.Common.{◌≡◌, ℕ, ◌+◌, ◌-◌, ◌*◌, ◌<◌, ◌≤◌, cond, List, length, take, drop, sym, ap, ◌∙◌, ap₂, arith, eq-eqb, ne_eqb}
use Rattle.std.proofs.lemmas.List.{length-take-le, length-take, length-drop, take_all, drop-take, take_rest}
use Rattle.block.specs.Bits.{bits_of}
use Rattle.block.specs.Arith.{Arith, Laws, width}
use Rattle.block.specs.BitsLemmas.{length_bits_of, bits_of_part, take_bits_of, drop_bits_of}
use Rattle.bits.specs.Blocks.{blocks, part, last, padded}
use Rattle.bits.specs.Memory.{standing, held, closing}
use Rattle.bits.specs.declared.Last.TheVariants.{Whole, Padded}
use Rattle.bits.proofs.Counts.{blocks_inner, blocks_before, blocks_left}
use Rattle.bits.proofs.Parts.{start_next}

module _ {B : Type 0} (A : Arith B) where
  -- a block of the bits is a block of the bytes
  pub part_held : (memory : List ℕ) (i : ℕ) → 1 ≤ i → i * A.size ≤ length memory → A.pack (part A i (bits_of memory)) ≡ held A memory i
  unfolding part held
  part_held memory i p h =
      let e : (i - 1) * width A ≡ 8 * ((i - 1) * A.size) = omega arith in
      ap (λ z. A.pack (take (width A) (drop z (bits_of memory)))) e
      ∙ ap A.pack (bits_of_part ((i - 1) * A.size) A.size memory (omega (arith, start_next i A.size p)))

  pub read_held : (memory : List ℕ) (i s : ℕ) → s ≡ A.size → A.pack (bits_of (take ((i - 1) * s + s - (i - 1) * s) (drop ((i - 1) * s) memory))) ≡ held A memory i
  unfolding held
  read_held memory i s e =
      let n : (i - 1) * s + s - (i - 1) * s ≡ s = omega arith in
      ap (λ z. A.pack (bits_of (take z (drop ((i - 1) * s) memory)))) n ∙ ap (λ z. A.pack (bits_of (take z (drop ((i - 1) * z) memory)))) e

module _ {B : Type 0} {A : Arith B} (w : Laws A) where
  -- a block before the last lies in the memory
  pub held_inside : (memory : List ℕ) (b i : ℕ) → b ≤ 8 * length memory → 1 ≤ i → i < blocks A b → i * A.size ≤ length memory
  held_inside memory b i h p q = omega (arith, blocks_inner w b i p q)

  module _ (memory : List ℕ) (b : ℕ) (h : b ≤ 8 * length memory) where
    -- the last block lies at the end of the memory's first b bits
    last_standing : last A (standing b memory) ≡ take (b - 8 * ((blocks A b - 1) * A.size)) (bits_of (drop ((blocks A b - 1) * A.size) memory))
    unfolding last part
    last_standing =
        let at = (blocks A b - 1) * A.size in
        let q = b - 8 * at in
        let before = blocks_before w b in
        let left = blocks_left w b in
        let fits : q ≤ width A = omega arith in
        let begins : 8 * at ≤ b = omega arith in
        let long = length_bits_of memory in
        let whole : b ≡ 8 * at + q = omega arith in
        let start : (blocks A b - 1) * width A ≡ 8 * at = omega arith in
        let short : length (take q (drop (8 * at) (bits_of memory))) ≤ width A = simp length-take (omega arith) in
        ap (λ z. take (width A) (drop ((blocks A z - 1) * width A) (standing b memory))) (length-take-le b (bits_of memory) (omega arith))
        ∙ ap₂ (λ z y. take (width A) (drop z (take y (bits_of memory)))) start whole
        ∙ ap (take (width A)) (drop-take (8 * at) q (bits_of memory)) ∙ take_all (width A) (take q (drop (8 * at) (bits_of memory))) short
        ∙ ap (take q) (drop_bits_of at memory (omega arith))

    module _ (at : ℕ) (is : at ≡ (blocks A b - 1) * A.size) (begins : 8 * at ≤ b) (fits : b ≤ 8 * at + width A) where
      the_last : last A (standing b memory) ≡ take (b - 8 * at) (bits_of (drop at memory))
      the_last = last_standing ∙ ap (λ z. take (b - 8 * z) (bits_of (drop z memory))) (sym is)

      long : length (take (b - 8 * at) (bits_of (drop at memory))) ≡ b - 8 * at
      long =
          let e = length_bits_of (drop at memory) in let d = length-drop at memory in
          length-take-le (b - 8 * at) (bits_of (drop at memory)) (omega arith)

      tail : take (length memory - at) (drop at memory) ≡ drop at memory
      tail = take_rest memory at

      -- a short last block, and a whole one
      pub ends_short : (x : B) → b - 8 * at < width A → x ≡ A.pack (padded A (take (b - 8 * at) (bits_of (take (length memory - at) (drop at memory))))) → Padded x ≡ closing A (standing b memory)
      ends_short x short e =
          let k = long in
          let end = last A (standing b memory) in
          ap Padded (e ∙ ap (λ z. A.pack (padded A (take (b - 8 * at) (bits_of z)))) tail ∙ ap (λ z. A.pack (padded A z)) (sym the_last))
          ∙ ap (λ t. cond t (Whole (A.pack end)) (Padded (A.pack (padded A end)))) (sym (ne_eqb (length end) (width A) (λ q. let n = ap length the_last in omega arith)))

      pub ends_whole : (s : ℕ) (x : B) → s ≡ A.size → width A ≤ b - 8 * at → x ≡ A.pack (bits_of (take s (take (length memory - at) (drop at memory)))) → Whole x ≡ closing A (standing b memory)
      ends_whole s x es whole e =
          let k = long in let d = length-drop at memory in
          let end = last A (standing b memory) in
          let n : 8 * A.size ≡ b - 8 * at = omega arith in
          ap Whole
          (e ∙ ap₂ (λ z y. A.pack (bits_of (take z y))) es tail
          ∙ ap A.pack (sym (take_bits_of A.size (drop at memory) (omega arith)) ∙ ap (λ z. take z (bits_of (drop at memory))) n ∙ sym the_last))
          ∙ ap (λ t. cond t (Whole (A.pack end)) (Padded (A.pack (padded A end)))) (sym (eq-eqb (length end) (width A) (ap length the_last ∙ (omega arith))))
