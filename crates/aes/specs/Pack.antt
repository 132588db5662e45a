-- Words of 32 bits as columns. Assumes nothing.
use Rattle.std.specs.Prelude.{◌≡◌, ℕ, ◌+◌, ◌*◌, ◌/◌, ◌%◌, ◌^◌, ◌<◌}
use lib.Bits.{bit_xor, bit_or, or_shifted}
use Rattle.std.proofs.Common.{sym, ap, ap₂, subst, ◌∙◌, arith}
use Rattle.std.specs.Int.Bits.{xor_assoc, xor_zero_r}
use Rattle.std.proofs.lemmas.Nat.{shr-shr, field_of, xor_shr, xor_mod, xor_lt, xor_comm}
use Rattle.block.specs.Width.{value_of, digits}
use Rattle.block.specs.WidthLemmas.{xors}
use Rattle.aes.specs.Field.{times}
use Rattle.aes.specs.State.{Column, column, columns, each, state, bytes_in, Bytes, Fit}
use Rattle.aes.specs.Cipher.{plus}
use Rattle.aes.specs.Ways.{Steps, mixing}
use Rattle.aes.specs.Words.{packed, unpacked, state_of, brought0, brought1}
use Rattle.aes.specs.declared.words.Words.{Words}
use Rattle.aes.specs.FieldLemmas.{product_lt}

-- the lowest byte of the lowest few
pub byte_of_byte : (v : ℕ) → v % 2 ^ 8 % 256 ≡ v % 256
byte_of_byte v = omega arith

pub byte_of_half : (v : ℕ) → v % 2 ^ 16 % 256 ≡ v % 256
byte_of_half v = omega arith

pub byte_of_three : (v : ℕ) → v % 2 ^ 24 % 256 ≡ v % 256
byte_of_three v = omega arith

byte_of_word : (v : ℕ) → v % 2 ^ 32 % 256 ≡ v % 256
byte_of_word v = omega arith

pub unpacked_bytes : (w : ℕ) → Bytes (unpacked w)
unpacked_bytes w = omega arith

pub state_fit : (x : Words) → Fit (state_of x)
unfolding state_of
state_fit x = (unpacked_bytes x.c0, unpacked_bytes x.c1, unpacked_bytes x.c2, unpacked_bytes x.c3)

pub unpacked_packed : (k : Column) → Bytes k → unpacked (packed k) ≡ k
unpacked_packed k (h0, h1, h2, h3) =
    let e0 : packed k / 2 ^ 24 % 256 ≡ k.s0 = omega arith in
    let e1 : packed k / 2 ^ 16 % 256 ≡ k.s1 = omega arith in
    let e2 : packed k / 2 ^ 8 % 256 ≡ k.s2 = omega arith in
    let e3 : packed k % 256 ≡ k.s3 = omega arith in
    λ i. column (e0 i) (e1 i) (e2 i) (e3 i)

packed_lt : (k : Column) → Bytes k → packed k < 2 ^ 32
packed_lt k h = omega arith

pub packed_unpacked : (w : ℕ) → w < 2 ^ 32 → packed (unpacked w) ≡ w
packed_unpacked w h =
    let e2 = shr-shr w 8 8 in
    let e3 = shr-shr w 16 8 in
    let top : w / 2 ^ 24 % 256 ≡ w / 2 ^ 24 = omega arith in
    let two : w / 2 ^ 24 * 256 + w / 2 ^ 16 % 256 ≡ w / 2 ^ 16 = omega arith in
    let three : w / 2 ^ 16 * 256 + w / 2 ^ 8 % 256 ≡ w / 2 ^ 8 = omega arith in
    let all : w / 2 ^ 8 * 256 + w % 256 ≡ w = omega arith in
    omega arith

-- ---- ⊕ of words

pub unpacked_xor : (u v : ℕ) → unpacked (bit_xor u v) ≡ plus (unpacked u) (unpacked v)
unpacked_xor u v =
    let at : (k : ℕ) → bit_xor u v / 2 ^ k % 256 ≡ bit_xor (u / 2 ^ k % 256) (v / 2 ^ k % 256) =
    λ k. ap (λ (z : ℕ). z % 256) (xor_shr u v k) ∙ xor_mod (u / 2 ^ k) (v / 2 ^ k) 8 in
    λ i. column (at 24 i) (at 16 i) (at 8 i) (xor_mod u v 8 i)

pub plus_none : (k : Column) → plus k (unpacked 0) ≡ k
plus_none k = λ i. column (xor_zero_r k.s0 i) (xor_zero_r k.s1 i) (xor_zero_r k.s2 i) (xor_zero_r k.s3 i)

-- the key first
pub key_first : (k w : ℕ) → unpacked (bit_xor k w) ≡ plus (unpacked w) (unpacked k)
key_first k w = ap unpacked (xor_comm k w) ∙ unpacked_xor w k

abbrev pub four : ℕ → ℕ → ℕ → ℕ → Words
four j k l m = record { c0 = j; c1 = k; c2 = l; c3 = m }

-- ---- a state and the number of its bytes

-- a word is the lowest 32 bits
low : (v : ℕ) → unpacked (v % 2 ^ 32) ≡ unpacked v
low v =
    let at0 = ap (λ (z : ℕ). z % 256) (field_of v 8 24) ∙ byte_of_byte (v / 2 ^ 24) in
    let at1 = ap (λ (z : ℕ). z % 256) (field_of v 16 16) ∙ byte_of_half (v / 2 ^ 16) in
    let at2 = ap (λ (z : ℕ). z % 256) (field_of v 24 8) ∙ byte_of_three (v / 2 ^ 8) in
    let at3 = byte_of_word v in
    λ i. column (at0 i) (at1 i) (at2 i) (at3 i)

-- the word that begins at bit k, by the bytes of the whole
from_bit : (x k : ℕ) → unpacked (x / 2 ^ k) ≡ column (x / 2 ^ (k + 24) % 256) (x / 2 ^ (k + 16) % 256) (x / 2 ^ (k + 8) % 256) (x / 2 ^ k % 256)
from_bit x k =
    let at : (j : ℕ) → x / 2 ^ k / 2 ^ j % 256 ≡ x / 2 ^ (k + j) % 256 = λ j. ap (λ (z : ℕ). z % 256) (shr-shr x k j) in
    λ i. column (at 24 i) (at 16 i) (at 8 i) (x / 2 ^ k % 256)

pub split_state : (x : ℕ) → state_of (four (x / 2 ^ 96) (x / 2 ^ 64 % 2 ^ 32) (x / 2 ^ 32 % 2 ^ 32) (x % 2 ^ 32)) ≡ state (digits 16 x)
unfolding state_of
split_state x =
    let whole : x / 2 ^ 0 ≡ x = omega arith in
    let c0 = from_bit x 96 in
    let c1 = low (x / 2 ^ 64) ∙ from_bit x 64 in
    let c2 = low (x / 2 ^ 32) ∙ from_bit x 32 in
    let c3 = low x ∙ ap unpacked (sym whole) ∙ from_bit x 0 in
    λ i. columns (c0 i) (c1 i) (c2 i) (c3 i)

pub join_number : (x : Words) (w0 w1 w2 w3 : ℕ) → w0 ≡ x.c0 → w1 ≡ x.c1 → w2 ≡ x.c2 → w3 ≡ x.c3
    → w0 < 2 ^ 32 → w1 < 2 ^ 32 → w2 < 2 ^ 32 → w3 < 2 ^ 32
    → (w0 * 2 ^ 96) % 2 ^ 128 + (w1 * 2 ^ 64) % 2 ^ 128 + (w2 * 2 ^ 32) % 2 ^ 128 + w3 ≡ value_of 16 (bytes_in (state_of x))
unfolding state_of
join_number x w0 w1 w2 w3 x0 x1 x2 x3 h0 h1 h2 h3 =
    let e0 = packed_unpacked x.c0 (omega arith) in
    let e1 = packed_unpacked x.c1 (omega arith) in
    let e2 = packed_unpacked x.c2 (omega arith) in
    let e3 = packed_unpacked x.c3 (omega arith) in
    omega arith

-- ---- what the tables bring

-- a word's two halves, exchanged
abbrev swapped : ℕ → ℕ
swapped w = w % 2 ^ 16 * 2 ^ 16 + w / 2 ^ 16 % 2 ^ 16

-- two halves: rows 0 and 1, then rows 2 and 3
halves : (u l : ℕ) → l < 2 ^ 16 → unpacked (u * 2 ^ 16 + l) ≡ column (u / 2 ^ 8 % 256) (u % 256) (l / 2 ^ 8 % 256) (l % 256)
halves u l h =
    let n = u * 2 ^ 16 + l in
    let high : n / 2 ^ 16 ≡ u = omega arith in
    let next : n / 2 ^ 24 ≡ u / 2 ^ 8 = sym (shr-shr n 16 8) ∙ ap (λ (z : ℕ). z / 2 ^ 8) high in
    let under : n / 2 ^ 8 ≡ u * 2 ^ 8 + l / 2 ^ 8 = omega arith in
    let part : (u * 2 ^ 8 + l / 2 ^ 8) % 256 ≡ l / 2 ^ 8 % 256 = omega arith in
    let end : n % 256 ≡ l % 256 = omega arith in
    let at0 = ap (λ (z : ℕ). z % 256) next in
    let at1 = ap (λ (z : ℕ). z % 256) high in
    let at2 = ap (λ (z : ℕ). z % 256) under ∙ part in
    λ i. column (at0 i) (at1 i) (at2 i) (end i)

swapped_rows : (v : ℕ) → unpacked (swapped v) ≡ column (unpacked v).s2 (unpacked v).s3 (unpacked v).s0 (unpacked v).s1
swapped_rows v =
    let at0 = ap (λ (z : ℕ). z % 256) (field_of v 8 8) ∙ byte_of_byte (v / 2 ^ 8) in
    let at1 = byte_of_half v in
    let at2 = ap (λ (z : ℕ). z % 256) (field_of (v / 2 ^ 16) 8 8) ∙ byte_of_byte (v / 2 ^ 16 / 2 ^ 8) ∙ ap (λ (z : ℕ). z % 256) (shr-shr v 16 8) in
    let at3 = byte_of_half (v / 2 ^ 16) in
    halves (v % 2 ^ 16) (v / 2 ^ 16 % 2 ^ 16) (omega arith) ∙ (λ i. column (at0 i) (at1 i) (at2 i) (at3 i))

turned : (w : ℕ) → w < 2 ^ 32 → bit_or ((w * 2 ^ 16) % 2 ^ 32) (w / 2 ^ 16) ≡ swapped w
turned w h =
    let up : (w * 2 ^ 16) % 2 ^ 32 ≡ w % 2 ^ 16 * 2 ^ 16 = omega arith in
    let down : w / 2 ^ 16 ≡ w / 2 ^ 16 % 2 ^ 16 = omega arith in
    ap₂ bit_or up down ∙ or_shifted (w % 2 ^ 16) 16 (w / 2 ^ 16 % 2 ^ 16) (omega arith)

line0 : (w x y z : ℕ) → bit_xor (bit_xor w x) (bit_xor y z) ≡ bit_xor w (bit_xor x (bit_xor y z))
line0 w x y z = xor_assoc w x (bit_xor y z)

line1 : (w x y z : ℕ) → bit_xor (bit_xor w x) (bit_xor y z) ≡ bit_xor x (bit_xor y (bit_xor z w))
line1 w x y z = simp xors

line2 : (w x y z : ℕ) → bit_xor (bit_xor w x) (bit_xor y z) ≡ bit_xor y (bit_xor z (bit_xor w x))
line2 w x y z = xor_comm (bit_xor w x) (bit_xor y z) ∙ xor_assoc y z (bit_xor w x)

line3 : (w x y z : ℕ) → bit_xor (bit_xor w x) (bit_xor y z) ≡ bit_xor z (bit_xor w (bit_xor x y))
line3 w x y z = simp xors

-- by the tables' rule, two words of which rows 0 and 1, and rows 2 and 3, bring their parts
module _ (t : Steps) (fits : (x : ℕ) → x < 256 → t.sub x < 256) where
  small_times : (a x : ℕ) → x < 256 → times a (t.sub x) < 256
  small_times a x h = product_lt 8 a (t.sub x) (fits x h)

  bytes0 : (x : ℕ) → x < 256 → Bytes (brought0 t (t.sub x))
  bytes0 x h = (small_times t.p x h, small_times t.s x h, small_times t.r x h, small_times t.q x h)

  bytes1 : (x : ℕ) → x < 256 → Bytes (brought1 t (t.sub x))
  bytes1 x h = (small_times t.q x h, small_times t.p x h, small_times t.s x h, small_times t.r x h)

  part0 : (x : ℕ) → x < 256 → unpacked (packed (brought0 t (t.sub x))) ≡ brought0 t (t.sub x)
  part0 x h = unpacked_packed (brought0 t (t.sub x)) (bytes0 x h)

  part1 : (x : ℕ) → x < 256 → unpacked (packed (brought1 t (t.sub x))) ≡ brought1 t (t.sub x)
  part1 x h = unpacked_packed (brought1 t (t.sub x)) (bytes1 x h)

  gathered : (a b c d : ℕ) → let l = plus (brought0 t c) (brought1 t d) in
      plus (plus (brought0 t a) (brought1 t b)) (column l.s2 l.s3 l.s0 l.s1) ≡ mixing t (column a b c d)
  gathered a b c d =
      λ i. column (line0 (times t.p a) (times t.q b) (times t.r c) (times t.s d) i) (line1 (times t.s a) (times t.p b) (times t.q c) (times t.r d) i)
      (line2 (times t.r a) (times t.s b) (times t.p c) (times t.q d) i) (line3 (times t.q a) (times t.r b) (times t.s c) (times t.p d) i)

  pub mixed_column : (a b c d u v r : ℕ) → a < 256 → b < 256 → c < 256 → d < 256
      → u ≡ bit_xor (packed (brought0 t (t.sub a))) (packed (brought1 t (t.sub b)))
      → v ≡ bit_xor (packed (brought0 t (t.sub c))) (packed (brought1 t (t.sub d)))
      → r ≡ bit_or ((v * 2 ^ 16) % 2 ^ 32) (v / 2 ^ 16)
      → unpacked (bit_xor u r) ≡ mixing t (each t.sub (column a b c d))
  mixed_column a b c d u v r ha hb hc hd eu ev er =
      let upper = ap unpacked eu ∙ unpacked_xor (packed (brought0 t (t.sub a))) (packed (brought1 t (t.sub b))) ∙ ap₂ plus (part0 a ha) (part1 b hb) in
      let under = ap unpacked ev ∙ unpacked_xor (packed (brought0 t (t.sub c))) (packed (brought1 t (t.sub d))) ∙ ap₂ plus (part0 c hc) (part1 d hd) in
      let lt : v < 2 ^ 32 = subst (λ z. z < 2 ^ 32) (sym ev) (xor_lt 32 (packed (brought0 t (t.sub c))) (packed (brought1 t (t.sub d))) (packed_lt (brought0 t (t.sub c)) (bytes0 c hc)) (packed_lt (brought1 t (t.sub d)) (bytes1 d hd))) in
      let lower = ap unpacked (er ∙ turned v lt) ∙ swapped_rows v ∙ ap (λ (l : Column). column l.s2 l.s3 l.s0 l.s1) under in
      unpacked_xor u r ∙ ap₂ plus upper lower ∙ gathered (t.sub a) (t.sub b) (t.sub c) (t.sub d)
