-- XTEA as Needham and Wheeler publish it, on two words v, w below 2 ^ 32 and the words of a key. Assumes nothing.
use Rattle.std.specs.Prelude.{◌≡◌, ℕ, zero, suc, ◌+◌, ◌-◌, ◌*◌, ◌/◌, ◌%◌, ◌^◌, ◌<◌, List, bit_xor, slice_index}

-- sums and differences modulo 2 ^ 32
abbrev pub plus : ℕ → ℕ → ℕ
plus a b = (a + b) % 2 ^ 32

abbrev pub minus : ℕ → ℕ → ℕ
minus a b = (a + (2 ^ 32 - b)) % 2 ^ 32

-- f(z) = ((z << 4) ⊕ (z >> 5)) + z
abbrev pub mixed : ℕ → ℕ
mixed z = plus (bit_xor (z * 2 ^ 4 % 2 ^ 32) (z / 2 ^ 5)) z

-- what a cycle adds to a word, from the other word z and a word k of the key: f(z) ⊕ (s + k)
abbrev pub added : ℕ → ℕ → ℕ → ℕ
added z s k = bit_xor (mixed z) (plus s k)

-- to v: f(w) ⊕ (s + K[s mod 4])
abbrev pub on_first : List ℕ → ℕ → ℕ → ℕ
on_first key s w = added w s (slice_index key (s % 4))

-- and then to w: f(v) ⊕ (s + K[floor(s / 2048) mod 4])
abbrev pub on_second : List ℕ → ℕ → ℕ → ℕ
on_second key s v = added v s (slice_index key (s / 2048 % 4))

-- s before cycle i: from 0, each cycle adds 9E3779B9 hex
abbrev pub sum : ℕ → ℕ
sum i = i * 0x9E3779B9 % 2 ^ 32

-- the words v, w
abbrev pub Words : Type 0
Words = ℕ × ℕ

-- cycle i, counted from 0
unfoldable pub cycle : List ℕ → ℕ → Words → Words
cycle key i (v, w) =
    let v' = plus v (on_first key (sum i) w) in
    let w' = plus w (on_second key (sum (suc i)) v') in
    (v', w')

-- the same steps back, the last first
unfoldable pub uncycle : List ℕ → ℕ → Words → Words
uncycle key i (v', w') =
    let w = minus w' (on_second key (sum (suc i)) v') in
    let v = minus v' (on_first key (sum i) w) in
    (v, w)

-- the first n cycles, and those undone
unfoldable pub enciphered : List ℕ → ℕ → Words → Words
enciphered key zero p = p
enciphered key (suc n) p = cycle key n (enciphered key n p)

unfoldable pub deciphered : List ℕ → ℕ → Words → Words
deciphered key zero p = p
deciphered key (suc n) p = deciphered key n (uncycle key n p)

abbrev pub Fit : Words → Type 0
Fit p = (p.0 < 2 ^ 32) × (p.1 < 2 ^ 32)

-- whatever the key and the number of cycles, each way undoes the other
pub record Undone : Type 0 where
  pub dec_enc : (key : List ℕ) (n : ℕ) (p : Words) → Fit p → deciphered key n (enciphered key n p) ≡ p
  pub enc_dec : (key : List ℕ) (n : ℕ) (p : Words) → Fit p → enciphered key n (deciphered key n p) ≡ p
