-- Bits of numbers and of bytes. Assumes nothing.
use Rattle.std.specs.Prelude.{◌≡◌, ℕ, zero, suc, ◌+◌, ◌*◌, ◌/◌, ◌%◌, ◌^◌, ◌<◌, ◌≤◌, Bool, true, false, List, [], ◌∷◌, ◌++◌, length, take, drop, replicate, slice_index, refl}
use Rattle.std.proofs.Common.{sym, ap, ap₂, ◌∙◌, zero-add, suc-add, pow-suc, one-add, arith}
use Rattle.std.proofs.lemmas.Nat.{pow_pos, shr-shr, shr_high, mod-pow-add, div_below}
use Rattle.std.proofs.lemmas.List.{append_assoc, length-append, length-take-le, length-drop, take-append-drop, take_at, drop_at, nil_from_length, replicate-append-replicate}
use Rattle.block.specs.Bits.{bit, digit, bits, number, bits_of, bytes_of}

bit_digit : (b : Bool) → bit (digit b) ≡ b
bit_digit true = refl
bit_digit false = refl

digit_lt : (b : Bool) → digit b < 2
digit_lt true = omega arith
digit_lt false = omega arith

digit_bit : (d : ℕ) → d < 2 → digit (bit d) ≡ d
digit_bit zero h = refl
digit_bit (suc zero) h = refl
digit_bit (suc (suc d)) h = omega arith

pub length_bits : (k x : ℕ) → length (bits k x) ≡ k
unfolding bits
length_bits zero x = refl
length_bits (suc k) x = ap suc (length_bits k x)

pub bits_append : (j k x : ℕ) → bits (j + k) x ≡ bits j (x / 2 ^ k) ++ bits k x
unfolding bits
bits_append zero k x = ap (λ i. bits i x) (zero-add k)
bits_append (suc j) k x =
    let e : k + j ≡ j + k = omega arith in
    ap (λ i. bits i x) (suc-add j k)
    ∙ ap₂ (λ (z : ℕ) zs. bit (z % 2) ∷ zs) (ap (λ i. x / 2 ^ i) (sym e) ∙ sym (shr-shr x k j)) (bits_append j k x)

pub take_bits : (j k x : ℕ) → take j (bits (j + k) x) ≡ bits j (x / 2 ^ k)
take_bits j k x = ap (take j) (bits_append j k x) ∙ take_at (bits j (x / 2 ^ k)) (bits k x) j (length_bits j (x / 2 ^ k))

pub number_lt : (bs : List Bool) → number bs < 2 ^ length bs
unfolding number
number_lt [] = omega arith
number_lt (true ∷ bs) = let h = number_lt bs in rw pow-suc (omega arith)
number_lt (false ∷ bs) = let h = number_lt bs in rw pow-suc (omega arith)

bits_above : (c : ℕ) (bs : List Bool) → bits (length bs) (c * 2 ^ length bs + number bs) ≡ bs
unfolding bits number
bits_above c [] = refl
bits_above c (b ∷ bs) =
    let p = 2 ^ length bs in
    let whole : c * 2 ^ suc (length bs) + (digit b * p + number bs) ≡ (c * 2 + digit b) * p + number bs =
    ap (λ z. c * z + (digit b * p + number bs)) (pow-suc 2 (length bs)) ∙ regroup c p (digit b) (number bs) in
    let low : (c * 2 + digit b) % 2 ≡ digit b = omega (arith, digit_lt b) in
    ap (bits (suc (length bs))) whole
    ∙ ap₂ (λ z zs. bit z ∷ zs) (ap (λ z. z % 2) (shr_high (c * 2 + digit b) (length bs) (number bs) (number_lt bs)) ∙ low) (bits_above (c * 2 + digit b) bs)
    ∙ ap (λ z. z ∷ bs) (bit_digit b)
  where
    regroup : (c p d v : ℕ) → c * (p * 2) + (d * p + v) ≡ (c * 2 + d) * p + v
    regroup c p d v = omega arith

pub bits_number : (k : ℕ) (bs : List Bool) → length bs ≡ k → bits k (number bs) ≡ bs
bits_number k bs e =
    let z : number bs ≡ 0 * 2 ^ length bs + number bs = omega arith in
    ap (λ i. bits i (number bs)) (sym e) ∙ ap (bits (length bs)) z ∙ bits_above 0 bs

pub number_bits : (k x : ℕ) → number (bits k x) ≡ x % 2 ^ k
unfolding bits number
number_bits zero x = omega arith
number_bits (suc k) x =
    ap₂ (λ d n. d * 2 ^ n + number (bits k x)) (digit_bit (x / 2 ^ k % 2) (omega arith)) (length_bits k x)
    ∙ ap (λ z. x / 2 ^ k % 2 * 2 ^ k + z) (number_bits k x)
    ∙ sym (mod-pow-add x 1 k) ∙ ap (λ i. x % 2 ^ i) (one-add k)

pub bits_mod : (k x : ℕ) → bits k (x % 2 ^ k) ≡ bits k x
bits_mod k x = ap (bits k) (sym (number_bits k x)) ∙ bits_number k (bits k x) (length_bits k x)

pub bits_zero : (k : ℕ) → bits k 0 ≡ replicate k false
unfolding bits
bits_zero zero = refl
bits_zero (suc k) = ap₂ (λ (z : ℕ) zs. bit (z % 2) ∷ zs) (none (2 ^ k) (pow_pos k)) (bits_zero k)
  where
    none : (p : ℕ) → 0 < p → 0 / p ≡ 0
    none p h = let b = div_below 0 p 1 h (omega arith) in omega arith

-- ---- bytes

pub length_bits_of : (xs : List ℕ) → length (bits_of xs) ≡ 8 * length xs
unfolding bits_of
length_bits_of [] = refl
length_bits_of (x ∷ xs) = length-append (bits 8 x) (bits_of xs) ∙ (let e = length_bits 8 x in let h = length_bits_of xs in omega arith)

pub bits_of_append : (xs ys : List ℕ) → bits_of (xs ++ ys) ≡ bits_of xs ++ bits_of ys
unfolding bits_of
bits_of_append [] ys = refl
bits_of_append (x ∷ xs) ys = ap (λ z. bits 8 x ++ z) (bits_of_append xs ys) ∙ sym (append_assoc (bits 8 x) (bits_of xs) (bits_of ys))

pub bits_of_cons : (x : ℕ) (xs : List ℕ) → bits_of (x ∷ xs) ≡ bits 8 x ++ bits_of xs
unfolding bits_of
bits_of_cons x xs = refl

module _ (i : ℕ) (xs : List ℕ) (h : i ≤ length xs) where
  front : length (bits_of (take i xs)) ≡ 8 * i
  front = length_bits_of (take i xs) ∙ ap (λ z. 8 * z) (length-take-le i xs h)

  apart : bits_of xs ≡ bits_of (take i xs) ++ bits_of (drop i xs)
  apart = ap bits_of (sym (take-append-drop i xs)) ∙ bits_of_append (take i xs) (drop i xs)

  pub take_bits_of : take (8 * i) (bits_of xs) ≡ bits_of (take i xs)
  take_bits_of = ap (take (8 * i)) apart ∙ take_at (bits_of (take i xs)) (bits_of (drop i xs)) (8 * i) front

  pub drop_bits_of : drop (8 * i) (bits_of xs) ≡ bits_of (drop i xs)
  drop_bits_of = ap (drop (8 * i)) apart ∙ drop_at (bits_of (take i xs)) (bits_of (drop i xs)) (8 * i) front

-- a part of the memory, as bits
pub bits_of_part : (a n : ℕ) (xs : List ℕ) → a + n ≤ length xs → take (8 * n) (drop (8 * a) (bits_of xs)) ≡ bits_of (take n (drop a xs))
bits_of_part a n xs h =
    let fits : n ≤ length (drop a xs) = simp length-drop (omega arith) in
    ap (take (8 * n)) (drop_bits_of a xs (omega arith)) ∙ take_bits_of n (drop a xs) fits

pub length_bytes_of : (k : ℕ) (bs : List Bool) → length (bytes_of k bs) ≡ k
unfolding bytes_of
length_bytes_of zero bs = refl
length_bytes_of (suc k) bs = ap suc (length_bytes_of k (drop 8 bs))

pub bits_of_bytes_of : (k : ℕ) (bs : List Bool) → length bs ≡ 8 * k → bits_of (bytes_of k bs) ≡ bs
unfolding bits_of bytes_of
bits_of_bytes_of zero bs e = sym (nil_from_length bs (omega arith))
bits_of_bytes_of (suc k) bs e =
    let rest : length (drop 8 bs) ≡ 8 * k = simp length-drop (omega arith) in
    ap₂ ◌++◌ (bits_number 8 (take 8 bs) (length-take-le 8 bs (omega arith))) (bits_of_bytes_of k (drop 8 bs) rest) ∙ take-append-drop 8 bs

pub bits_of_zeros : (k : ℕ) → bits_of (replicate k 0) ≡ replicate (8 * k) false
unfolding bits_of
bits_of_zeros zero = refl
bits_of_zeros (suc k) =
    let e : 8 + 8 * k ≡ 8 * suc k = omega arith in
    ap₂ ◌++◌ (bits_zero 8) (bits_of_zeros k) ∙ replicate-append-replicate 8 (8 * k) false ∙ ap (λ z. replicate z false) e

pub drop_bits : (j k x : ℕ) → drop j (bits (j + k) x) ≡ bits k x
drop_bits j k x = ap (drop j) (bits_append j k x) ∙ drop_at (bits j (x / 2 ^ k)) (bits k x) j (length_bits j (x / 2 ^ k))

pub bytes_of_bits_of : (xs : List ℕ) → ((i : ℕ) → slice_index xs i < 256) → bytes_of (length xs) (bits_of xs) ≡ xs
unfolding bits_of bytes_of
bytes_of_bits_of [] f = refl
bytes_of_bits_of (x ∷ xs) f =
    let low : x % 2 ^ 8 ≡ x = let h = f 0 in omega arith in
    ap₂ (λ y ys. number y ∷ bytes_of (length xs) ys) (take_at (bits 8 x) (bits_of xs) 8 (length_bits 8 x)) (drop_at (bits 8 x) (bits_of xs) 8 (length_bits 8 x))
    ∙ ap₂ ◌∷◌ (number_bits 8 x ∙ low) (bytes_of_bits_of xs (λ i. f (suc i)))
