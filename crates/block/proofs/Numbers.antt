-- Bytes of a number as bits, and as the last of 16 bytes. Assumes nothing.
use Rattle.std.proofs.Common.{◌≡◌, ℕ, zero, suc, ◌+◌, ◌*◌, ◌/◌, ◌^◌, ◌<◌, ◌≤◌, ◌-◌, Bool, List, [], ◌∷◌, ◌++◌, length, get_or, take, drop, replicate, sym, refl, ap, ◌∙◌, ap₂, arith, take-suc, add-zero, add-suc, get_or-take}
use Rattle.std.proofs.Math.Nat.{div-one}
use Rattle.std.proofs.lemmas.Nat.{pow-add}
use Rattle.std.proofs.lemmas.List.{length-append, length-replicate, get_or_append_left, get_or-append-add, get_or-replicate, take-replicate, take_all, append-nil}
use borrow.Rule.Slice.PartMut.{put_mid}
use Rattle.std.proofs.lemmas.Slice.{take-put_mid}
use Rattle.std.specs.Int.{w128, from_be_bytes, to_be_bytes}
use Rattle.block.specs.Bits.{bits, number, digit, bits_of, bytes_of}
use Rattle.block.specs.BitsLemmas.{length_bits, number_bits, bits_of_append, take_bits, drop_bits}
use Rattle.block.specs.Width.{value_of, digits}

number_append : (xs ys : List Bool) → number (xs ++ ys) ≡ number xs * 2 ^ length ys + number ys
unfolding number
number_append [] ys = omega arith
number_append (x ∷ xs) ys =
    let e : 2 ^ length (xs ++ ys) ≡ 2 ^ length xs * 2 ^ length ys = ap (λ n. 2 ^ n) (length-append xs ys) ∙ pow-add 2 (length xs) (length ys) in
    ap₂ (λ p n. digit x * p + n) e (number_append xs ys) ∙ regroup (digit x) (2 ^ length xs) (2 ^ length ys) (number xs) (number ys)
  where
    regroup : (d p q n m : ℕ) → d * (p * q) + (n * q + m) ≡ (d * p + n) * q + m
    regroup d p q n m = omega arith

bits_of_one : (b : ℕ) → bits_of (b ∷ []) ≡ bits 8 b
unfolding bits_of
bits_of_one b = append-nil (bits 8 b)

-- the number that bytes write
front : (k : ℕ) (xs : List ℕ) → k ≤ length xs → ((i : ℕ) → get_or xs i 0 < 256) → number (bits_of (take k xs)) ≡ value_of k xs
unfolding bits_of number
front zero xs h f = refl
front (suc k) xs h f =
    let b = get_or xs k 0 in
    let one = bits_of_one b in
    let low : number (bits 8 b) ≡ b = number_bits 8 b ∙ (let s = f k in omega arith) in
    ap (λ z. number (bits_of z)) (take-suc xs k 0 (omega arith))
    ∙ ap number (bits_of_append (take k xs) (b ∷ []) ∙ ap (λ z. bits_of (take k xs) ++ z) one)
    ∙ number_append (bits_of (take k xs)) (bits 8 b)
    ∙ ap₂ (λ x y. x * 2 ^ length (bits 8 b) + y) (front k xs (omega arith) f) low
    ∙ ap (λ n. value_of k xs * 2 ^ n + b) (length_bits 8 b)

pub value_bits : (k : ℕ) (xs : List ℕ) → length xs ≡ k → ((i : ℕ) → get_or xs i 0 < 256) → number (bits_of xs) ≡ value_of k xs
value_bits k xs e f = ap (λ z. number (bits_of z)) (sym (take_all k xs (omega arith))) ∙ front k xs (omega arith) f

-- zeros in front change no number
value_zeros : (j i : ℕ) (xs : List ℕ) → i ≤ j → value_of i (replicate j 0 ++ xs) ≡ 0
value_zeros j zero xs h = refl
value_zeros j (suc i) xs h =
    let zeros : List ℕ = replicate j 0 in
    let long : length zeros ≡ j = length-replicate j 0 in
    let none : get_or (zeros ++ xs) i 0 ≡ 0 = get_or_append_left zeros xs 0 i (omega arith) ∙ get_or-replicate j i 0 0 (omega arith) in
    omega (arith, none, value_zeros j i xs (omega arith))

value_padded : (j k : ℕ) (xs : List ℕ) → value_of (j + k) (replicate j 0 ++ xs) ≡ value_of k xs
value_padded j zero xs = ap (λ n. value_of n (replicate j 0 ++ xs)) (add-zero j) ∙ value_zeros j j xs (omega arith)
value_padded j (suc k) xs =
    let all : List ℕ = replicate j 0 ++ xs in
    ap (λ n. value_of n all) (add-suc j k)
    ∙ ap₂ (λ v b. v * 256 + b) (value_padded j k xs)
    (ap (λ n. get_or all (n + k) 0) (sym (length-replicate j 0)) ∙ get_or-append-add (replicate j 0) xs k 0)

big_endian : (xs : List ℕ) → from_be_bytes w128 xs ≡ value_of 16 xs
big_endian xs = omega arith

value_below : (k n : ℕ) (xs : List ℕ) → k ≤ n → value_of k xs ≡ value_of k (take n xs)
value_below zero n xs h = refl
value_below (suc k) n xs h = ap₂ (λ v b. v * 256 + b) (value_below k n xs (omega arith)) (sym (get_or-take n xs k 0 (omega arith)))

-- the number read from k bytes that were put at the end of 16 zeros
pub read_at_end : (k : ℕ) (xs : List ℕ) → length xs ≡ k → k ≤ 16 → from_be_bytes w128 (put_mid (16 - k) (16 - (16 - k)) (replicate 16 0) xs) ≡ value_of k xs
read_at_end k xs long small =
    let zeros : List ℕ = replicate 16 0 in
    let all = put_mid (16 - k) (16 - (16 - k)) zeros xs in
    let front : take (16 - k) zeros ≡ replicate (16 - k) 0 = take-replicate (16 - k) 16 0 (omega arith) in
    let last : take 16 all ≡ replicate (16 - k) 0 ++ xs = take-put_mid (16 - k) (16 - (16 - k)) zeros xs 16 (omega arith) (omega arith) ∙ ap (λ ys. ys ++ xs) front in
    let e : 16 ≡ 16 - k + k = omega arith in
    big_endian all ∙ value_below 16 16 all (omega arith) ∙ ap (value_of 16) last
    ∙ ap (λ n. value_of n (replicate (16 - k) 0 ++ xs)) e ∙ value_padded (16 - k) k xs

-- the bytes of a number
pub bytes_bits : (k x : ℕ) → bytes_of k (bits (8 * k) x) ≡ digits k x
unfolding bytes_of
bytes_bits zero x = refl
bytes_bits (suc k) x =
    let n : 8 * suc k ≡ 8 + 8 * k = omega arith in
    ap (λ z. bytes_of (suc k) (bits z x)) n
    ∙ ap₂ (λ y ys. number y ∷ bytes_of k ys) (take_bits 8 (8 * k) x) (drop_bits 8 (8 * k) x)
    ∙ ap₂ (λ y ys. y ∷ ys) (number_bits 8 (x / 2 ^ (8 * k))) (bytes_bits k x)

-- the low bytes of a number are the last
pub digits_last : (j k x : ℕ) → drop j (digits (j + k) x) ≡ digits k x
digits_last zero k x = ap (λ n. digits n x) (omega arith)
digits_last (suc j) k x = let e : suc j + k ≡ suc (j + k) = omega arith in ap (λ n. drop (suc j) (digits n x)) e ∙ digits_last j k x

length_digits : (k x : ℕ) → length (digits k x) ≡ k
length_digits zero x = refl
length_digits (suc k) x = ap suc (length_digits k x)

-- the k last of 16 bytes
pub last_bytes : (k x : ℕ) → k ≤ 16 → take (16 - (16 - k)) (drop (16 - k) (to_be_bytes w128 x)) ≡ digits k x
last_bytes k x small =
    let e : 16 ≡ 16 - k + k = omega arith in
    let back : 16 - (16 - k) ≡ k = omega arith in
    let one : x / 1 ≡ x = div-one x in
    let bytes : to_be_bytes w128 x ≡ digits 16 x = cc in
    ap₂ take back (ap (drop (16 - k)) bytes ∙ ap (λ n. drop (16 - k) (digits n x)) e ∙ digits_last (16 - k) k x) ∙ take_all k (digits k x) (omega (arith, length_digits k x))
