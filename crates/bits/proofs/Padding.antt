-- Padding with a 1 and zeros. Assumes nothing.
use Rattle.std.proofs.Common.{◌≡◌, ℕ, zero, suc, ◌+◌, ◌-◌, ◌*◌, ◌/◌, ◌%◌, ◌^◌, ◌<◌, ◌≤◌, max, Bool, true, false, eqb, List, [], ◌∷◌, ◌++◌, length, get_or, take, drop, set, replicate, sym, refl, ap, ◌∙◌, ap₂, add-zero, arith, take-add, eq-eqb, ne_eqb}
use native.Mathlib.Nat.{mul-mod_left}
use lib.Bits.{bit_or, or_step, or_zero_r}
use Rattle.std.proofs.lemmas.Nat.{shl-shr, shr-shr}
use Rattle.std.proofs.lemmas.List.{append_assoc, append-nil, set_at, drop-replicate, take-append-drop, take_at, take-take, drop-take, length-append, length-take-le, take-append-le, take_all, drop_more, replicate-append-replicate, get_or_past, take-replicate}
use Rattle.block.specs.Bits.{bits, bits_of}
use Rattle.block.specs.Arith.{Arith, Laws, width}
use Rattle.bits.specs.Blocks.{padded}
use Rattle.block.specs.BitsLemmas.{length_bits, bits_append, take_bits, bits_mod, bits_zero, length_bits_of, bits_of_append, bits_of_cons, take_bits_of, drop_bits_of, bits_of_zeros}

-- the lowest bit set
with_one : (x : ℕ) → bit_or x 1 ≡ x / 2 * 2 + 1
with_one x =
    let e : max (x % 2) 1 ≡ 1 = omega arith in
    or_step x 1 ∙ ap₂ (λ y z. y * 2 + z) (or_zero_r (x / 2)) e

pub bits_shifted : (j k x : ℕ) → bits (j + k) (x * 2 ^ k) ≡ bits j x ++ replicate k false
bits_shifted j k x =
    bits_append j k (x * 2 ^ k)
    ∙ ap₂ ◌++◌ (ap (bits j) (shl-shr x k)) (sym (bits_mod k (x * 2 ^ k)) ∙ ap (bits k) (mul-mod_left x (2 ^ k)) ∙ bits_zero k)

bits_one : (j x : ℕ) → bits (j + 1) (x * 2 + 1) ≡ bits j x ++ (true ∷ [])
unfolding bits
bits_one j x =
    let half : (x * 2 + 1) / 2 ≡ x = omega arith in
    let odd : (x * 2 + 1) / 1 % 2 ≡ 1 = omega arith in
    bits_append j 1 (x * 2 + 1) ∙ ap₂ ◌++◌ (ap (bits j) half) (ap (λ z. Rattle.block.specs.Bits.bit z ∷ []) odd)

pub closing : (b k cut : ℕ) → k + 1 + cut ≡ 8 → bits 8 ((bit_or (b / 2 ^ cut) 1 * 2 ^ cut) % 256) ≡ take k (bits 8 b) ++ (true ∷ replicate cut false)
closing b k cut e =
    let y = b / 2 ^ cut / 2 in
    let last : b / 2 ^ cut / 2 ≡ b / 2 ^ (cut + 1) = shr-shr b cut 1 in
    let all : k + (cut + 1) ≡ 8 = omega arith in
    bits_mod 8 (bit_or (b / 2 ^ cut) 1 * 2 ^ cut)
    ∙ ap₂ (λ n z. bits n (z * 2 ^ cut)) (sym e) (with_one (b / 2 ^ cut))
    ∙ bits_shifted (k + 1) cut (y * 2 + 1)
    ∙ ap (λ z. z ++ replicate cut false) (bits_one k y)
    ∙ append_assoc (bits k y) (true ∷ []) (replicate cut false)
    ∙ ap (λ z. z ++ (true ∷ replicate cut false)) (ap (bits k) last ∙ sym (take_bits k (cut + 1) b) ∙ ap (λ n. take k (bits n b)) all)

-- a front that ends k bits into byte w
pub take_inside : (xs : List ℕ) (w k : ℕ) → k < 8 → 8 * w + k ≤ 8 * length xs → take (8 * w + k) (bits_of xs) ≡ bits_of (take w xs) ++ take k (bits 8 (get_or xs w 0))
take_inside xs w zero h fits = ap (λ n. take n (bits_of xs)) (add-zero (8 * w)) ∙ take_bits_of w xs (omega arith) ∙ sym (append-nil (bits_of (take w xs)))
take_inside xs w (suc k) h fits =
    let long = length_bits_of xs in
    let x = get_or xs w 0 in
    take-add (8 * w) (suc k) (bits_of xs)
    ∙ ap₂ ◌++◌ (take_bits_of w xs (omega arith))
    (ap (take (suc k)) (drop_bits_of w xs (omega arith) ∙ ap bits_of (drop_more xs w 0 (omega arith)) ∙ bits_of_cons x (drop (w + 1) xs))
    ∙ take-append-le (suc k) (bits 8 x) (bits_of (drop (w + 1) xs)) (let e = length_bits 8 x in omega arith))

pub filled : (t : List ℕ) (w v : ℕ) → w < 16 → length t ≡ w → set (t ++ drop w (replicate 16 0)) w v ≡ t ++ (v ∷ replicate (15 - w) 0)
filled t w v h e =
    let n : 16 - w ≡ suc (15 - w) = omega arith in
    ap (λ z. set (t ++ z) w v) (drop-replicate w 16 0 ∙ ap (λ z. replicate z 0) n) ∙ set_at t 0 (replicate (15 - w) 0) v w e

pub padding : (xs : List ℕ) (r w k v : ℕ) → 8 * w + k ≡ r → k < 8 → r < 128 → r ≤ 8 * length xs
    → bits 8 v ≡ take k (bits 8 (get_or xs w 0)) ++ (true ∷ replicate (7 - k) false)
    → bits_of (take w xs ++ (v ∷ replicate (15 - w) 0)) ≡ take r (bits_of xs) ++ (true ∷ replicate (127 - r) false)
padding xs r w k v er hk hr fits ev =
    let front = bits_of (take w xs) in
    let byte = take k (bits 8 (get_or xs w 0)) in
    let n : (7 - k) + 8 * (15 - w) ≡ 127 - r = omega arith in
    bits_of_append (take w xs) (v ∷ replicate (15 - w) 0)
    ∙ ap (λ z. front ++ z) (bits_of_cons v (replicate (15 - w) 0) ∙ ap₂ ◌++◌ ev (bits_of_zeros (15 - w)) ∙ append_assoc byte (true ∷ replicate (7 - k) false) (replicate (8 * (15 - w)) false))
    ∙ sym (append_assoc front byte (true ∷ (replicate (7 - k) false ++ replicate (8 * (15 - w)) false)))
    ∙ ap₂ (λ z zs. z ++ (true ∷ zs)) (sym (take_inside xs w k hk (omega arith)) ∙ ap (λ n. take n (bits_of xs)) er)
    (replicate-append-replicate (7 - k) (8 * (15 - w)) false ∙ ap (λ z. replicate z false) n)

-- the first n bits of what is padded to more
pub shorter : (n r m : ℕ) (bs : List Bool) → length bs ≡ r → r < n → n ≤ m → take n (bs ++ (true ∷ replicate (m - 1 - r) false)) ≡ bs ++ (true ∷ replicate (n - 1 - r) false)
shorter n r m bs e h k =
    let cut : n ≡ r + suc (n - 1 - r) = omega arith in
    ap (λ z. take z (bs ++ (true ∷ replicate (m - 1 - r) false))) cut
    ∙ take-add r (suc (n - 1 - r)) (bs ++ (true ∷ replicate (m - 1 - r) false))
    ∙ ap₂ ◌++◌ (take_at bs (true ∷ replicate (m - 1 - r) false) r e)
    (ap (take (suc (n - 1 - r))) (Rattle.std.proofs.lemmas.List.drop_at bs (true ∷ replicate (m - 1 - r) false) r e)
    ∙ ap (λ z. true ∷ z) (take-replicate (n - 1 - r) (m - 1 - r) false (omega arith)))

-- a block is padded where it is short
pub padded_short : {B : Type 0} (A : Arith B) (bs : List Bool) → length bs < width A → padded A bs ≡ bs ++ (true ∷ replicate (width A - 1 - length bs) false)
unfolding padded
padded_short A bs h = let e : eqb (length bs) (width A) ≡ false = ne_eqb (length bs) (width A) (λ q. omega arith) in rw e refl

pub padded_whole : {B : Type 0} (A : Arith B) (bs : List Bool) → length bs ≡ width A → padded A bs ≡ bs
unfolding padded
padded_whole A bs h = let e : eqb (length bs) (width A) ≡ true = eq-eqb (length bs) (width A) h in rw e refl

pub padded_read : {B : Type 0} {A : Arith B} (w : Laws A) (bytes xs : List ℕ) (r : ℕ) → r < width A → r ≤ 8 * length xs → length bytes ≡ 16
    → bits_of bytes ≡ take r (bits_of xs) ++ (true ∷ replicate (127 - r) false)
    → bits_of (take A.size bytes) ≡ padded A (take r (bits_of xs))
padded_read {A = A} w bytes xs r h fits long e =
    let small = w.small in
    let front = take r (bits_of xs) in
    let is : length front ≡ r = length-take-le r (bits_of xs) (let k = length_bits_of xs in omega arith) in
    sym (take_bits_of A.size bytes (omega arith)) ∙ ap (take (width A)) e
    ∙ shorter (width A) r 128 front is h (omega arith)
    ∙ ap (λ z. front ++ (true ∷ replicate (width A - 1 - z) false)) (sym is)
    ∙ sym (padded_short A front (omega arith))
