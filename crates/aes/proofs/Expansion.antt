-- The key expansion on words. Assumes nothing.
use Rattle.std.proofs.Common.{◌≡◌, ℕ, zero, suc, ◌+◌, ◌-◌, ◌*◌, ◌/◌, ◌%◌, ◌^◌, ◌<◌, ◌≤◌, cond, eqb, List, [], ◌∷◌, ◌++◌, map, reverse, length, get_or, take, drop, set, sym, refl, ap, ◌∙◌, ap₂, append_assoc, drop-cons, add-zero, add-one, arith}
use lib.Bits.{bit_xor, bit_or, or_shifted}
use mathlib.Core.List.{reverse_aux}
use Rattle.std.specs.Int.{w32, from_be_bytes}
use Rattle.std.specs.Simd.{first_chunks}
use Rattle.std.proofs.lemmas.Nat.{shr-shr, field_of}
use Rattle.std.proofs.lemmas.List.{get_or-take, get_or-drop, drop-set-lt, take_more_set, map-append}
use Rattle.aes.specs.State.{Column, State, column, listed, word_at}
use Rattle.aes.specs.Cipher.{plus, Keys}
use Rattle.aes.specs.Schedule.{sub_word, rot_word, power, rcon, none, taken, expansion, round_key, keys_of, key_words, key_schedule}
use Rattle.aes.specs.Words.{packed, unpacked, state_of}
use Rattle.aes.specs.declared.words.Words.{Words}
use Rattle.aes.specs.FieldLemmas.{xtime_lt}
use Rattle.aes.specs.Pack.{byte_of_byte, byte_of_half, byte_of_three, unpacked_packed, unpacked_xor}

-- ---- words

power_lt : (j : ℕ) → power j < 256
unfolding power
power_lt zero = omega arith
power_lt (suc j) = xtime_lt (power j) (power_lt j)

-- row 0 becomes the lowest
rotated : (l u : ℕ) → u < 256 → unpacked (l * 2 ^ 8 + u) ≡ column (l / 2 ^ 16 % 256) (l / 2 ^ 8 % 256) (l % 256) u
rotated l u h =
    let n = l * 2 ^ 8 + u in
    let e2 : n / 2 ^ 8 ≡ l = omega arith in
    let e1 : n / 2 ^ 16 ≡ l / 2 ^ 8 = sym (shr-shr n 8 8) ∙ ap (λ (z : ℕ). z / 2 ^ 8) e2 in
    let e0 : n / 2 ^ 24 ≡ l / 2 ^ 16 = sym (shr-shr n 8 16) ∙ ap (λ (z : ℕ). z / 2 ^ 16) e2 in
    let e3 : n % 256 ≡ u = omega arith in
    let at0 = ap (λ (z : ℕ). z % 256) e0 in
    let at1 = ap (λ (z : ℕ). z % 256) e1 in
    let at2 = ap (λ (z : ℕ). z % 256) e2 in
    λ i. column (at0 i) (at1 i) (at2 i) (e3 i)

pub rot_word_lem : (t r : ℕ) → t < 2 ^ 32 → r ≡ bit_or ((t * 2 ^ 8) % 2 ^ 32) (t / 2 ^ 24) → unpacked r ≡ rot_word (unpacked t)
rot_word_lem t r h e =
    let l = t % 2 ^ 24 in
    let u = t / 2 ^ 24 in
    let top : u < 256 = omega arith in
    let up : (t * 2 ^ 8) % 2 ^ 32 ≡ l * 2 ^ 8 = omega arith in
    let e2 = byte_of_three t in
    let e3 : u ≡ u % 256 = omega arith in
    let at0 = ap (λ (z : ℕ). z % 256) (field_of t 8 16) ∙ byte_of_byte (t / 2 ^ 16) in
    let at1 = ap (λ (z : ℕ). z % 256) (field_of t 16 8) ∙ byte_of_half (t / 2 ^ 8) in
    ap unpacked (e ∙ ap (λ (z : ℕ). bit_or z u) up ∙ or_shifted l 8 u top) ∙ rotated l u top ∙ (λ i. column (at0 i) (at1 i) (e2 i) (e3 i))

-- word i at a multiple of nk
pub taken_first : (nk i t s k : ℕ) → i % nk ≡ 0 → unpacked s ≡ sub_word (rot_word (unpacked t)) → k ≡ packed (rcon (i / nk)) → unpacked (bit_xor s k) ≡ taken nk i (unpacked t)
taken_first nk i t s k z es ek =
    unpacked_xor s k ∙ ap₂ plus es (ap unpacked ek ∙ unpacked_packed (rcon (i / nk)) (power_lt (i / nk - 1), omega arith, omega arith, omega arith)) ∙ first (i % nk) z _ _
  where
    first : (m : ℕ) → m ≡ 0 → (x y : Column) → x ≡ cond (eqb m 0) x y
    first zero e x y = refl
    first (suc m) e x y = absurd (omega arith)

-- ---- lists

listed_end : {A : Type 0} (f : ℕ → A) (n i : ℕ) → listed f (suc n) i ≡ listed f n i ++ (f (i + n) ∷ [])
listed_end f zero i = ap (λ k. f k ∷ []) (sym (add-zero i))
listed_end f (suc n) i = ap (λ l. f i ∷ l) (listed_end f n (suc i) ∙ ap (λ k. listed f n (suc i) ++ (f k ∷ [])) (omega arith))

get_or_unpacked : (l : List ℕ) (j : ℕ) → get_or (map unpacked l) j none ≡ unpacked (get_or l j 0)
get_or_unpacked [] j = refl
get_or_unpacked (x ∷ l) zero = refl
get_or_unpacked (x ∷ l) (suc j) = get_or_unpacked l j

-- one entry more at the end of those that are right
set_end : {A B : Type 0} (v : A → B) (xs : List A) (i : ℕ) (x : A) → i < length xs → map v (take (i + 1) (set xs i x)) ≡ map v (take i xs) ++ (v x ∷ [])
set_end v xs i x h = ap (map v) (take_more_set xs i x h) ∙ map-append v (take i xs) (x ∷ [])

pub filled : {A B : Type 0} (v : A → B) (f : ℕ → B) (xs : List A) (s i : ℕ) (x : A) → i < length xs → map v (take i xs) ≡ listed f i s → v x ≡ f (s + i)
    → map v (take (i + 1) (set xs i x)) ≡ listed f (i + 1) s
filled v f xs s i x h inv e =
    set_end v xs i x h ∙ ap₂ (λ l y. l ++ (y ∷ [])) inv e ∙ sym (listed_end f i s) ∙ ap (λ n. listed f n s) (sym (add-one i))

-- entry k of the whole is entry j of chunk r
pub chunk_at : (n : ℕ) (l : List ℕ) (r j k : ℕ) → r < n → j < 4 → k ≡ 4 * r + j → get_or (get_or (first_chunks 4 n l) r []) j 0 ≡ get_or l k 0
chunk_at zero l r j k hr hj e = absurd (omega arith)
chunk_at (suc n) l zero j k hr hj e = get_or-take 4 l j 0 hj ∙ ap (λ i. get_or l i 0) (omega arith)
chunk_at (suc n) l (suc r) j k hr hj e = chunk_at n (drop 4 l) r j (4 * r + j) (omega arith) hj (omega arith) ∙ get_or-drop 4 l (4 * r + j) 0 ∙ ap (λ i. get_or l i 0) (omega arith)

pub chunk_word : (n : ℕ) (w : List ℕ) (r j k : ℕ) → r < n → j < 4 → k ≡ 4 * r + j → unpacked (get_or (get_or (first_chunks 4 n w) r []) j 0) ≡ get_or (map unpacked w) k none
chunk_word n w r j k hr hj e = ap unpacked (chunk_at n w r j k hr hj e) ∙ sym (get_or_unpacked w k)

pub word_of_chunk : (n : ℕ) (key : List ℕ) (i r : ℕ) → ((k : ℕ) → get_or key k 0 < 256) → i < n → r ≡ from_be_bytes w32 (get_or (first_chunks 4 n key) i []) → unpacked r ≡ word_at key i
word_of_chunk n key i r bytes h e =
    let b = λ (j : ℕ). get_or (get_or (first_chunks 4 n key) i []) j 0 in
    let e0 : b 0 ≡ get_or key (4 * i) 0 = chunk_at n key i 0 (4 * i) h (omega arith) (omega arith) in
    let e1 : b 1 ≡ get_or key (4 * i + 1) 0 = chunk_at n key i 1 (4 * i + 1) h (omega arith) (omega arith) in
    let e2 : b 2 ≡ get_or key (4 * i + 2) 0 = chunk_at n key i 2 (4 * i + 2) h (omega arith) (omega arith) in
    let e3 : b 3 ≡ get_or key (4 * i + 3) 0 = chunk_at n key i 3 (4 * i + 3) h (omega arith) (omega arith) in
    ap unpacked e ∙ ap unpacked (λ j. packed (column (e0 j) (e1 j) (e2 j) (e3 j)))
    ∙ unpacked_packed (word_at key i) (bytes (4 * i), bytes (4 * i + 1), bytes (4 * i + 2), bytes (4 * i + 3))

-- ---- the loops

pub start : (nk : ℕ) (key : List Column) → key ≡ expansion nk (nk - nk) key
unfolding expansion
start nk key = let e : nk - nk ≡ 0 = omega arith in sym (ap (λ n. expansion nk n key) e)

-- what is read of the words so far is read of the whole
seen : (w : List ℕ) (i j : ℕ) → j < i → unpacked (get_or w j 0) ≡ get_or (map unpacked (take i w)) j none
seen w i j h = ap unpacked (sym (get_or-take i w j 0 h)) ∙ sym (get_or_unpacked (take i w) j)

pub expanded : (nk i : ℕ) (w : List ℕ) (key : List Column) (t : ℕ) → 0 < nk → nk ≤ i → i < length w → map unpacked (take i w) ≡ expansion nk (i - nk) key
    → unpacked t ≡ taken nk i (unpacked (get_or w (i - 1) 0))
    → map unpacked (take (i + 1) (set w i (bit_xor (get_or w (i - nk) 0) t))) ≡ expansion nk (i + 1 - nk) key
unfolding expansion
expanded nk i w key t pos le lt inv et =
    let n = i - nk in
    let whole : nk + n ≡ i = omega arith in
    let step : i + 1 - nk ≡ suc n = omega arith in
    let ws = expansion nk n key in
    let old = seen w i n (omega arith) ∙ ap (λ l. get_or l n none) inv in
    let last = seen w i (i - 1) (omega arith) ∙ ap₂ (λ l m. get_or l (m - 1) none) inv (sym whole) in
    let t' = et ∙ ap₂ (taken nk) (sym whole) last in
    set_end unpacked w i (bit_xor (get_or w n 0) t) lt
    ∙ ap₂ (λ l x. l ++ (x ∷ [])) inv (unpacked_xor (get_or w n 0) t ∙ ap₂ plus old t') ∙ sym (ap (λ m. expansion nk m key) step)

-- one key more that became what f makes of it
pub changed : (f : Words → State) (ks : List Words) (i : ℕ) (d k : Words) → i < length ks → state_of k ≡ f (get_or ks i d)
    → map state_of (take (i + 1) (set ks i k)) ++ map f (drop (i + 1) (set ks i k)) ≡ map state_of (take i ks) ++ map f (drop i ks)
changed f ks i d k h e =
    let rest = map f (drop (i + 1) ks) in
    ap₂ (λ l m. map state_of l ++ map f m) (take_more_set ks i k h) (drop-set-lt (i + 1) ks i k (omega arith))
    ∙ ap (λ l. l ++ rest) (map-append state_of (take i ks) (k ∷ [])) ∙ append_assoc (map state_of (take i ks)) (state_of k ∷ []) rest
    ∙ ap₂ (λ x n. map state_of (take i ks) ++ (x ∷ map f (drop n ks))) e (add-one i)
    ∙ ap (λ l. map state_of (take i ks) ++ map f l) (sym (drop-cons ks i d h))

map_onto : {A B : Type 0} (f : A → B) (l r : List A) → map f (reverse_aux l r) ≡ reverse_aux (map f l) (map f r)
map_onto f [] r = refl
map_onto f (x ∷ l) r = map_onto f l (x ∷ r)

pub map_reverse : {A B : Type 0} (f : A → B) (l : List A) → map f (reverse l) ≡ reverse (map f l)
map_reverse f l = map_onto f l []

abbrev keys_as : State → List State → State → Keys
keys_as x ks y = record { first = x; middle = ks; last = y }

pub scheduled : (key : List ℕ) (ws : List Column) (x y : State) (ks : List State) → ws ≡ expansion 4 40 (key_words 4 key)
    → x ≡ round_key ws 0 → ks ≡ listed (round_key ws) 9 1 → y ≡ round_key ws 10 → keys_as x ks y ≡ key_schedule 4 key
unfolding key_schedule
scheduled key ws x y ks ew ex ek ey = (λ i. keys_as (ex i) (ek i) (ey i)) ∙ ap (keys_of 9) ew
