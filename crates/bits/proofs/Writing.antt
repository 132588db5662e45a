-- Bits written into a memory, a byte at a time. Assumes nothing.
use Rattle.std.proofs.Common.{◌≡◌, ℕ, suc, ◌+◌, ◌-◌, ◌*◌, ◌/◌, ◌%◌, ◌^◌, ◌<◌, ◌≤◌, Bool, false, ◌⊎◌, List, ◌∷◌, ◌++◌, length, get_or, take, drop, set, replicate, sym, ap, ◌∙◌, subst, ap₂, inl, inr, arith, drop-cons, take-add}
use lib.Seq.{paste, take-append-add, drop-append-add}
use lib.Bits.{bit_or}
use lib.Arith.{digits_lt}
use Rattle.std.proofs.lemmas.Nat.{pow_pos, pow-add, shl_whole, one_shl, shr_below, shr_high, mod_low, mod_below, or_shifted}
use Rattle.std.proofs.lemmas.List.{append_assoc, length-append, length-take-le, length-drop, take-take, take-append-drop, take-append-le, drop-append-le, drop-drop, drop_more, set_split}
use Rattle.std.proofs.lemmas.Bool.{cases_lt}
use Rattle.std.proofs.lemmas.List.Edits.{paste-paste}
use Rattle.block.specs.Bits.{bits, bits_of}
use Rattle.block.specs.BitsLemmas.{length_bits, bits_append, take_bits, bits_mod, length_bits_of, bits_of_append, bits_of_cons, take_bits_of, drop_bits, drop_bits_of}
use Rattle.bits.proofs.Padding.{bits_shifted}

-- ---- numbers
pub bits_join : (j k hi lo : ℕ) → lo < 2 ^ k → bits (j + k) (hi * 2 ^ k + lo) ≡ bits j hi ++ bits k lo
bits_join j k hi lo h =
    bits_append j k (hi * 2 ^ k + lo)
    ∙ ap₂ ◌++◌ (ap (bits j) (shr_high hi k lo h)) (sym (bits_mod k (hi * 2 ^ k + lo)) ∙ ap (bits k) (mod_low hi k lo h))

module _ (old piece r c t : ℕ) (all : r + c + t ≡ 8) (fits : old < 256) (fits' : piece < 256) where
  head_lt : old / 2 ^ (8 - r) < 2 ^ r
  head_lt = let e : 8 ≡ r + (8 - r) = omega arith in shr_below old r (8 - r) (subst (λ n. old < 2 ^ n) e fits)

  middle_lt : piece / 2 ^ (8 - c) < 2 ^ c
  middle_lt = let e : 8 ≡ c + (8 - c) = omega arith in shr_below piece c (8 - c) (subst (λ n. piece < 2 ^ n) e fits')

  tail_lt : old % 2 ^ t < 2 ^ t
  tail_lt = mod_below old (2 ^ t) (pow_pos t)

  front_lt : old / 2 ^ (8 - r) * 2 ^ c + piece / 2 ^ (8 - c) < 2 ^ (r + c)
  front_lt = subst (λ n. old / 2 ^ (8 - r) * 2 ^ c + piece / 2 ^ (8 - c) < n) (sym (pow-add 2 r c)) (digits_lt head_lt middle_lt)

  pub word_is : bit_or (bit_or (old / 2 ^ (8 - r) * 2 ^ c % 2 ^ 32) (piece / 2 ^ (8 - c)) * 2 ^ t % 2 ^ 32) (old % (1 * 2 ^ t % 2 ^ 32)) ≡ (old / 2 ^ (8 - r) * 2 ^ c + piece / 2 ^ (8 - c)) * 2 ^ t + old % 2 ^ t
  word_is =
      let h = old / 2 ^ (8 - r) in
      let m = piece / 2 ^ (8 - c) in
      ap₂ (λ x y. bit_or (bit_or x m * 2 ^ t % 2 ^ 32) (old % y)) (shl_whole h r c 32 head_lt (omega arith)) (one_shl t 32 (omega arith))
      ∙ ap (λ x. bit_or (x * 2 ^ t % 2 ^ 32) (old % 2 ^ t)) (or_shifted h c m middle_lt)
      ∙ ap (λ x. bit_or x (old % 2 ^ t)) (shl_whole (h * 2 ^ c + m) (r + c) t 32 front_lt (omega arith))
      ∙ or_shifted (h * 2 ^ c + m) t (old % 2 ^ t) tail_lt

  pub word_lt : (old / 2 ^ (8 - r) * 2 ^ c + piece / 2 ^ (8 - c)) * 2 ^ t + old % 2 ^ t < 256
  word_lt = subst (λ n. (old / 2 ^ (8 - r) * 2 ^ c + piece / 2 ^ (8 - c)) * 2 ^ t + old % 2 ^ t < n) (sym (pow-add 2 (r + c) t) ∙ ap (λ n. 2 ^ n) all) (digits_lt front_lt tail_lt)

  pub word_bits : bits 8 ((old / 2 ^ (8 - r) * 2 ^ c + piece / 2 ^ (8 - c)) * 2 ^ t + old % 2 ^ t) ≡ paste (bits 8 old) r (bits 8 piece) c
  word_bits =
      let h = old / 2 ^ (8 - r) in
      let m = piece / 2 ^ (8 - c) in
      let er : r + (8 - r) ≡ 8 = omega arith in
      let ec : c + (8 - c) ≡ 8 = omega arith in
      ap (λ n. bits n ((h * 2 ^ c + m) * 2 ^ t + old % 2 ^ t)) (sym all)
      ∙ bits_join (r + c) t (h * 2 ^ c + m) (old % 2 ^ t) tail_lt
      ∙ ap₂ ◌++◌ (bits_join r c h m middle_lt) (bits_mod t old)
      ∙ ap₂ ◌++◌
      (ap₂ ◌++◌ (sym (take_bits r (8 - r) old) ∙ ap (λ n. take r (bits n old)) er) (sym (take_bits c (8 - c) piece) ∙ ap (λ n. take c (bits n piece)) ec))
      (sym (drop_bits (r + c) t old) ∙ ap (λ n. drop (r + c) (bits n old)) all)

-- ---- lists
module _ {X : Type 0} where
  paste_inside : (front mid back ys : List X) (f r c : ℕ) → length front ≡ f → r + c ≤ length mid → paste (front ++ (mid ++ back)) (f + r) ys c ≡ front ++ (paste mid r ys c ++ back)
  paste_inside front mid back ys f r c e h =
      let at : f + r + c ≡ f + (r + c) = omega arith in
      let short : r ≤ length mid = omega arith in
      ap₂ (λ x y. x ++ take c ys ++ y)
      (ap (λ n. take (n + r) (front ++ (mid ++ back))) (sym e) ∙ take-append-add front (mid ++ back) r ∙ ap (λ z. front ++ z) (take-append-le r mid back short))
      (ap (λ n. drop n (front ++ (mid ++ back))) (at ∙ ap (λ n. n + (r + c)) (sym e)) ∙ drop-append-add front (mid ++ back) (r + c) ∙ drop-append-le (r + c) mid back h)
      ∙ simp append_assoc

  pub paste_onward : (d s : List X) (at q c : ℕ) → q + c ≤ length s → at ≤ length d → paste (paste d at s q) (at + q) (drop q s) c ≡ paste d at s (q + c)
  paste_onward d s at q c h k =
      let lq : q ≡ length (take q s) = sym (length-take-le q s (omega arith)) in
      let lc : c ≡ length (take c (drop q s)) = sym (length-take-le c (drop q s) (let e = length-drop q s in omega arith)) in
      sym (ap₂ (λ x y. paste (take at d ++ x ++ drop (at + q) d) (at + q) (take c (drop q s)) c) (take-take q q s (omega arith)) lq ∙ ap (λ x. take (at + q) (paste d at s q) ++ x ++ drop (at + q + c) (paste d at s q)) (take-take c c (drop q s) (omega arith)))
      ∙ paste-paste d at (take q s) (take c (drop q s)) q c lq lc k
      ∙ ap (λ z. take at d ++ z ++ drop (at + (q + c)) d) (ap (take (q + c)) (sym (take-add q c s)) ∙ take-take (q + c) (q + c) s (omega arith))

-- one byte of the memory
pub byte_pasted : (memory : List ℕ) (j v r c : ℕ) (ys : List Bool) → j < length memory → r + c ≤ 8 → bits 8 v ≡ paste (bits 8 (get_or memory j 0)) r ys c → bits_of (set memory j v) ≡ paste (bits_of memory) (8 * j + r) ys c
byte_pasted memory j v r c ys h k e =
    let x = get_or memory j 0 in
    let front = bits_of (take j memory) in
    let back = bits_of (drop (suc j) memory) in
    let long : length front ≡ 8 * j = length_bits_of (take j memory) ∙ ap (λ n. 8 * n) (length-take-le j memory (omega arith)) in
    let eight = length_bits 8 x in
    let whole : bits_of memory ≡ front ++ (bits 8 x ++ back) =
    ap bits_of (sym (take-append-drop j memory)) ∙ bits_of_append (take j memory) (drop j memory)
    ∙ ap (λ z. front ++ z) (ap bits_of (drop-cons memory j 0 h) ∙ bits_of_cons x (drop (suc j) memory)) in
    ap bits_of (set_split memory j v h) ∙ bits_of_append (take j memory) (v ∷ drop (suc j) memory)
    ∙ ap (λ z. front ++ z) (bits_of_cons v (drop (suc j) memory) ∙ ap (λ z. z ++ back) e)
    ∙ sym (paste_inside front (bits 8 x) back ys (8 * j) r c long (omega arith))
    ∙ ap (λ z. paste z (8 * j + r) ys c) (sym whole)

-- ---- eight bits from any bit on
module _ (xs : List ℕ) (q : ℕ) (h : q < 8 * length xs) where
  behind : drop q (bits_of xs) ≡ drop (q % 8) (bits 8 (get_or xs (q / 8) 0) ++ bits_of (drop (q / 8 + 1) xs))
  behind =
      let at : 8 * (q / 8) + q % 8 ≡ q = omega arith in
      ap (λ n. drop n (bits_of xs)) (sym at) ∙ sym (drop-drop (q % 8) (8 * (q / 8)) (bits_of xs))
      ∙ ap (drop (q % 8)) (drop_bits_of (q / 8) xs (omega arith) ∙ ap bits_of (drop_more xs (q / 8) 0 (omega arith)) ∙ bits_of_cons (get_or xs (q / 8) 0) (drop (q / 8 + 1) xs))

  -- the same up to c bits, whatever follows the two bytes
  two : (y c : ℕ) → y ≡ get_or xs (q / 8 + 1) 0 → c ≤ 8 → q + c ≤ 8 * length xs
      → take c (drop (q % 8) (bits 8 (get_or xs (q / 8) 0) ++ bits 8 y)) ≡ take c (drop (q % 8) (bits 8 (get_or xs (q / 8) 0) ++ bits_of (drop (q / 8 + 1) xs)))
  two y c e s fits = at (cases_lt (q / 8 + 1) (length xs))
    where
      x : ℕ
      x = get_or xs (q / 8) 0

      long : length (bits 8 x) ≡ 8
      long = length_bits 8 x

      skip : (zs : List Bool) → drop (q % 8) (bits 8 x ++ zs) ≡ drop (q % 8) (bits 8 x) ++ zs
      skip zs = drop-append-le (q % 8) (bits 8 x) zs (let l = long in omega arith)

      left : length (drop (q % 8) (bits 8 x)) ≡ 8 - q % 8
      left = length-drop (q % 8) (bits 8 x) ∙ ap (λ n. n - q % 8) long

      at : (q / 8 + 1 < length xs) ⊎ (length xs ≤ q / 8 + 1) → take c (drop (q % 8) (bits 8 x ++ bits 8 y)) ≡ take c (drop (q % 8) (bits 8 x ++ bits_of (drop (q / 8 + 1) xs)))
      at (inl more) =
          let both : length (drop (q % 8) (bits 8 x) ++ bits 8 y) ≡ 8 - q % 8 + 8 = length-append (drop (q % 8) (bits 8 x)) (bits 8 y) ∙ ap₂ ◌+◌ left (length_bits 8 y) in
          ap (take c) (skip (bits 8 y))
          ∙ sym (take-append-le c (drop (q % 8) (bits 8 x) ++ bits 8 y) (bits_of (drop (q / 8 + 1 + 1) xs)) (omega arith))
          ∙ ap (take c) (append_assoc (drop (q % 8) (bits 8 x)) (bits 8 y) (bits_of (drop (q / 8 + 1 + 1) xs))
          ∙ ap (λ z. drop (q % 8) (bits 8 x) ++ z) (ap (λ z. bits 8 z ++ bits_of (drop (q / 8 + 1 + 1) xs)) e ∙ sym (ap bits_of (drop_more xs (q / 8 + 1) 0 more) ∙ bits_of_cons (get_or xs (q / 8 + 1) 0) (drop (q / 8 + 1 + 1) xs)))
          ∙ sym (skip (bits_of (drop (q / 8 + 1) xs))))
      at (inr done) =
          let short : c ≤ length (drop (q % 8) (bits 8 x)) = let l = left in omega arith in
          ap (take c) (skip (bits 8 y)) ∙ take-append-le c (drop (q % 8) (bits 8 x)) (bits 8 y) short
          ∙ sym (ap (take c) (skip (bits_of (drop (q / 8 + 1) xs))) ∙ take-append-le c (drop (q % 8) (bits 8 x)) (bits_of (drop (q / 8 + 1) xs)) short)

  -- two bytes moved up, so that bit q stands highest: the high byte
  pub window_bits : (y w c : ℕ) → y ≡ get_or xs (q / 8 + 1) 0 → y < 256 → w ≡ get_or xs (q / 8) 0 * 256 + y → c ≤ 8 → q + c ≤ 8 * length xs
      → take c (bits 8 (w * 2 ^ (q % 8) % 2 ^ 16 / 256 % 256)) ≡ take c (drop q (bits_of xs))
  window_bits y w c e small ew s fits =
      let k = q % 8 in
      let r = 8 + (8 - k) in
      let v = w * 2 ^ k % 2 ^ 16 in
      let n : k + r ≡ 16 = omega arith in
      let up : bits 16 v ≡ bits r w ++ replicate k false = bits_mod 16 (w * 2 ^ k) ∙ ap (λ z. bits z (w * 2 ^ k)) (let m : 16 ≡ r + k = omega arith in m) ∙ bits_shifted r k w in
      let high : bits 8 (v / 256 % 256) ≡ take 8 (bits r w) =
      bits_mod 8 (v / 256) ∙ sym (take_bits 8 8 v) ∙ ap (take 8) up ∙ take-append-le 8 (bits r w) (replicate k false) (let l = length_bits r w in omega arith) in
      let rest : drop k (bits 16 w) ≡ bits r w = ap (λ z. drop k (bits z w)) (sym n) ∙ drop_bits k r w in
      ap (take c) high ∙ take-take c 8 (bits r w) s
      ∙ ap (take c) (sym rest ∙ ap (λ z. drop k (bits 16 z)) ew ∙ ap (drop k) (bits_join 8 8 (get_or xs (q / 8) 0) y small))
      ∙ two y c e s fits ∙ ap (take c) (sym behind)

-- one turn of the loop
pub turn : (old memory edit : List ℕ) (pos q c v piece : ℕ) → pos + q < 8 * length memory → q + c ≤ 8 * length edit → (pos + q) % 8 + c ≤ 8 → pos ≤ 8 * length old
    → bits_of memory ≡ paste (bits_of old) pos (bits_of edit) q
    → bits 8 v ≡ paste (bits 8 (get_or memory ((pos + q) / 8) 0)) ((pos + q) % 8) (bits 8 piece) c
    → take c (bits 8 piece) ≡ take c (drop q (bits_of edit))
    → bits_of (set memory ((pos + q) / 8) v) ≡ paste (bits_of old) pos (bits_of edit) (q + c)
turn old memory edit pos q c v piece h fits room start inv ev ep =
    let j = (pos + q) / 8 in
    let r = (pos + q) % 8 in
    let x = bits 8 (get_or memory j 0) in
    let at : 8 * j + r ≡ pos + q = omega arith in
    let le = length_bits_of edit in
    let lo = length_bits_of old in
    byte_pasted memory j v r c (drop q (bits_of edit)) (omega arith) room (ev ∙ ap (λ z. take r x ++ z ++ drop (r + c) x) ep)
    ∙ ap₂ (λ z y. paste z y (drop q (bits_of edit)) c) inv at
    ∙ paste_onward (bits_of old) (bits_of edit) pos q c (omega arith) (omega arith)

-- whole bytes
pub bytes_pasted : (memory edit : List ℕ) (start k : ℕ) → start + k ≤ length memory → k ≤ length edit → bits_of (paste memory start edit k) ≡ paste (bits_of memory) (8 * start) (bits_of edit) (8 * k)
bytes_pasted memory edit start k h fits =
    let at : 8 * (start + k) ≡ 8 * start + 8 * k = omega arith in
    bits_of_append (take start memory ++ take k edit) (drop (start + k) memory)
    ∙ ap₂ ◌++◌
    (bits_of_append (take start memory) (take k edit) ∙ ap₂ ◌++◌ (sym (take_bits_of start memory (omega arith))) (sym (take_bits_of k edit fits)))
    (sym (drop_bits_of (start + k) memory h) ∙ ap (λ n. drop n (bits_of memory)) at)

-- whole bytes, and then the bits behind them
pub copied : (memory edit mid rest all : List ℕ) (start k r : ℕ) → start + k ≤ length memory → 8 * k + r ≤ 8 * length edit
    → mid ≡ paste memory start (take k edit) k → rest ≡ drop k edit → bits_of all ≡ paste (bits_of mid) (8 * (start + k)) (bits_of rest) r
    → bits_of all ≡ paste (bits_of memory) (8 * start) (bits_of edit) (8 * k + r)
copied memory edit mid rest all start k r h fits em er ea =
    let at : 8 * (start + k) ≡ 8 * start + 8 * k = omega arith in
    let le = length_bits_of edit in
    let lm = length_bits_of memory in
    let whole : bits_of mid ≡ paste (bits_of memory) (8 * start) (bits_of edit) (8 * k) =
    ap bits_of (em ∙ ap (λ z. take start memory ++ z ++ drop (start + k) memory) (take-take k k edit (omega arith))) ∙ bytes_pasted memory edit start k h (omega arith) in
    let behind : bits_of rest ≡ drop (8 * k) (bits_of edit) = ap bits_of er ∙ sym (drop_bits_of k edit (omega arith)) in
    ea ∙ ap₂ (λ x y. paste x (8 * (start + k)) y r) whole behind
    ∙ ap (λ n. paste (paste (bits_of memory) (8 * start) (bits_of edit) (8 * k)) n (drop (8 * k) (bits_of edit)) r) at
    ∙ paste_onward (bits_of memory) (bits_of edit) (8 * start) (8 * k) r (omega arith) (omega arith)
