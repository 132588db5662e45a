-- Each cycle of XTEA is undone, and so is any number of them. Assumes nothing.
use Rattle.std.specs.Prelude.{◌≡◌, ℕ, zero, suc, ◌/◌, ◌%◌, ◌^◌, ◌<◌, List, slice_index}
use Rattle.std.proofs.Math.Path.{refl, ap}
use Rattle.std.proofs.Common.{◌∙◌, arith}
use Rattle.std.proofs.lemmas.Nat.{xor_lt}
use Rattle.xtea.specs.Cycles.{plus, minus, mixed, on_first, on_second, Words, Fit, sum, cycle, uncycle, enciphered, deciphered, Undone}

plus_lt : (a b : ℕ) → plus a b < 2 ^ 32
plus_lt a b = omega arith

minus_lt : (a b : ℕ) → minus a b < 2 ^ 32
minus_lt a b = omega arith

minus_plus : (a b : ℕ) → a < 2 ^ 32 → b < 2 ^ 32 → minus (plus a b) b ≡ a
minus_plus a b ha hb = omega arith

plus_minus : (a b : ℕ) → a < 2 ^ 32 → b < 2 ^ 32 → plus (minus a b) b ≡ a
plus_minus a b ha hb = omega arith

module _ (key : List ℕ) where
  first_lt : (s w : ℕ) → on_first key s w < 2 ^ 32
  first_lt s w = xor_lt 32 (mixed w) (plus s (slice_index key (s % 4))) (plus_lt _ _) (plus_lt _ _)

  second_lt : (s v : ℕ) → on_second key s v < 2 ^ 32
  second_lt s v = xor_lt 32 (mixed v) (plus s (slice_index key (s / 2048 % 4))) (plus_lt _ _) (plus_lt _ _)

  -- ---- one cycle

  cycle_fits : (i : ℕ) (p : Words) → Fit (cycle key i p)
  unfolding cycle
  cycle_fits i (v, w) = (plus_lt _ _, plus_lt _ _)

  uncycle_fits : (i : ℕ) (p : Words) → Fit (uncycle key i p)
  unfolding uncycle
  uncycle_fits i (v, w) = (minus_lt _ _, minus_lt _ _)

  uncycle_cycle : (i : ℕ) (p : Words) → Fit p → uncycle key i (cycle key i p) ≡ p
  unfolding cycle uncycle
  uncycle_cycle i (v, w) (hv, hw) =
      let v' = plus v (on_first key (sum i) w) in
      ap (λ (x : ℕ). (minus v' (on_first key (sum i) x), x)) (minus_plus w (on_second key (sum (suc i)) v') hw (second_lt (sum (suc i)) v'))
      ∙ ap (λ (x : ℕ). (x, w)) (minus_plus v (on_first key (sum i) w) hv (first_lt (sum i) w))

  cycle_uncycle : (i : ℕ) (p : Words) → Fit p → cycle key i (uncycle key i p) ≡ p
  unfolding cycle uncycle
  cycle_uncycle i (v, w) (hv, hw) =
      let w' = minus w (on_second key (sum (suc i)) v) in
      ap (λ (x : ℕ). (x, plus w' (on_second key (sum (suc i)) x))) (plus_minus v (on_first key (sum i) w') hv (first_lt (sum i) w'))
      ∙ ap (λ (x : ℕ). (v, x)) (plus_minus w (on_second key (sum (suc i)) v) hw (second_lt (sum (suc i)) v))

  -- ---- any number of cycles

  pub enciphered_fits : (n : ℕ) (p : Words) → Fit p → Fit (enciphered key n p)
  unfolding enciphered
  enciphered_fits zero p h = h
  enciphered_fits (suc n) p h = cycle_fits n (enciphered key n p)

  pub deciphered_fits : (n : ℕ) (p : Words) → Fit p → Fit (deciphered key n p)
  unfolding deciphered
  deciphered_fits zero p h = h
  deciphered_fits (suc n) p h = deciphered_fits n (uncycle key n p) (uncycle_fits n p)

  dec_enc : (n : ℕ) (p : Words) → Fit p → deciphered key n (enciphered key n p) ≡ p
  unfolding enciphered deciphered
  dec_enc zero p h = refl
  dec_enc (suc n) p h = ap (deciphered key n) (uncycle_cycle n (enciphered key n p) (enciphered_fits n p h)) ∙ dec_enc n p h

  enc_dec : (n : ℕ) (p : Words) → Fit p → enciphered key n (deciphered key n p) ≡ p
  unfolding enciphered deciphered
  enc_dec zero p h = refl
  enc_dec (suc n) p h = ap (cycle key n) (enc_dec n (uncycle key n p) (uncycle_fits n p)) ∙ cycle_uncycle n p h

pub undone : Undone
undone = record { dec_enc = dec_enc; enc_dec = enc_dec }
