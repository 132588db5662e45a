-- Doubling and halving, once for every width of suc m bits: with e below 2 ^ m, doubling reduces by e * 2 + 1
-- and halving by 2 ^ m + e. Assumes nothing.
use Rattle.std.specs.Prelude.{◌≡◌, ℕ, zero, suc, ◌+◌, ◌-◌, ◌*◌, ◌/◌, ◌%◌, ◌^◌, ◌<◌, bit_xor, refl}
use Rattle.std.proofs.Common.{sym, ap, ap₂, ◌∙◌, subst, add-zero, mod-eq_of_lt, arith, pow_pos, lit<, lit≤}
use Rattle.std.proofs.Math.Nat.{div-eq_of_lt}
use Rattle.std.proofs.lemmas.Nat.{shr_split, shr_high, mod_low, mod_below, div_below, xor_lt, xor_comm, xor_block, xor_shr, xor_mod}
use Rattle.std.specs.Int.Bits.{xor_assoc, xor_self, xor_zero_r, xor_shifted}
use Rattle.block.specs.Width.{reduced, doubled, halved, halving, IsWidth}

-- what doubling with c and halving with d keep, at n bits
pub record Shifts (n c d : ℕ) : Type 0 where
  pub double_fits : (x : ℕ) → x < 2 ^ n → doubled n c x < 2 ^ n
  pub halve_fits : (x : ℕ) → x < 2 ^ n → halved d x < 2 ^ n
  pub halve_double : (x : ℕ) → x < 2 ^ n → halved d (doubled n c x) ≡ x
  pub double_halve : (x : ℕ) → x < 2 ^ n → doubled n c (halved d x) ≡ x
  pub double_xor : (x y : ℕ) → doubled n c (bit_xor x y) ≡ bit_xor (doubled n c x) (doubled n c y)
  pub halve_xor : (x y : ℕ) → halved d (bit_xor x y) ≡ bit_xor (halved d x) (halved d y)

-- ---- exclusive or, as a commutative group in which each is its own inverse
pub xor_left_comm : (a b c : ℕ) → bit_xor a (bit_xor b c) ≡ bit_xor b (bit_xor a c)
xor_left_comm a b c = sym (xor_assoc a b c) ∙ ap (λ (x : ℕ). bit_xor x c) (xor_comm a b) ∙ xor_assoc b a c

pub xor_cancel : (a b : ℕ) → bit_xor a (bit_xor a b) ≡ b
xor_cancel a b = sym (xor_assoc a a b) ∙ ap (λ (x : ℕ). bit_xor x b) (xor_self a)

pub ruleset xors = (xor_assoc, xor_comm, xor_left_comm, xor_cancel, xor_self, xor_zero_r)

-- one more 0 or 1 at the low end of two numbers
pub xor_ends : (a b i j : ℕ) → i < 2 → j < 2 → bit_xor (a * 2 + i) (b * 2 + j) ≡ bit_xor a b * 2 + bit_xor i j
xor_ends a b i j hi hj = xor_block 1 a b i j hi hj

pub xor_twice : (a b : ℕ) → bit_xor (a * 2) (b * 2) ≡ bit_xor a b * 2
xor_twice a b =
    ap₂ bit_xor (sym (add-zero (a * 2))) (sym (add-zero (b * 2))) ∙ xor_ends a b 0 0 (omega arith) (omega arith) ∙ add-zero (bit_xor a b * 2)

-- ---- reduced in is linear
pub reduced_xor : (b b' c y y' : ℕ) → b < 2 → b' < 2 → reduced (bit_xor b b') c (bit_xor y y') ≡ bit_xor (reduced b c y) (reduced b' c y')
reduced_xor zero zero c y y' h h' = refl
reduced_xor zero (suc zero) c y y' h h' = xor_assoc y y' c
reduced_xor (suc zero) zero c y y' h h' = simp xors
reduced_xor (suc zero) (suc zero) c y y' h h' = simp xors
reduced_xor zero (suc (suc b)) c y y' h h' = omega arith
reduced_xor (suc zero) (suc (suc b)) c y y' h h' = omega arith
reduced_xor (suc (suc b)) b' c y y' h h' = omega arith

reduced_lt : (n b c y : ℕ) → c < 2 ^ n → y < 2 ^ n → reduced b c y < 2 ^ n
reduced_lt n zero c y hc hy = hy
reduced_lt n (suc b) c y hc hy = xor_lt n y c hy hc

halved_even : (d q : ℕ) → halved d (q * 2) ≡ q
halved_even d q =
    let even : (q * 2) % 2 ≡ 0 = omega arith in
    let half : (q * 2) / 2 ≡ q = omega arith in
    ap₂ (λ (b y : ℕ). reduced b d y) even half

halved_odd : (d q : ℕ) → halved d (q * 2 + 1) ≡ bit_xor q d
halved_odd d q =
    let odd : (q * 2 + 1) % 2 ≡ 1 = omega arith in
    let half : (q * 2 + 1) / 2 ≡ q = omega arith in
    ap₂ (λ (b y : ℕ). reduced b d y) odd half

-- a number by its lowest digit
by_low : (P : ℕ → Type 0) → ((q : ℕ) → P (q * 2)) → ((q : ℕ) → P (q * 2 + 1)) → (x : ℕ) → P x
by_low P even odd x = at (x % 2) (x / 2) (omega arith) (omega arith)
  where
    at : (t q : ℕ) → t < 2 → q * 2 + t ≡ x → P x
    at zero q h e = subst P (sym (add-zero (q * 2)) ∙ e) (even q)
    at (suc zero) q h e = subst P e (odd q)
    at (suc (suc t)) q h e = absurd (omega arith)

module _ (m : ℕ) where
  top_lt : (x : ℕ) → x < 2 ^ suc m → x / 2 ^ m < 2
  top_lt x h = div_below x (2 ^ m) 2 (pow_pos m) (omega arith)

  doubled_by : (c x b y : ℕ) → x / 2 ^ m % 2 ≡ b → (x * 2) % 2 ^ suc m ≡ y → doubled (suc m) c x ≡ reduced b c y
  doubled_by c x b y eb ey =
      let k : suc m - 1 ≡ m = omega arith in
      ap (λ (j : ℕ). reduced (x / 2 ^ j % 2) c ((x * 2) % 2 ^ suc m)) k ∙ ap₂ (λ (u v : ℕ). reduced u c v) eb ey

  doubled_low : (c r : ℕ) → r < 2 ^ m → doubled (suc m) c r ≡ r * 2
  doubled_low c r h =
      doubled_by c r 0 (r * 2) (ap (λ (z : ℕ). z % 2) (div-eq_of_lt h)) (mod-eq_of_lt (omega arith))

  doubled_high : (c r : ℕ) → r < 2 ^ m → doubled (suc m) c (1 * 2 ^ m + r) ≡ bit_xor (r * 2) c
  doubled_high c r h =
      let out : (1 * 2 ^ m + r) * 2 ≡ 1 * 2 ^ suc m + r * 2 = omega arith in
      doubled_by c (1 * 2 ^ m + r) 1 (r * 2) (ap (λ (z : ℕ). z % 2) (shr_high 1 m r h)) (ap (λ (z : ℕ). z % 2 ^ suc m) out ∙ mod_low 1 (suc m) (r * 2) (omega arith))

  -- a number by its highest digit
  by_high : (P : ℕ → Type 0) → ((r : ℕ) → r < 2 ^ m → P r) → ((r : ℕ) → r < 2 ^ m → P (1 * 2 ^ m + r)) → (x : ℕ) → x < 2 ^ suc m → P x
  by_high P low high x h = at (x / 2 ^ m) (x % 2 ^ m) (top_lt x h) (mod_below x (2 ^ m) (pow_pos m)) (shr_split x m)
    where
      at : (b r : ℕ) → b < 2 → r < 2 ^ m → b * 2 ^ m + r ≡ x → P x
      at zero r hb hr e = let same : r ≡ x = omega arith in subst P same (low r hr)
      at (suc zero) r hb hr e = subst P e (high r hr)
      at (suc (suc b)) r hb hr e = absurd (omega arith)

module _ (m e : ℕ) (he : e < 2 ^ m) where
  -- the first digit and the others
  high_is : (r : ℕ) → r < 2 ^ m → bit_xor (1 * 2 ^ m) r ≡ 1 * 2 ^ m + r
  high_is r h = xor_shifted 1 m r h

  onto_odd : (r : ℕ) → bit_xor (r * 2) (e * 2 + 1) ≡ bit_xor r e * 2 + 1
  onto_odd r = ap (λ (z : ℕ). bit_xor z (e * 2 + 1)) (sym (add-zero (r * 2))) ∙ xor_ends r e 0 1 (omega arith) (omega arith)

  halve_double : (x : ℕ) → x < 2 ^ suc m → halved (1 * 2 ^ m + e) (doubled (suc m) (e * 2 + 1) x) ≡ x
  halve_double =
      let P : ℕ → Type 0 = λ x. halved (1 * 2 ^ m + e) (doubled (suc m) (e * 2 + 1) x) ≡ x in
      by_high m P
      (λ r h. ap (halved (1 * 2 ^ m + e)) (doubled_low m (e * 2 + 1) r h) ∙ halved_even (1 * 2 ^ m + e) r)
      (λ r h.
      ap (halved (1 * 2 ^ m + e)) (doubled_high m (e * 2 + 1) r h ∙ onto_odd r)
      ∙ halved_odd (1 * 2 ^ m + e) (bit_xor r e)
      ∙ ap (bit_xor (bit_xor r e)) (sym (high_is e he))
      ∙ (simp xors)
      ∙ high_is r h)

  double_halve : (x : ℕ) → x < 2 ^ suc m → doubled (suc m) (e * 2 + 1) (halved (1 * 2 ^ m + e) x) ≡ x
  double_halve =
      by_low (λ x. x < 2 ^ suc m → doubled (suc m) (e * 2 + 1) (halved (1 * 2 ^ m + e) x) ≡ x)
      (λ q h. ap (doubled (suc m) (e * 2 + 1)) (halved_even (1 * 2 ^ m + e) q) ∙ doubled_low m (e * 2 + 1) q (omega arith))
      (λ q h.
      let hq : q < 2 ^ m = omega arith in
      ap (doubled (suc m) (e * 2 + 1)) (halved_odd (1 * 2 ^ m + e) q ∙ ap (bit_xor q) (sym (high_is e he)) ∙ xor_left_comm q (1 * 2 ^ m) e ∙ high_is (bit_xor q e) (xor_lt m q e hq he))
      ∙ doubled_high m (e * 2 + 1) (bit_xor q e) (xor_lt m q e hq he)
      ∙ onto_odd (bit_xor q e)
      ∙ ap (λ (z : ℕ). z * 2 + 1) (simp xors))

  double_xor : (x y : ℕ) → doubled (suc m) (e * 2 + 1) (bit_xor x y) ≡ bit_xor (doubled (suc m) (e * 2 + 1) x) (doubled (suc m) (e * 2 + 1) y)
  double_xor x y =
      ap₂ (λ (b z : ℕ). reduced b (e * 2 + 1) z)
      (ap (λ (z : ℕ). z % 2) (xor_shr x y (suc m - 1)) ∙ xor_mod (x / 2 ^ (suc m - 1)) (y / 2 ^ (suc m - 1)) 1)
      (ap (λ (z : ℕ). z % 2 ^ suc m) (sym (xor_twice x y)) ∙ xor_mod (x * 2) (y * 2) (suc m))
      ∙ reduced_xor (x / 2 ^ (suc m - 1) % 2) (y / 2 ^ (suc m - 1) % 2) (e * 2 + 1) ((x * 2) % 2 ^ suc m) ((y * 2) % 2 ^ suc m) (omega arith) (omega arith)

  halve_xor : (x y : ℕ) → halved (1 * 2 ^ m + e) (bit_xor x y) ≡ bit_xor (halved (1 * 2 ^ m + e) x) (halved (1 * 2 ^ m + e) y)
  halve_xor x y =
      ap₂ (λ (b z : ℕ). reduced b (1 * 2 ^ m + e) z) (xor_mod x y 1) (xor_shr x y 1)
      ∙ reduced_xor (x % 2) (y % 2) (1 * 2 ^ m + e) (x / 2) (y / 2) (omega arith) (omega arith)

  pub shifts : Shifts (suc m) (e * 2 + 1) (1 * 2 ^ m + e)
  shifts = record {
    double_fits = λ x h. reduced_lt (suc m) (x / 2 ^ (suc m - 1) % 2) (e * 2 + 1) ((x * 2) % 2 ^ suc m) (omega arith) (mod_below (x * 2) (2 ^ suc m) (pow_pos (suc m)));
    halve_fits = λ x h. reduced_lt (suc m) (x % 2) (1 * 2 ^ m + e) (x / 2) (omega arith) (omega arith);
    halve_double = halve_double;
    double_halve = double_halve;
    double_xor = double_xor;
    halve_xor = halve_xor;
  }

-- ---- at a size in bytes
pub shifts_at : (size c : ℕ) → IsWidth size c → Shifts (8 * size) c (halving size c)
shifts_at size c w =
    let m = 8 * size - 1 in
    let bits : suc m ≡ 8 * size = omega (arith, w.some) in
    let odd : c / 2 * 2 + 1 ≡ c = omega (arith, w.odd) in
    let fits : c < 2 ^ suc m = subst (λ n. c < 2 ^ n) (sym bits) w.fits in
    let high : 1 * 2 ^ m + c / 2 ≡ halving size c = omega arith in
    subst (λ n. Shifts n c (halving size c)) bits
    (subst (λ z. Shifts (suc m) z (halving size c)) odd
    (subst (Shifts (suc m) (c / 2 * 2 + 1)) high (shifts m (c / 2) (omega arith))))

pub width64 : IsWidth 8 0x1B
width64 = record { some = lit< tt; small = lit≤ tt; odd = refl; fits = lit< tt }

pub width128 : IsWidth 16 0x87
width128 = record { some = lit< tt; small = lit≤ tt; odd = refl; fits = lit< tt }
