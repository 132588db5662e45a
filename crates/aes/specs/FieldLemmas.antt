-- The field: ⊕, and products as linear maps. Assumes nothing.
use Rattle.std.specs.Prelude.{◌≡◌, ℕ, zero, suc, ◌/◌, ◌%◌, ◌<◌, min, bit_xor, refl}
use Rattle.std.proofs.Common.{ap, ap₂, ◌∙◌, arith, lit<}
use Rattle.std.proofs.lemmas.Nat.{xor_lt, xor_comm}
use Rattle.std.specs.Int.Bits.{xor_assoc, xor_self, xor_zero_r}
use Rattle.block.specs.WidthLemmas.{Shifts, shifts, xors, xor_cancel}
use Rattle.aes.specs.Field.{xtime, chosen, product, times, inverse, powers, InverseIsOne}
use Rattle.aes.specs.Rules.{agree}

pub xor_around : (a b : ℕ) → bit_xor a (bit_xor b a) ≡ b
xor_around a b = ap (bit_xor a) (xor_comm b a) ∙ xor_cancel a b

pub xor_undo : (x k : ℕ) → bit_xor (bit_xor x k) k ≡ x
xor_undo x k = xor_assoc x k k ∙ ap (bit_xor x) (xor_self k) ∙ xor_zero_r x

-- doubling a byte is doubling at the width 8
doubling : Shifts 8 0x1B 0x8D
doubling = shifts 7 13 (lit< tt)

pub xtime_xor : (x y : ℕ) → xtime (bit_xor x y) ≡ bit_xor (xtime x) (xtime y)
unfolding xtime
xtime_xor = doubling.double_xor

pub xtime_zero : xtime 0 ≡ 0
unfolding xtime
xtime_zero = refl

pub xtime_lt : (x : ℕ) → x < 256 → xtime x < 256
unfolding xtime
xtime_lt = doubling.double_fits

pub ruleset linear = (xors, xtime_xor, xtime_zero)

-- ---- products

chosen_xor : (t u v : ℕ) → chosen t (bit_xor u v) ≡ bit_xor (chosen t u) (chosen t v)
chosen_xor zero u v = refl
chosen_xor (suc t) u v = refl

swap : (a b c d : ℕ) → bit_xor (bit_xor a b) (bit_xor c d) ≡ bit_xor (bit_xor a c) (bit_xor b d)
swap a b c d = simp xors

pub product_xor : (k a u v : ℕ) → product k a (bit_xor u v) ≡ bit_xor (product k a u) (product k a v)
product_xor zero a u v = refl
product_xor (suc k) a u v =
    ap₂ bit_xor (chosen_xor (a % 2) u v) (ap (product k (a / 2)) (xtime_xor u v) ∙ product_xor k (a / 2) (xtime u) (xtime v))
    ∙ swap (chosen (a % 2) u) (chosen (a % 2) v) (product k (a / 2) (xtime u)) (product k (a / 2) (xtime v))

chosen_lt : (t b : ℕ) → b < 256 → chosen t b < 256
chosen_lt zero b h = omega arith
chosen_lt (suc t) b h = h

pub product_lt : (k a b : ℕ) → b < 256 → product k a b < 256
product_lt zero a b h = omega arith
product_lt (suc k) a b h = xor_lt 8 (chosen (a % 2) b) (product k (a / 2) (xtime b)) (chosen_lt (a % 2) b h) (product_lt k (a / 2) (xtime b) (xtime_lt b h))

pub inverse_is_one : InverseIsOne
unfolding inverse powers xtime
inverse_is_one a p h = agree (λ x. times x (inverse x)) (λ x. min x 1) 256 refl a h ∙ least a p
  where
    least : (a : ℕ) → 0 < a → min a 1 ≡ 1
    least zero p = omega arith
    least (suc a) p = omega arith
