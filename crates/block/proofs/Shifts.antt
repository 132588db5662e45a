-- What is shifted and masked in 128 bits, seen as a number of fewer bits. Assumes nothing.
use Rattle.std.proofs.Common.{◌≡◌, ℕ, zero, suc, ◌+◌, ◌-◌, ◌*◌, ◌/◌, ◌%◌, ◌^◌, ◌<◌, ◌≤◌, bit_and, bit_or, bit_xor, sym, ap, ◌∙◌, subst, arith, mod-eq_of_lt}
use Rattle.std.proofs.Math.Nat.{mod-mod}
use Rattle.std.proofs.Math.Pow.{pow-lt, mod-mod-pow, shr_mod}
use Rattle.std.proofs.lemmas.Nat.{and_mask, xor_mod, or_shifted}
use Rattle.std.proofs.lemmas.Nat.Bits.{ones_shr}
use Rattle.block.specs.Width.{reduced, doubled, halving, IsWidth}
use Rattle.block.specs.Blocks.{make}
use Rattle.block.specs.Laws.{same}
use Rattle.block.specs.declared.block_of.BlockOf.{BlockOf}

-- the k lowest bits, by a mask
pub masked : (k v : ℕ) → k ≤ 128 → bit_and v ((2 ^ 128 - 1) / 2 ^ (128 - k)) ≡ v % 2 ^ k
masked k v h =
    let e : 128 - (128 - k) ≡ k = omega arith in
    ap (bit_and v) (ones_shr 128 (128 - k) (omega arith) ∙ ap (λ j. 2 ^ j - 1) e) ∙ and_mask v k

-- what is shifted up in 128 bits has the k lowest bits of what is shifted up in k bits
shifted : (k x : ℕ) → k ≤ 128 → x * 2 % 2 ^ 128 % 2 ^ k ≡ x * 2 % 2 ^ k % 2 ^ k
shifted k x h =
    let e : 128 - k + k ≡ 128 = omega arith in
    ap (λ n. x * 2 % 2 ^ n % 2 ^ k) (sym e) ∙ mod-mod-pow (x * 2) (128 - k) k ∙ sym (mod-mod (x * 2) (2 ^ k))

reduced_low : (k b c y z : ℕ) → y % 2 ^ k ≡ z % 2 ^ k → reduced b c y % 2 ^ k ≡ reduced b c z % 2 ^ k
reduced_low k zero c y z e = e
reduced_low k (suc b) c y z e = xor_mod y c k ∙ ap (λ v. bit_xor v (c % 2 ^ k)) e ∙ sym (xor_mod z c k)

doubled_low : (k c x : ℕ) → x < 2 ^ k → 0 < k → k ≤ 128 → reduced (x / 2 ^ (k - 1)) c (x * 2 % 2 ^ 128) % 2 ^ k ≡ doubled k c x % 2 ^ k
doubled_low k c x h some small =
    let n : 1 + (k - 1) ≡ k = omega arith in
    ap (λ b. reduced b c (x * 2 % 2 ^ 128) % 2 ^ k) (sym (shr_mod 1 (k - 1) (subst (λ j. x < 2 ^ j) (sym n) h)))
    ∙ reduced_low k (x / 2 ^ (k - 1) % 2) c _ _ (shifted k x small)

pub doubled_made : (size c n : ℕ) (x r : BlockOf size) → r ≡ make size (reduced (x.value / 2 ^ (8 * size - 1)) n (x.value * 2 % 2 ^ 128)) → n ≡ c → 0 < size → size ≤ 16 → r ≡ make size (doubled (8 * size) c x.value)
doubled_made size c n x r er en some small =
    er ∙ same _ _ (doubled_low (8 * size) n x.value x.fits (omega arith) (omega arith)) ∙ ap (λ z. make size (doubled (8 * size) z x.value)) en

-- what halving reduces by, made of bits
pub halving_made : (size c n : ℕ) → IsWidth size c → n ≡ c → bit_or (1 * 2 ^ (8 * size - 1) % 2 ^ 128) (n / 2) ≡ halving size c
halving_made size c n w e =
    let k = 8 * size - 1 in
    let bits : suc k ≡ 8 * size = omega (arith, w.some) in
    let fits : n < 2 ^ suc k = subst (λ j. n < 2 ^ j) (sym bits) (subst (λ z. z < 2 ^ (8 * size)) (sym e) w.fits) in
    let wide : 2 ^ k < 2 ^ 128 = pow-lt {i = k} {j = 128} (omega (arith, w.small)) in
    let first : 1 * 2 ^ k % 2 ^ 128 ≡ 1 * 2 ^ k = mod-eq_of_lt (omega arith) in
    ap (λ z. bit_or z (n / 2)) first ∙ or_shifted 1 k (n / 2) (omega arith) ∙ omega (arith, e)
