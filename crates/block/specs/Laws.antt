-- The laws of blocks, once for every width and every type of blocks. Assumes nothing.
use Rattle.std.specs.Prelude.{◌≡◌, ℕ, ◌*◌, ◌%◌, ◌^◌, ◌<◌, ◌≤◌, bit_xor, refl}
use Rattle.std.proofs.Common.{sym, ap, ap₂, ◌∙◌, subst, mod-eq_of_lt, pow_pos}
use Rattle.std.proofs.Math.Bridge.{le_prop}
use Rattle.std.proofs.lemmas.Nat.{xor_lt, xor_comm}
use Rattle.std.specs.Int.Bits.{xor_assoc, xor_self, xor_zero_r}
use Rattle.block.specs.Bits.{bits, number, bits_of, bytes_of}
use Rattle.block.specs.Arith.{Arith, Laws, BytesReadBack}
use Rattle.block.specs.Width.{doubled, halved, halving, arith_of, IsWidth}
use Rattle.block.specs.Blocks.{make, arith}
use Rattle.block.specs.BitsLemmas.{length_bits, number_bits, bits_mod, bits_number, bits_zero, length_bits_of, bits_of_bytes_of, bytes_of_bits_of}
use Rattle.block.specs.WidthLemmas.{Shifts, shifts_at}
use Rattle.block.specs.declared.block_of.BlockOf.{BlockOf}

-- blocks of one number are the same
pub same : {size : ℕ} (x y : BlockOf size) → x.value ≡ y.value → x ≡ y
same {size} x y e =
    subst (λ (w : ℕ). (q : w < 2 ^ (8 * size)) → x ≡ record { value = w; fits = q }) e (λ q. ap (λ p. record { value = x.value; fits = p }) (le_prop x.fits q)) y.fits

-- for any type B with a number for each block
module _ {B : Type 0} (value : B → ℕ) (make : ℕ → B) (size c d : ℕ)
    (some : 0 < size) (small : size ≤ 16)
    (fits : (x : B) → value x < 2 ^ (8 * size))
    (made : (v : ℕ) → value (make v) ≡ v % 2 ^ (8 * size))
    (same : (x y : B) → value x ≡ value y → x ≡ y)
    (s : Shifts (8 * size) c d) where
  kept : (v : ℕ) → v < 2 ^ (8 * size) → value (make v) ≡ v
  kept v h = made v ∙ mod-eq_of_lt h

  xor_kept : (x y : B) → value (make (bit_xor (value x) (value y))) ≡ bit_xor (value x) (value y)
  xor_kept x y = kept _ (xor_lt (8 * size) (value x) (value y) (fits x) (fits y))

  double_kept : (x : B) → value (make (doubled (8 * size) c (value x))) ≡ doubled (8 * size) c (value x)
  double_kept x = kept _ (s.double_fits (value x) (fits x))

  halve_kept : (x : B) → value (make (halved d (value x))) ≡ halved d (value x)
  halve_kept x = kept _ (s.halve_fits (value x) (fits x))

  back : (x : B) (v : ℕ) → v ≡ value x → make v ≡ x
  back x v e = same _ _ (made v ∙ ap (λ n. n % 2 ^ (8 * size)) e ∙ mod-eq_of_lt (fits x))

  pub laws_of : Laws (arith_of value make size c d)
  laws_of = record {
    some = some;
    small = small;
    regroups = λ x y z. ap make (ap (λ v. bit_xor v (value z)) (xor_kept x y) ∙ xor_assoc (value x) (value y) (value z) ∙ ap (bit_xor (value x)) (sym (xor_kept y z)));
    reorders = λ x y. ap make (xor_comm (value x) (value y));
    cancels = λ x. ap make (xor_self (value x));
    keeps = λ x. back x _ (ap (bit_xor (value x)) (kept 0 (pow_pos (8 * size))) ∙ xor_zero_r (value x));
    halve_double = λ x. back x _ (ap (halved d) (double_kept x) ∙ s.halve_double (value x) (fits x));
    double_halve = λ x. back x _ (ap (doubled (8 * size) c) (halve_kept x) ∙ s.double_halve (value x) (fits x));
    double_plus = λ x y. ap make (ap (doubled (8 * size) c) (xor_kept x y) ∙ s.double_xor (value x) (value y) ∙ sym (ap₂ bit_xor (double_kept x) (double_kept y)));
    halve_plus = λ x y. ap make (ap (halved d) (xor_kept x y) ∙ s.halve_xor (value x) (value y) ∙ sym (ap₂ bit_xor (halve_kept x) (halve_kept y)));
    long = λ x. length_bits (8 * size) (value x);
    blank = ap (bits (8 * size)) (kept 0 (pow_pos (8 * size))) ∙ bits_zero (8 * size);
    pack_unpack = λ x. back x _ (number_bits (8 * size) (value x) ∙ mod-eq_of_lt (fits x));
    unpack_pack = λ bs e. ap (bits (8 * size)) (made (number bs)) ∙ bits_mod (8 * size) (number bs) ∙ bits_number (8 * size) bs e;
  }

-- and so for blocks of `size` bytes
pub laws : (size c : ℕ) → IsWidth size c → Laws (arith size c)
laws size c w = laws_of (λ x. x.value) (make size) size c (halving size c) w.some w.small (λ x. x.fits) (λ v. refl) same (shifts_at size c w)

-- from the bits to the bytes
pub bytes_read_back : {B : Type 0} {A : Arith B} → Laws A → BytesReadBack A
bytes_read_back {A = A} w = record {
  block = λ x. ap A.pack (bits_of_bytes_of A.size (A.unpack x) (w.long x)) ∙ w.pack_unpack x;
  bytes = λ xs e f. ap (bytes_of A.size) (w.unpack_pack (bits_of xs) (length_bits_of xs ∙ ap (λ n. 8 * n) e)) ∙ ap (λ n. bytes_of n (bits_of xs)) (sym e) ∙ bytes_of_bits_of xs f;
}
