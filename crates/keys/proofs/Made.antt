-- An array made by calls of a closure that does not change, and the bytes that digits spell. Assumes nothing.
use Rattle.std.proofs.Common.{◌≡◌, ℕ, zero, suc, ◌+◌, ◌*◌, ◌<◌, ◌≤◌, List, [], ◌∷◌, length, get_or, sym, refl, ap, ◌∙◌, subst, add-one, zero-add, arith}
use Rattle.std.specs.Fn.{Called, Mut}
use Rattle.std.specs.Array.{IsFromFnResultFrom, IsFromFnResult}
use Rattle.std.proofs.lemmas.Grind.{same_number_lists}
use Rattle.keys.specs.Digits.{spelled}

module _ {F : Type 0} (g : Mut F (ℕ × Unit {0}) ℕ) (f : F) (size : ℕ) (at : ℕ → ℕ) (says : (i y : ℕ) (q : F) → i < size → Called g f (i, tt) y q → (y ≡ at i) × (q ≡ f)) (ys : List ℕ) where
  made_at : (i n k : ℕ) → i + n ≤ size → IsFromFnResultFrom g f ys i n → k < n → get_or ys (i + k) 0 ≡ at (i + k)
  made_at i zero k l made h = absurd (omega arith)
  made_at i (suc n) zero l (q, y, here, called, rest) h =
      let e : i + 0 ≡ i = omega arith in
      rw e (here.1 0 ∙ (says i y q (omega arith) called).0)
  made_at i (suc n) (suc k) l (q, y, here, called, rest) h =
      let e : i + suc k ≡ i + 1 + k = omega arith in
      let more = subst (λ (p : F). IsFromFnResultFrom g p ys (i + 1) n) (says i y q (omega arith) called).1 rest in
      rw e (made_at (i + 1) n k (omega arith) more (omega arith))

length_spelled : (digits : List ℕ) (n : ℕ) → length digits ≡ 2 * n → length (spelled digits) ≡ n
length_spelled [] n h = omega arith
length_spelled (high ∷ []) n h = absurd (omega arith)
length_spelled (high ∷ low ∷ digits) zero h = absurd (omega arith)
length_spelled (high ∷ low ∷ digits) (suc n) h = ap suc (length_spelled digits n (omega arith))

-- the byte of the digits 2 * k and 2 * k + 1
abbrev byte_at : List ℕ → ℕ → ℕ
byte_at digits k = get_or digits (2 * k) 0 * 16 + get_or digits (2 * k + 1) 0

spelled_at : (digits : List ℕ) (k : ℕ) → 2 * k + 1 < length digits → get_or (spelled digits) k 0 ≡ byte_at digits k
spelled_at [] k h = absurd (omega arith)
spelled_at (high ∷ []) k h = absurd (omega arith)
spelled_at (high ∷ low ∷ digits) zero h = refl
spelled_at (high ∷ low ∷ digits) (suc k) h =
    let e : 2 * suc k ≡ suc (suc (2 * k)) = omega arith in
    rw (e, add-one) (rw add-one at (spelled_at digits k (omega arith)))

module _ {F : Type 0} (g : Mut F (ℕ × Unit {0}) ℕ) (f : F) (n : ℕ) (digits : List ℕ) where
  -- a closure that gives byte i at each i below n
  abbrev pub GivesBytes : Type 0
  GivesBytes = (i y : ℕ) (q : F) → i < n → Called g f (i, tt) y q → (y ≡ byte_at digits i) × (q ≡ f)

  pub made_spelled : GivesBytes → length digits ≡ 2 * n → (bytes : List ℕ) → IsFromFnResult g f bytes n → bytes ≡ spelled digits
  made_spelled says size bytes made =
      let at = λ (k : ℕ) (h : k < length bytes).
      rw zero-add at (made_at g f n (byte_at digits) says bytes 0 n k (omega arith) made.each (omega (arith, made.long)))
      ∙ sym (spelled_at digits k (omega (arith, made.long))) in
      same_number_lists bytes (spelled digits) (made.long ∙ sym (length_spelled digits n size)) at
