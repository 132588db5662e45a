-- What a text spells, by what it begins with. Assumes nothing.
use Rattle.std.proofs.Common.{◌≡◌, ℕ, ◌*◌, ◌<◌, ◌≤◌, Bool, true, false, cond, List, [], ◌∷◌, ◌++◌, length, Some, None, Ok, Err, Option, sym, refl, ap, ◌∙◌, arith, le-ltb, eq-eqb, ne_eqb}
use Rattle.keys.specs.declared.fault.EntryFault.TheVariants.{NoDigit, Full, Incomplete}
use Rattle.keys.specs.Digits.{digit_of, spelled}
use Rattle.keys.specs.Entries.{answer}
use Rattle.keys.specs.Keys.{ahead, leading, is_digit, all_digits, judged, key_after, key_of, Verdicts}
use Rattle.keys.proofs.Texts.{stops}

-- ---- a text that begins with digits

digit_there : (o : Option ℕ) (b : Bool) → cond (is_digit o) b false ≡ true → (d : ℕ) × (o ≡ Some d) × (b ≡ true)
digit_there None b h = let z : ◌≡◌ {A = ℕ} 0 1 = cc in absurd (omega arith)
digit_there (Some d) b h = (d, refl, h)

length_leading : (text : List ℕ) → all_digits text ≡ true → length (leading text) ≡ length text
length_leading [] h = refl
length_leading (c ∷ text) h =
    let p = digit_there (digit_of c) (all_digits text) h in
    let more = length_leading text p.2 in
    ap (λ o. length (ahead o (leading text))) p.1 ∙ omega arith

leading_append : (front text : List ℕ) → all_digits front ≡ true → leading (front ++ text) ≡ leading front ++ leading text
leading_append [] text h = refl
leading_append (c ∷ front) text h =
    let p = digit_there (digit_of c) (all_digits front) h in
    ap (λ o. ahead o (leading (front ++ text))) p.1 ∙ ap (λ (ds : List ℕ). p.0 ∷ ds) (leading_append front text p.2)
    ∙ ap (λ o. ahead o (leading front) ++ leading text) (sym p.1)

all_append : (front text : List ℕ) → all_digits front ≡ true → all_digits (front ++ text) ≡ all_digits text
all_append [] text h = refl
all_append (c ∷ front) text h =
    let p = digit_there (digit_of c) (all_digits front) h in
    ap (λ o. cond (is_digit o) (all_digits (front ++ text)) false) p.1 ∙ all_append front text p.2

begins : (n : ℕ) (front text : List ℕ) → all_digits front ≡ true → key_of n (front ++ text) ≡ key_after n (leading front) text
begins n front text h =
    ap (λ ds. judged n ds (all_digits (front ++ text))) (leading_append front text h) ∙ ap (judged n (leading front ++ leading text)) (all_append front text h)

-- ---- the verdicts

module _ (n : ℕ) where
  right : (text : List ℕ) → all_digits text ≡ true → length text ≡ 2 * n → key_of n text ≡ Ok (spelled (leading text))
  right text h l =
      let size = length_leading text h in
      let few = le-ltb (2 * n) (length (leading text)) (omega arith) in
      let all = eq-eqb (length (leading text)) (2 * n) (omega arith) in
      rw (few, h, all)

  short : (text : List ℕ) → all_digits text ≡ true → length text < 2 * n → key_of n text ≡ Err Incomplete
  short text h l =
      let size = length_leading text h in
      let few = le-ltb (2 * n) (length (leading text)) (omega arith) in
      let none = ne_eqb (length (leading text)) (2 * n) (λ e. omega arith) in
      rw (few, h, none)

  stray : (front : List ℕ) (c : ℕ) (rest : List ℕ) → all_digits front ≡ true → length front ≤ 2 * n → digit_of c ≡ None → key_of n (front ++ (c ∷ rest)) ≡ Err NoDigit
  stray front c rest h l e =
      let size = length_leading front h in
      begins n front (c ∷ rest) h ∙ sym (stops n (leading front) rest (omega arith) (digit_of c) NoDigit (ap (answer n (leading front)) (sym e)))

  long : (front : List ℕ) (c d : ℕ) (rest : List ℕ) → all_digits front ≡ true → length front ≡ 2 * n → digit_of c ≡ Some d → key_of n (front ++ (c ∷ rest)) ≡ Err Full
  long front c d rest h l e =
      let size = length_leading front h in
      let none = le-ltb (length (leading front)) (2 * n) (omega arith) in
      let told : Err Full ≡ answer n (leading front) (Some d) = rw none in
      begins n front (c ∷ rest) h ∙ sym (stops n (leading front) rest (omega arith) (digit_of c) Full (told ∙ ap (answer n (leading front)) (sym e)))

  pub verdicts : Verdicts n
  verdicts = record { right = right; stray = stray; long = long; short = short }
