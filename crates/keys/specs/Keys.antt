-- The key that a text spells. Assumes nothing.
use Rattle.std.specs.Prelude.{◌≡◌, ℕ, ◌*◌, ◌<◌, ◌≤◌, Bool, true, false, cond, List, [], ◌∷◌, ◌++◌, length, Some, None, Ok, Err, Option, Result, nat_lt}
use Rattle.keys.specs.declared.fault.EntryFault.{EntryFault}
use Rattle.keys.specs.declared.fault.EntryFault.TheVariants.{NoDigit, Full, Incomplete}
use Rattle.keys.specs.Digits.{digit_of, spelled}
use Rattle.keys.specs.Entries.{taken}

-- the digits that a text begins with, up to the first character that is none
abbrev pub ahead : Option ℕ → List ℕ → List ℕ
ahead None digits = []
ahead (Some d) digits = d ∷ digits

abbrev pub leading : List ℕ → List ℕ
leading [] = []
leading (c ∷ text) = ahead (digit_of c) (leading text)

-- whether a text is digits throughout
abbrev pub is_digit : Option ℕ → Bool
is_digit None = false
is_digit (Some d) = true

abbrev pub all_digits : List ℕ → Bool
all_digits [] = true
all_digits (c ∷ text) = cond (is_digit (digit_of c)) (all_digits text) false

-- What comes of the digits that a text begins with, where a key has n bytes: refused at the digit past the last, if more than
-- 2 * n come first; else at the first character that is no digit; else the text ends, and gives the key if no digit lacks.
abbrev pub judged : ℕ → List ℕ → Bool → Result (List ℕ) EntryFault
judged n digits throughout = cond (nat_lt (2 * n) (length digits)) (Err Full) (cond throughout (taken n digits) (Err NoDigit))

-- the key that a text spells
abbrev pub key_of : ℕ → List ℕ → Result (List ℕ) EntryFault
key_of n text = judged n (leading text) (all_digits text)

-- What that says case by case: 2 * n digits give the bytes that they spell; after at most 2 * n digits, a character that is
-- none is refused as such; after 2 * n digits, one digit more is refused; and fewer digits are, where the text ends.
pub record Verdicts (n : ℕ) : Type 0 where
  pub right : (text : List ℕ) → all_digits text ≡ true → length text ≡ 2 * n → key_of n text ≡ Ok (spelled (leading text))
  pub stray : (front : List ℕ) (c : ℕ) (rest : List ℕ) → all_digits front ≡ true → length front ≤ 2 * n → digit_of c ≡ None → key_of n (front ++ (c ∷ rest)) ≡ Err NoDigit
  pub long : (front : List ℕ) (c d : ℕ) (rest : List ℕ) → all_digits front ≡ true → length front ≡ 2 * n → digit_of c ≡ Some d → key_of n (front ++ (c ∷ rest)) ≡ Err Full
  pub short : (text : List ℕ) → all_digits text ≡ true → length text < 2 * n → key_of n text ≡ Err Incomplete

-- the key that a text spells where some digits are typed already
abbrev pub key_after : ℕ → List ℕ → List ℕ → Result (List ℕ) EntryFault
key_after n digits text = judged n (digits ++ leading text) (all_digits text)

-- the key, or why there is none, from how typing went and the digits that are there then
abbrev pub concluded : ℕ → Result (Unit {0}) EntryFault → List ℕ → Result (List ℕ) EntryFault
concluded n (Ok _) digits = taken n digits
concluded n (Err fault) digits = Err fault
