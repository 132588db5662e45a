-- Hexadecimal digits, and the bytes that they spell. Assumes nothing.
use Rattle.std.specs.Prelude.{ℕ, ◌+◌, ◌-◌, ◌*◌, ◌<◌, Bool, false, cond, List, [], ◌∷◌, Some, None, Option, nat_le}
use Rattle.std.specs.List.{All}

abbrev pub within : ℕ → ℕ → ℕ → Bool
within low high c = cond (nat_le low c) (nat_le c high) false

-- the value of a character: 0 to 9, a to f and A to F are digits, and no other
abbrev pub digit_of : ℕ → Option ℕ
digit_of c =
    cond (within 48 57 c) (Some (c - 48))
    (cond (within 97 102 c) (Some (c - 97 + 10)) (cond (within 65 70 c) (Some (c - 65 + 10)) None))

-- the bytes that digits spell, two to a byte, the high half first
abbrev pub spelled : List ℕ → List ℕ
spelled [] = []
spelled (high ∷ []) = []
spelled (high ∷ low ∷ digits) = (high * 16 + low) ∷ spelled digits

-- each is a digit's value
abbrev pub AllDigits : List ℕ → Type 0
AllDigits digits = All (λ d. d < 16) digits
