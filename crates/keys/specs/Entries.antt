-- An entry as the digits typed so far, and what each call makes of them. Assumes nothing.
use Rattle.std.specs.Prelude.{ℕ, ◌*◌, cond, List, [], ◌∷◌, ◌++◌, length, Some, None, Ok, Err, Option, Result, ◌==◌, nat_lt}
use Rattle.keys.specs.declared.entry.Entry.{Entry}
use Rattle.keys.specs.declared.fault.EntryFault.{EntryFault}
use Rattle.keys.specs.declared.fault.EntryFault.TheVariants.{NoDigit, Full, Incomplete}
use Rattle.keys.specs.Digits.{spelled}

-- the digits typed so far
abbrev pub typed : Entry → List ℕ
typed e = e.digits.items

-- the digits after a character of which the digit is given, where a key has n bytes: one more, while there is room
abbrev pub after : ℕ → List ℕ → Option ℕ → List ℕ
after n digits None = digits
after n digits (Some d) = cond (nat_lt (length digits) (2 * n)) (digits ++ (d ∷ [])) digits

-- what such a character is answered
abbrev pub answer : ℕ → List ℕ → Option ℕ → Result (Unit {0}) EntryFault
answer n digits None = Err NoDigit
answer n digits (Some d) = cond (nat_lt (length digits) (2 * n)) (Ok tt) (Err Full)

-- the key of n bytes, where the digits are all there
abbrev pub taken : ℕ → List ℕ → Result (List ℕ) EntryFault
taken n digits = cond (length digits == 2 * n) (Ok (spelled digits)) (Err Incomplete)
