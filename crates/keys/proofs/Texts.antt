-- A text typed character by character into an entry of n bytes. Assumes nothing.
use Rattle.std.proofs.Common.{◌≡◌, ℕ, ◌*◌, ◌≤◌, Bool, true, false, cond, ltb, List, [], ◌∷◌, ◌++◌, length, Some, None, Ok, Err, Option, Result, sym, refl, ap, append_assoc, append-nil, arith, length-append, ltb-false, le-ltb, lt-ltb}
use Rattle.std.specs.Str.{chars}
use Rattle.std.proofs.lemmas.Str.{chars-nil}
use Rattle.keys.specs.declared.fault.EntryFault.{EntryFault}
use Rattle.keys.specs.declared.fault.EntryFault.TheVariants.{NoDigit, Full}
use Rattle.keys.specs.Entries.{after, answer, taken}
use Rattle.keys.specs.Keys.{ahead, leading, is_digit, all_digits, judged, key_after}

module _ (n : ℕ) (digits text : List ℕ) where
  -- what comes of the text after one character more, of which the digit is given
  abbrev pub from : Option ℕ → Result (List ℕ) EntryFault
  from o = judged n (digits ++ ahead o (leading text)) (cond (is_digit o) (all_digits text) false)

  taken_by : (b : Bool) (d : ℕ) → ◌≡◌ {A = Result (Unit {0}) EntryFault} (Ok tt) (cond b (Ok tt) (Err Full)) → from (Some d) ≡ key_after n (cond b (digits ++ (d ∷ [])) digits) text
  taken_by true d told = ap (λ ds. judged n ds (all_digits text)) (sym (append_assoc digits (d ∷ []) (leading text)))
  taken_by false d told = let z : ◌≡◌ {A = ℕ} 0 1 = cc in absurd (omega arith)

  -- a character that is taken: the rest goes on from the digits that are there then
  pub goes_on : (o : Option ℕ) → Ok tt ≡ answer n digits o → from o ≡ key_after n (after n digits o) text
  goes_on None told = let z : ◌≡◌ {A = ℕ} 0 1 = cc in absurd (omega arith)
  goes_on (Some d) told = taken_by (ltb (length digits) (2 * n)) d told

  refused_by : (b : Bool) (d : ℕ) (fault : EntryFault) → ltb (length digits) (2 * n) ≡ b
      → ◌≡◌ {A = Result (Unit {0}) EntryFault} (Err fault) (cond b (Ok tt) (Err Full)) → Err fault ≡ from (Some d)
  refused_by true d fault here told = let z : ◌≡◌ {A = ℕ} 0 1 = cc in absurd (omega arith)
  refused_by false d fault here told =
      let more = length-append digits (d ∷ leading text) in
      let past = ltb-false (length digits) (2 * n) here in
      let many = lt-ltb (2 * n) (length (digits ++ (d ∷ leading text))) (omega arith) in
      let it : fault ≡ Full = cc in
      rw many (ap (λ f. Err f) it)

  -- a character that is refused: so is the text
  pub stops : length digits ≤ 2 * n → (o : Option ℕ) (fault : EntryFault) → Err fault ≡ answer n digits o → Err fault ≡ from o
  stops h None fault told =
      let more = length-append digits [] in
      let few = le-ltb (2 * n) (length (digits ++ [])) (omega arith) in
      let it : fault ≡ NoDigit = cc in
      rw few (ap (λ f. Err f) it)
  stops h (Some d) fault told = refused_by (ltb (length digits) (2 * n)) d fault refl told

decodes_none : (bytes : List ℕ) → length bytes ≡ 0 → chars bytes ≡ []
decodes_none [] h = chars-nil
decodes_none (byte ∷ bytes) h = absurd (omega arith)

-- the text has ended
pub ends : (n : ℕ) (digits bytes : List ℕ) → length digits ≤ 2 * n → length bytes ≡ 0 → taken n digits ≡ key_after n digits (chars bytes)
ends n digits bytes h none =
    let few = le-ltb (2 * n) (length digits) h in
    rw (decodes_none bytes none, append-nil, few)
