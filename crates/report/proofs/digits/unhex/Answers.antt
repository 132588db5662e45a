use Rattle.std.proofs.Common.{◌≡◌, ℕ, ◌-◌, Bool, true, false, List, Some, None, Ok, Err, Result, is_some, slice_index_or, sym, refl, ap, ◌∙◌, arith}
use Rattle.std.specs.Prelude.{if◌then◌else◌, ◌||◌}
use Rattle.std.specs.Char.{is_ascii_hexdigit}
use Rattle.std.specs.Int.{is_in_range}
use Rattle.std.specs.List.{AllPass, list_all}
use Rattle.std.specs.Result.{result_ok}
use Rattle.std.proofs.lemmas.List.Sums.{list_all-from_AllPass}
use Rattle.hex.specs.Hex.{decode_of, is_hex_digit}
use Rattle.hex.specs.declared.error.FromHexError.{FromHexError}
use Rattle.hex.proofs.HexLemmas.{decode_of-odd, decode_of-ok}
use Rattle.report.specs.Hex.{unhexed}
use Rattle.report.proofs.digits.unhex.Goals.{then-text-eq1-via-then-text-eq1, then-text-eq1-via-else-text-eq1+then-not-all_digits}
use Rattle.report.proofs.digits.unhex.Goals as goal

-- hex's digits and std's are tested in two orders
orders : (upper lower decimal : Bool) (x y z : ℕ)
    → is_some (if upper then Some x else if lower then Some y else if decimal then Some z else None) ≡ ((decimal || upper) || lower)
orders true lower true x y z = refl
orders true lower false x y z = refl
orders false true true x y z = refl
orders false true false x y z = refl
orders false false true x y z = refl
orders false false false x y z = refl

digit : (c : ℕ) → is_hex_digit c ≡ true → is_ascii_hexdigit c ≡ true
digit c h = sym (orders (is_in_range 65 70 c) (is_in_range 97 102 c) (is_in_range 48 57 c) (c - 55) (c - 87) (c - 48)) ∙ h

-- a text with a byte that is no digit spells nothing
no_digit : (text : List ℕ) → list_all is_ascii_hexdigit text ≡ false → None ≡ unhexed text
no_digit text h = by (decode_of text) refl
  where
    by : (r : Result (List ℕ) FromHexError) → decode_of text ≡ r → None ≡ unhexed text
    by (Err fault) e = sym (ap result_ok e)
    by (Ok bytes) e =
        let digits : AllPass is_ascii_hexdigit text = λ k d l. digit (slice_index_or text k d) ((decode_of-ok text bytes e).1 k d l) in
        cc (sym h ∙ list_all-from_AllPass is_ascii_hexdigit text digits)

pub returns-then-text-eq1 : goal.returns-then-text-eq1
returns-then-text-eq1 c =
    elim c.then-text-eq1.branch [
      | then-text-eq1-via-then-text-eq1 w ↦ sym (ap result_ok (decode_of-odd c.args.text.now (grind (arith, w.if-text-eq1.true))))
      | then-text-eq1-via-else-text-eq1+then-not-all_digits w ↦
          no_digit c.args.text.now (grind (arith, w.if-not-all_digits.true, w.all_digits.ensures, w.as_bytes.ensures))
    ]
