-- Hex as bytes. Assumes nothing.
use Rattle.std.specs.Prelude.{ℕ, List, Some, None, vec_items, Option, Vec}
use Rattle.std.specs.Result.{result_ok}
use Rattle.hex.specs.Hex.{decode_of}

-- the bytes that a text spells, two digits each; none where it has another character, or an odd number of digits
abbrev pub unhexed : List ℕ → Option (List ℕ)
unhexed text = result_ok (decode_of text)

-- bytes in a Vec, if there are some
abbrev pub bytes_in : {Z : Type 0} → Option (Vec ℕ Z) → Option (List ℕ)
bytes_in None = None
bytes_in (Some v) = Some (vec_items v)
