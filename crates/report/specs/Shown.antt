-- What the program `seal` prints for what sealing came to. Assumes nothing.
use Rattle.std.specs.Prelude.{◌≡◌, ℕ, List, string_bytes, Ok, Err, Result}
use Rattle.engine.specs.Refusals.{key_refusal}
use Rattle.keys.specs.Refusals.{entry_refusal}
use Rattle.overlay.specs.Refusals.{overlay_refusal}
use Rattle.report.specs.Arguments.{engines}
use Rattle.report.specs.Seal.{tag_line, refusal_line, under_header}
use Rattle.report.specs.declared.seal.Sealed.{Sealed}
use Rattle.report.specs.declared.fault.SealFault.{SealFault}
use Rattle.report.specs.declared.fault.SealFault.TheVariants.{UnknownCipher, Entry, Key, Overlay, OutOfMemory}

abbrev pub sealed_line : Sealed → List ℕ
sealed_line s = tag_line s.bits s.blocks s.operations (string_bytes s.tag)

-- a text is what is printed; where memory runs out nothing is
abbrev pub Prints : Result Sealed SealFault → List ℕ → Type 0
Prints (Ok sealed) text = under_header (sealed_line sealed) ≡ text
Prints (Err (UnknownCipher u)) text = engines ≡ text
Prints (Err (Entry fault)) text = under_header (refusal_line (entry_refusal fault).number) ≡ text
Prints (Err (Key fault)) text = under_header (refusal_line (key_refusal fault).number) ≡ text
Prints (Err (Overlay fault)) text = under_header (refusal_line (overlay_refusal fault).number) ≡ text
Prints (Err (OutOfMemory e)) text = Unit {0}
