-- What the program `seal` prints for its arguments. Assumes nothing.
use Rattle.std.specs.Prelude.{ℕ, List, take, drop, Some, None, Ok, Err, codes, Option, Result}
use Rattle.std.specs.Str.{chars}
use Rattle.keys.specs.declared.fault.EntryFault.{EntryFault}
use Rattle.keys.specs.Refusals.{entry_refusal}
use Rattle.keys.specs.Keys.{key_of}
use Rattle.report.specs.declared.cipher.Cipher.{Cipher}
use Rattle.report.specs.Ciphers.{named}
use Rattle.report.specs.Seal.{under_header, refusal_line, seal_by}

-- for a name of no cipher, the names that there are
abbrev pub engines : List ℕ
engines = codes "engines: aes xtea\n"

abbrev pub seal_named : Option Cipher → (Cipher → List ℕ) → List ℕ
seal_named None text = engines
seal_named (Some cipher) text = text cipher

-- the key is the input's first 16 bytes, and the message what follows
abbrev pub seal_input : List ℕ → List ℕ → List ℕ
seal_input name input = seal_named (named name) (λ cipher. under_header (seal_by cipher (take 16 input) (drop 16 input)))

-- the key is typed as hex digits, and the message is the whole input
abbrev pub seal_typed : Cipher → Result (List ℕ) EntryFault → List ℕ → List ℕ
seal_typed cipher (Ok key) input = under_header (seal_by cipher key input)
seal_typed cipher (Err fault) input = under_header (refusal_line (entry_refusal fault).number)

abbrev pub seal_key : List ℕ → List ℕ → List ℕ → List ℕ
seal_key name digits input = seal_named (named name) (λ cipher. seal_typed cipher (key_of 16 (chars digits)) input)
