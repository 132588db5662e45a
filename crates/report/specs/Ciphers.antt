-- The ciphers and their names. Assumes nothing.
use Rattle.std.specs.Prelude.{ℕ, cond, List, Some, None, codes, Option}
use Rattle.std.specs.Str.{bytes_eq}
use Rattle.report.specs.declared.cipher.Cipher.{Cipher}
use Rattle.report.specs.declared.cipher.Cipher.TheVariants.{Aes, Xtea}

abbrev pub name_of : Cipher → List ℕ
name_of Aes = codes "aes"
name_of Xtea = codes "xtea"

-- the ciphers by their names
abbrev pub named : List ℕ → Option Cipher
named name = cond (bytes_eq name (codes "aes")) (Some Aes) (cond (bytes_eq name (codes "xtea")) (Some Xtea) None)
