-- The text that sealing one overlay prints. Assumes nothing.
use Rattle.std.specs.Prelude.{ℕ, ◌*◌, List, ◌++◌, length, Ok, Err, codes, decimal, Result}
use Rattle.block.specs.Arith.{Arith, to_bytes}
use Rattle.block.specs.Blocks.{arith64, arith128}
use Rattle.bits.specs.Blocks.{blocks}
use Rattle.engine.specs.Meaning.{Meaning}
use Rattle.engine.specs.Refusals.{Refusal}
use Rattle.pmac.specs.Sealing.{Outcome, worked, refused, full_tag}
use Rattle.aes.specs.Maps.{aes}
use Rattle.xtea.specs.Xtea.{made as xtea_of}
use Rattle.report.specs.declared.cipher.Cipher.{Cipher}
use Rattle.report.specs.declared.cipher.Cipher.TheVariants.{Aes, Xtea}
use Rattle.hex.specs.Hex.{encode_lower}

-- one line: bits, blocks, operations and the full tag in hex, or the refusal's number
abbrev pub tag_line : ℕ → ℕ → ℕ → List ℕ → List ℕ
tag_line bits blocks operations tag = decimal bits ++ (codes " " ++ (decimal blocks ++ (codes " " ++ (decimal operations ++ (codes " " ++ tag)))))

abbrev pub refusal_line : ℕ → List ℕ
refusal_line number = codes "refusal " ++ decimal number

abbrev pub seal_line : {B : Type 0} → Arith B → ℕ → Outcome B → List ℕ
seal_line A b (worked tag n) = tag_line b (blocks A b) n (encode_lower (to_bytes A tag))
seal_line A b (refused r) = refusal_line r.number

abbrev pub under_header : List ℕ → List ℕ
under_header line = codes "bits blocks operations tag\n" ++ (line ++ codes "\n")

-- a message sealed by an engine that means m
abbrev pub seal_of : {B : Type 0} → Arith B → Meaning B → List ℕ → List ℕ
seal_of A m message = seal_line A (8 * length message) (full_tag A m message (8 * length message))

-- a message sealed under what came of a key
abbrev pub seal_under : {B : Type 0} → Arith B → Result (Meaning B) Refusal → List ℕ → List ℕ
seal_under A (Ok m) message = seal_of A m message
seal_under A (Err r) message = refusal_line r.number

-- a message sealed under a key's bytes, by the cipher that is named
abbrev pub seal_by : Cipher → List ℕ → List ℕ → List ℕ
seal_by Aes key message = seal_under arith128 (aes 4 key 1000000) message
seal_by Xtea key message = seal_under arith64 (xtea_of key 1000000) message
