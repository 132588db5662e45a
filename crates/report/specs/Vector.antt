-- What a cipher or PMAC under it answers to a test vector, in hex. Assumes nothing.
use Rattle.std.specs.Prelude.{ℕ, cond, List, length, Some, None, Ok, Err, string_bytes, codes, Option, Result, String, ◌==◌}
use Rattle.std.specs.Result.{result_ok}
use Rattle.std.specs.Str.{bytes_eq}
use Rattle.block.specs.Arith.{Arith, from_bytes, to_bytes}
use Rattle.block.specs.Blocks.{arith64, arith128}
use Rattle.engine.specs.Meaning.{Meaning, answered}
use Rattle.engine.specs.Refusals.{Refusal}
use Rattle.pmac.specs.Sealing.{Outcome, worked, refused, full_tag}
use Rattle.aes.specs.Maps.{aes}
use Rattle.xtea.specs.Xtea.{made as xtea_of}
use Rattle.report.specs.declared.cipher.Cipher.{Cipher}
use Rattle.report.specs.declared.cipher.Cipher.TheVariants.{Aes, Xtea}
use Rattle.report.specs.declared.vector.Kind.{Kind}
use Rattle.report.specs.declared.vector.Kind.TheVariants.{Block, Pmac}
use Rattle.hex.specs.Hex.{encode_lower}

-- the kinds by their names
abbrev pub kind_name : Kind → List ℕ
kind_name Block = codes "block"
kind_name Pmac = codes "pmac"

abbrev pub kind_named : List ℕ → Option Kind
kind_named name = cond (bytes_eq name (codes "block")) (Some Block) (cond (bytes_eq name (codes "pmac")) (Some Pmac) None)

abbrev pub tag_of : {B : Type 0} → Outcome B → Option B
tag_of (worked tag n) = Some tag
tag_of (refused r) = None

module _ {B : Type 0} (A : Arith B) where
  -- one block enciphered, or the full tag of the message's first b bits; none where the engine refuses
  abbrev pub block_of : Kind → Meaning B → ℕ → List ℕ → Option B
  block_of Block m b message = cond (length message == A.size) (result_ok (answered m.left (m.enc (from_bytes A message)))) None
  block_of Pmac m b message = tag_of (full_tag A m message b)

  abbrev pub block_text : Option B → Option (List ℕ)
  block_text None = None
  block_text (Some block) = Some (encode_lower (to_bytes A block))

  abbrev pub answer_under : Kind → Result (Meaning B) Refusal → ℕ → List ℕ → Option (List ℕ)
  answer_under kind (Ok m) b message = block_text (block_of kind m b message)
  answer_under kind (Err r) b message = None

abbrev pub vector_of : Kind → Cipher → List ℕ → ℕ → List ℕ → Option (List ℕ)
vector_of kind Aes key b message = answer_under arith128 kind (aes 4 key 1000000) b message
vector_of kind Xtea key b message = answer_under arith64 kind (xtea_of key 1000000) b message

-- a text, if there is one
abbrev pub text_of : {Z : Type 0} → Option (String Z) → Option (List ℕ)
text_of None = None
text_of (Some s) = Some (string_bytes s)
