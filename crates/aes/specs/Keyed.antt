-- The round keys that the code holds. Assumes nothing.
use Rattle.aes.specs.Cipher.{Keys}
use Rattle.aes.specs.Words.{keys_of}
use Rattle.aes.specs.declared.keys.RoundKeys.{RoundKeys}

-- those of the way forth; the others are made of them
abbrev pub keys_in : RoundKeys → Keys
keys_in k = keys_of k.forth
