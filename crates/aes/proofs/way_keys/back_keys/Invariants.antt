use Rattle.std.proofs.Common.{◌≡◌, ◌++◌, map, length, take, drop}
use Rattle.aes.specs.State.{State}
use Rattle.aes.specs.Cipher.{inv_mix_columns}
use Rattle.aes.specs.Ways.{mirror}
use Rattle.aes.specs.Words.{state_of}
use Rattle.aes.specs.declared.words.Words.{Words}
use Rattle.aes.proofs.way_keys.back_keys.Given as goal

abbrev pub invariant-loop-key : goal.invariant-loop-key
invariant-loop-key l =
    let f : Words → State = λ k. mirror (inv_mix_columns (state_of k)) in
    (length l.key-items ≡ 9) × (map state_of (take l.key-index l.key-items) ++ map f (drop l.key-index l.key-items) ≡ map f l.initial.key-items)
