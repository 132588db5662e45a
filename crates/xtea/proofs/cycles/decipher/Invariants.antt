use Rattle.std.proofs.Common.{◌≡◌}
use Rattle.xtea.specs.Cycles.{sum, deciphered}
use Rattle.xtea.proofs.cycles.decipher.Given as goal

abbrev pub invariant-loop : goal.invariant-loop
invariant-loop l = (l.s ≡ sum l.counter) × (deciphered l.key l.counter (l.v, l.w) ≡ deciphered l.key l.cycles (l.initial.v, l.initial.w))
