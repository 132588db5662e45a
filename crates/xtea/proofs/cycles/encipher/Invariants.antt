use Rattle.std.proofs.Common.{◌≡◌}
use Rattle.xtea.specs.Cycles.{sum, enciphered}
use Rattle.xtea.proofs.cycles.encipher.Given as goal

abbrev pub invariant-loop : goal.invariant-loop
invariant-loop l = (l.s ≡ sum l.counter) × ((l.v, l.w) ≡ enciphered l.key l.counter (l.initial.v, l.initial.w))
