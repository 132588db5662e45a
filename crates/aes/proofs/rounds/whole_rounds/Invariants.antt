use Rattle.std.proofs.Common.{◌≡◌, map, drop, fold}
use Rattle.aes.specs.Ways.{round}
use Rattle.aes.specs.Words.{state_of}
use Rattle.aes.proofs.rounds.whole_rounds.Given as goal

abbrev pub invariant-loop-k : goal.invariant-loop-k
invariant-loop-k g l = fold (round g.W.Way.steps) (state_of l.x) (map state_of (drop l.k-index l.keys)) ≡ fold (round g.W.Way.steps) (state_of l.initial.x) (map state_of l.keys)
