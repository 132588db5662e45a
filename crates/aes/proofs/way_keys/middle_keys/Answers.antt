use Rattle.std.proofs.Common.{◌≡◌, map, sym, ap, ◌∙◌, arith, length-set, take_all}
use Rattle.aes.specs.State.{listed}
use Rattle.aes.specs.Schedule.{round_key}
use Rattle.aes.specs.Words.{unpacked, state_of}
use Rattle.aes.proofs.Expansion.{filled}
use Rattle.aes.proofs.way_keys.middle_keys.Goals as goal

pub loop-i-preserved : goal.loop-i-preserved
loop-i-preserved c = (
  (simp length-set c.loop-i.invariant.0),
  filled state_of (round_key (map unpacked c.args.w.now)) _ 1 c.loop-i.i c.round_key.result (omega arith) c.loop-i.invariant.1
      (c.round_key.ensures ∙ ap (round_key (map unpacked c.args.w.now)) (omega arith)),
)

pub returns : goal.returns
returns c =
    let all : c.loop-i.i ≡ 9 = omega arith in
    ap (map state_of) (sym (take_all c.loop-i.i c.loop-i.key-items (omega arith))) ∙ c.loop-i.invariant.1 ∙ ap (λ n. listed (round_key (map unpacked c.args.w.now)) n 1) all
