use Rattle.std.proofs.Common.{◌≡◌, length, rules, eq-eqb}
use Rattle.keys.specs.Entries.{typed}
use Rattle.keys.proofs.Made.{made_spelled}
use Rattle.keys.proofs.entry.Entry.key.Goals as goal

pub returns : goal.returns
returns c =
    let all : length (typed c.args.self.now) ≡ 32 = search rules in
    let same = made_spelled _ _ 16 (typed c.args.self.now) (λ i y q h called. search rules) all c.from_fn.result c.from_fn.ensures.items in
    let test = eq-eqb (length (typed c.args.self.now)) 32 all in
    rw (same, test)
