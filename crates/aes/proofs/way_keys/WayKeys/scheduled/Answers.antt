use Rattle.aes.proofs.Expansion.{scheduled}
use Rattle.aes.proofs.way_keys.WayKeys.scheduled.Goals as goal

pub returns : goal.returns
returns c = scheduled c.args.key.now _ _ _ _ c.words128-w.ensures c.round_key.ensures c.middle_keys.ensures c.round_key-2.ensures
