use Rattle.book.proofs.Slots.{no_kind}
use Rattle.book.proofs.slot.Slot.record.Goals as goal

pub returns-in_default : goal.returns-in_default
returns-in_default c = no_kind _ _ _ _ _ c.in_default.ensures
