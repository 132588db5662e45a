-- What the refusals of an entry say. Assumes nothing.
use Rattle.std.specs.Prelude.{[]}
use Rattle.engine.specs.Refusals.{Refusal}
use Rattle.keys.specs.declared.fault.EntryFault.{EntryFault}
use Rattle.keys.specs.declared.fault.EntryFault.TheVariants.{NoDigit, Full, Incomplete}

-- 15: a character that is no digit; 1: a key of another length than the cipher's
abbrev pub entry_refusal : EntryFault → Refusal
entry_refusal NoDigit = record { number = 15; told = [] }
entry_refusal Full = record { number = 1; told = [] }
entry_refusal Incomplete = record { number = 1; told = [] }
