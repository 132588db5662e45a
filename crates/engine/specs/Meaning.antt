-- What an engine means: two maps of blocks that undo each other, and how many operations it has left. Assumes nothing.
use Rattle.std.specs.Prelude.{◌≡◌, ℕ, ◌-◌, cond, Ok, Err, Result, nat_lt}
use Rattle.engine.specs.declared.fault.EngineFault.{EngineFault}
use Rattle.engine.specs.declared.fault.EngineFault.TheVariants.{Spent}

-- the two maps of a cipher
pub record Maps (B : Type 0) : Type 0 where
  pub enc : B → B
  pub dec : B → B

pub record Meaning (B : Type 0) : Type 0 where
  pub enc : B → B
  pub dec : B → B
  pub left : ℕ

-- a cipher with so many operations left
abbrev pub metered : {B : Type 0} → Maps B → ℕ → Meaning B
metered m left = record { enc = m.enc; dec = m.dec; left = left }

pub record Undoes {B : Type 0} (m : Meaning B) : Type 0 where
  pub dec_enc : (x : B) → m.dec (m.enc x) ≡ x
  pub enc_dec : (x : B) → m.enc (m.dec x) ≡ x

-- what one operation answers, where y is what it works out
abbrev pub answered : {Y : Type 0} → ℕ → Y → Result Y EngineFault
answered left y = cond (nat_lt 0 left) (Ok y) (Err (Spent 1 0))

-- whether an allowance covers what is due
abbrev pub afforded : ℕ → ℕ → Result (Unit {0}) EngineFault
afforded left due = cond (nat_lt left due) (Err (Spent due left)) (Ok tt)

-- after n operations: the maps stay
abbrev pub spent : {B : Type 0} → ℕ → Meaning B → Meaning B
spent n m = record { enc = m.enc; dec = m.dec; left = m.left - n }
