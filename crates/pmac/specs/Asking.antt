-- What a call asks of its engine, where the engine can afford it. Assumes nothing.
use Rattle.std.specs.Prelude.{◌≡◌, ℕ, Ok, Result}
use Rattle.engine.specs.declared.fault.EngineFault.{EngineFault}
use Rattle.engine.specs.Meaning.{Meaning, spent}

-- n operations, for which the call answers x; old and new are what the engine means before and after
pub record Asks {B Y : Type 0} (old : Meaning B) (n : ℕ) (x : Y) (result : Result Y EngineFault) (new : Meaning B) : Type 0 where
  pub answer : result ≡ Ok x
  pub after : new ≡ spent n old
