-- Operations asked of an engine one after the other. Assumes nothing.
use Rattle.std.proofs.Common.{◌≡◌, ℕ, ◌+◌, ◌-◌, ◌<◌, ◌≤◌, cond, Ok, Err, Result, refl, ap, ◌∙◌, arith, lt-ltb}
use Rattle.engine.specs.declared.fault.EngineFault.{EngineFault}
use Rattle.engine.specs.declared.fault.EngineFault.TheVariants.{Spent}
use Rattle.engine.specs.Meaning.{Meaning, answered, spent}
use Rattle.pmac.specs.Asking.{Asks}

module _ {B : Type 0} where
  pub ok_same : (x y : B) (r : Result B EngineFault) → r ≡ Ok x → r ≡ Ok y → x ≡ y
  ok_same x y r e f = cc

  -- with an operation left there is an answer
  pub answered_ok : (n : ℕ) (y : B) → 0 < n → answered n y ≡ Ok y
  answered_ok n y h = ap (λ t. cond t (Ok y) (Err (Spent 1 0))) (lt-ltb 0 n h)

  pub spent_none : (m : Meaning B) (n : ℕ) → n ≡ 0 → m ≡ spent n m
  spent_none m n e = let none : m.left ≡ m.left - n = omega arith in ap (λ z. record { enc = m.enc; dec = m.dec; left = z }) none

  -- n operations, and p more
  pub spent_on : (m k after : Meaning B) (n p q : ℕ) → k ≡ spent n m → after ≡ spent p k → q ≡ n + p → after ≡ spent q m
  spent_on m k after n p q e f h =
      let less : m.left - n - p ≡ m.left - q = omega arith in
      f ∙ ap (spent p) e ∙ ap (λ z. record { enc = m.enc; dec = m.dec; left = z }) less

  -- what a call asks after n operations, told from before them
  pub asks_on : {Y : Type 0} {m k j : Meaning B} {x y : Y} {r : Result Y EngineFault} (n p q : ℕ) → k ≡ spent n m → Asks k p x r j → q ≡ n + p → x ≡ y → Asks m q y r j
  asks_on {m = m} {k = k} {j = j} n p q e a h same = record { answer = a.answer ∙ ap Ok same; after = spent_on m k j n p q e a.after h }

  -- an operation after n others, where f picks the map that is asked
  module _ (f : Meaning B → B → B) (keeps : (m : Meaning B) (n : ℕ) → f (spent n m) ≡ f m) (m k : Meaning B) (n : ℕ) (b : B) (r : Result B EngineFault)
      (e : k ≡ spent n m) (h : n < m.left) (a : r ≡ answered k.left (f k b)) where
    pub asked_gives : r ≡ Ok (f m b)
    asked_gives =
        let left : k.left ≡ m.left - n = ap (λ z. z.left) e in
        a ∙ answered_ok k.left (f k b) (omega arith) ∙ ap (λ z. Ok (z b)) (ap f e ∙ keeps m n)

    pub asked_ok : (y : B) → r ≡ Ok y → y ≡ f m b
    asked_ok y g = ok_same y (f m b) r g asked_gives

  -- Enc of one block and then Dec of another
  pub asked_both : (m k j : Meaning B) (x y ex dy : B) (r s : Result B EngineFault) → 2 ≤ m.left → r ≡ answered m.left (m.enc x) → k ≡ spent 1 m → r ≡ Ok ex
      → s ≡ answered k.left (k.dec y) → j ≡ spent 1 k → s ≡ Ok dy → (ex ≡ m.enc x) × (dy ≡ m.dec y) × (j ≡ spent 2 m)
  asked_both m k j x y ex dy r s h er ek fr es ej fs = (
    asked_ok (λ z. z.enc) (λ _ _. refl) m m 0 x r (spent_none m 0 refl) (omega arith) er ex fr,
    asked_ok (λ z. z.dec) (λ _ _. refl) m k 1 y s ek (omega arith) es dy fs,
    spent_on m k j 1 1 2 ek ej refl,
  )
