-- ⊕ over a range: one more, split, of functions that agree. Assumes nothing.
use Rattle.std.proofs.Common.{◌≡◌, ℕ, zero, suc, ◌+◌, ◌-◌, ◌<◌, ◌≤◌, sym, refl, ap, ◌∙◌, ap₂, add-zero, add_assoc, add-suc, arith}
use Rattle.block.specs.Arith.{Arith, Laws}
use Rattle.pmac.specs.Pmac.{over}
use Rattle.block.proofs.Group.{assoc, comm, cancel, zero_r, zero_l}

module _ {B : Type 0} (A : Arith B) where
  pub over_more : (f : ℕ → B) (a n : ℕ) → over A f a (suc n) ≡ A.plus (over A f a n) (f (a + n))
  unfolding over
  over_more f a n = refl

  pub over_none : (f : ℕ → B) (a : ℕ) → over A f a 0 ≡ A.zero
  unfolding over
  over_none f a = refl

  pub over_same : (f g : ℕ → B) (a n : ℕ) → ((i : ℕ) → a ≤ i → i < a + n → f i ≡ g i) → over A f a n ≡ over A g a n
  unfolding over
  over_same f g a zero h = refl
  over_same f g a (suc n) h = ap₂ A.plus (over_same f g a n (λ i p q. h i p (omega arith))) (h (a + n) (omega arith) (omega arith))

module _ {B : Type 0} {A : Arith B} (w : Laws A) where
  pub over_one : (f : ℕ → B) (a : ℕ) → over A f a 1 ≡ f a
  unfolding over
  over_one f a = zero_l w (f (a + 0)) ∙ ap f (add-zero a)

  pub over_split : (f : ℕ → B) (a p q : ℕ) → over A f a (p + q) ≡ A.plus (over A f a p) (over A f (a + p) q)
  unfolding over
  over_split f a p zero = ap (over A f a) (add-zero p) ∙ sym (zero_r w (over A f a p))
  over_split f a p (suc q) =
      ap (over A f a) (add-suc p q)
      ∙ ap₂ (λ x i. A.plus x (f i)) (over_split f a p q) (sym (add_assoc a p q))
      ∙ assoc w (over A f a p) (over A f (a + p) q) (f (a + p + q))

  -- up to c, and from there on
  pub over_to : (f : ℕ → B) (a c b : ℕ) → a ≤ c → c ≤ b → over A f a (b - a) ≡ A.plus (over A f a (c - a)) (over A f c (b - c))
  over_to f a c b h k =
      let e : b - a ≡ (c - a) + (b - c) = omega arith in
      let at : a + (c - a) ≡ c = omega arith in
      ap (over A f a) e ∙ over_split f a (c - a) (b - c) ∙ ap (λ i. A.plus (over A f a (c - a)) (over A f i (b - c))) at

  -- functions that agree outside of c up to d: the old ones leave and the new ones enter
  pub over_change : (f g : ℕ → B) (a c d b : ℕ) → a ≤ c → c ≤ d → d ≤ b → ((i : ℕ) → a ≤ i → i < c → g i ≡ f i) → ((i : ℕ) → d ≤ i → i < b → g i ≡ f i)
      → over A g a (b - a) ≡ A.plus (A.plus (over A f a (b - a)) (over A f c (d - c))) (over A g c (d - c))
  over_change f g a c d b h k m low high =
      let before : over A g a (c - a) ≡ over A f a (c - a) = over_same A g f a (c - a) (λ i p q. low i p (omega arith)) in
      let after : over A g d (b - d) ≡ over A f d (b - d) = over_same A g f d (b - d) (λ i p q. high i p (omega arith)) in
      three g ∙ ap₂ (λ x y. A.plus x (A.plus (over A g c (d - c)) y)) before after
      ∙ regroup (over A f a (c - a)) (over A f c (d - c)) (over A f d (b - d)) (over A g c (d - c))
      ∙ ap (λ x. A.plus (A.plus x (over A f c (d - c))) (over A g c (d - c))) (sym (three f))
    where
      three : (f : ℕ → B) → over A f a (b - a) ≡ A.plus (over A f a (c - a)) (A.plus (over A f c (d - c)) (over A f d (b - d)))
      three f = over_to f a c b h (omega arith) ∙ ap (A.plus (over A f a (c - a))) (over_to f c d b k m)

      regroup : (x y z u : B) → A.plus x (A.plus u z) ≡ A.plus (A.plus (A.plus x (A.plus y z)) y) u
      regroup x y z u = simp (assoc w, comm w, cancel w)
