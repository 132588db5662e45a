-- ⊕ of any block arithmetic: a commutative group in which each is its own inverse. Assumes nothing.
use Rattle.std.proofs.Common.{◌≡◌, sym, ap, ◌∙◌}
use Rattle.block.specs.Arith.{Arith, Laws}

module _ {B : Type 0} {A : Arith B} (w : Laws A) where
  pub assoc : (x y z : B) → A.plus (A.plus x y) z ≡ A.plus x (A.plus y z)
  assoc = w.regroups

  pub comm : (x y : B) → A.plus x y ≡ A.plus y x
  comm = w.reorders

  pub self : (x : B) → A.plus x x ≡ A.zero
  self = w.cancels

  pub zero_r : (x : B) → A.plus x A.zero ≡ x
  zero_r = w.keeps

  pub zero_l : (x : B) → A.plus A.zero x ≡ x
  zero_l x = comm A.zero x ∙ zero_r x

  pub left_comm : (x y z : B) → A.plus x (A.plus y z) ≡ A.plus y (A.plus x z)
  left_comm x y z = sym (assoc x y z) ∙ ap (λ u. A.plus u z) (comm x y) ∙ assoc y x z

  pub cancel : (x y : B) → A.plus x (A.plus x y) ≡ y
  cancel x y = sym (assoc x x y) ∙ ap (λ u. A.plus u y) (self x) ∙ zero_l y

  -- x ⊕ y = z exactly where x = z ⊕ y
  pub across : (x y z : B) → A.plus x y ≡ z → x ≡ A.plus z y
  across x y z e = sym (ap (A.plus x) (self y) ∙ zero_r x) ∙ sym (assoc x y y) ∙ ap (λ u. A.plus u y) e

  -- ⊕ with the same block twice
  pub twice : (x y : B) → A.plus (A.plus x y) y ≡ x
  twice x y = w.regroups x y y ∙ ap (A.plus x) (w.cancels y) ∙ w.keeps x
