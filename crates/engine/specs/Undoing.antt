-- A mask's maps undo each other where those below do. Assumes nothing.
use Rattle.std.proofs.Common.{ap, ◌∙◌}
use Rattle.block.specs.Arith.{Arith, Laws}
use Rattle.block.proofs.Group.{twice}
use Rattle.engine.specs.Meaning.{Meaning, Undoes}
use Rattle.engine.specs.Layers.{masked}

module _ {B : Type 0} where
  pub masked_undoes : {A : Arith B} → Laws A → (p q : B) (m : Meaning B) → Undoes m → Undoes (masked A p q m)
  masked_undoes {A = A} w p q m u = record {
    dec_enc = λ x. ap (λ z. A.plus (m.dec z) p) (twice w (m.enc (A.plus x p)) q) ∙ ap (λ z. A.plus z p) (u.dec_enc (A.plus x p)) ∙ twice w x p;
    enc_dec = λ y. ap (λ z. A.plus (m.enc z) q) (twice w (m.dec (A.plus y q)) p) ∙ ap (λ z. A.plus z q) (u.enc_dec (A.plus y q)) ∙ twice w y q;
  }
