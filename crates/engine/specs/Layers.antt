-- What layers mean over the engines below them. Assumes nothing.
use Rattle.std.specs.Prelude.{ℕ, min}
use Rattle.block.specs.Arith.{Arith}
use Rattle.engine.specs.Meaning.{Meaning}
use Rattle.engine.specs.declared.cap.Cap.{Cap}
use Rattle.engine.specs.declared.mask.Mask.{Mask}
use Rattle.engine.specs.declared.cascade.Cascade.{Cascade}

module _ {B : Type 0} where
  -- a cap of k: no more than k operations
  abbrev pub capped : ℕ → Meaning B → Meaning B
  capped k m = record { enc = m.enc; dec = m.dec; left = min k m.left }

  -- a mask of p and q: ⊕ p before enciphering and ⊕ q after, and the same back
  abbrev pub masked : Arith B → B → B → Meaning B → Meaning B
  masked A p q m = record {
    enc = λ x. A.plus (m.enc (A.plus x p)) q;
    dec = λ y. A.plus (m.dec (A.plus y q)) p;
    left = m.left;
  }

  -- a cascade: one engine after the other, as long as both have operations left
  abbrev pub cascaded : Meaning B → Meaning B → Meaning B
  cascaded m n = record { enc = λ x. n.enc (m.enc x); dec = λ y. m.dec (n.dec y); left = min m.left n.left }

-- the meaning of each layer's value, from those of the engines that it holds
abbrev pub cap_means : {E B : Type 0} → (E → Meaning B) → Cap E B → Meaning B
cap_means means c = capped c.limit (means c.below)

abbrev pub mask_means : {E B : Type 0} → Arith B → (E → Meaning B) → Mask E B → Meaning B
mask_means A means m = masked A m.before m.after (means m.below)

abbrev pub cascade_means : {E F B : Type 0} → (E → Meaning B) → (F → Meaning B) → Cascade E F B → Meaning B
cascade_means first second c = cascaded (first c.first) (second c.second)
