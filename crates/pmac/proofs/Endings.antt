-- What the last block adds to the sum. Assumes nothing.
use Rattle.std.proofs.Common.{◌≡◌, ◌-◌, Bool, true, false, cond, List, ◌∷◌, ◌++◌, length, replicate, sym, refl, ap, ◌∙◌, eq-eqb}
use Rattle.block.specs.Arith.{Arith, Laws, width}
use Rattle.bits.specs.Blocks.{last, padded, whole}
use Rattle.bits.specs.Memory.{closing}
use Rattle.bits.specs.declared.Last.{Last}
use Rattle.bits.specs.declared.Last.TheVariants.{Whole, Padded}
use Rattle.pmac.specs.Pmac.{ending}

module _ {B : Type 0} {A : Arith B} (w : Laws A) (l : B) where
  -- L halved goes with a whole block
  added : Last B → B
  added (Whole x) = A.plus x (A.halve l)
  added (Padded x) = x

  closes : (end : List Bool) → added (cond (whole A end) (Whole (A.pack end)) (Padded (A.pack (padded A end)))) ≡ ending A l end
  unfolding added ending padded
  closes end = at (whole A end) (end ++ (true ∷ replicate (width A - 1 - length end) false))
    where
      -- a whole block is not padded, and nothing goes with a short one
      at : (t : Bool) (long : List Bool) → added (cond t (Whole (A.pack end)) (Padded (A.pack (cond t end long)))) ≡ A.plus (A.pack (cond t end long)) (cond t (A.halve l) A.zero)
      at true long = refl
      at false long = sym (w.keeps (A.pack long))

  pub ends_whole : (bs : List Bool) (x : B) → Whole x ≡ closing A bs → A.plus x (A.halve l) ≡ ending A l (last A bs)
  unfolding added
  ends_whole bs x e = ap added e ∙ closes (last A bs)

  pub ends_short : (bs : List Bool) (x : B) → Padded x ≡ closing A bs → x ≡ ending A l (last A bs)
  unfolding added
  ends_short bs x e = ap added e ∙ closes (last A bs)

pub ending_whole : {B : Type 0} (A : Arith B) (l : B) (end : List Bool) → length end ≡ width A → ending A l end ≡ A.plus (A.pack end) (A.halve l)
unfolding ending padded
ending_whole A l end h = rw (eq-eqb (length end) (width A) h, ending) refl
