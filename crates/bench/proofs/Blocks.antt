-- A memory's whole blocks. Assumes nothing.
use Rattle.std.proofs.Common.{◌≡◌, ℕ, ◌+◌, ◌-◌, ◌*◌, ◌/◌, ◌<◌, ◌≤◌, Bool, true, false, cond, ltb, List, take, drop, Some, Ok, Err, IfOk, IfSome, Option, Result, sym, ap, ◌∙◌, ap₂, subst, add-one, arith, ◌++◌, length, suc-mul}
use Rattle.std.proofs.lemmas.Nat.{div-mul-add}
use Rattle.std.proofs.lemmas.List.{length-append, length-drop, drop-drop}
use Rattle.std.proofs.Math.Seq.{take-append_seam, drop-append_seam}
use Rattle.std.specs.Result.{result_ok}
use Rattle.engine.specs.Meaning.{answered}
use Rattle.engine.specs.declared.fault.EngineFault.{EngineFault}
use Rattle.engine.specs.declared.fault.EngineFault.TheVariants.{Spent}
use Rattle.block.specs.Arith.{Arith}
use Rattle.bench.specs.Sums.{block_at, summed}

-- the blocks go by as chunks: what is left behind the first k, and then behind one more
pub record Left (size : ℕ) (memory rest : List ℕ) (k : ℕ) : Type 0 where
  pub is : rest ≡ drop (k * size) memory
  pub fits : k * size ≤ length memory

pub none_gone : (size : ℕ) (memory rest : List ℕ) → rest ≡ memory → Left size memory rest 0
none_gone size memory rest e = let z : 0 ≡ 0 * size = omega arith in record { is = e ∙ ap (λ m. drop m memory) z; fits = omega arith }

pub chunk : (size : ℕ) (memory rest bytes after : List ℕ) (k : ℕ) → Left size memory rest k → rest ≡ bytes ++ after → length bytes ≡ size → bytes ≡ take size (drop (k * size) memory)
chunk size memory rest bytes after k left e n =
    let P : ℕ → Type 0 = λ m. bytes ≡ take m (drop (k * size) memory) in
    subst P n (sym (take-append_seam bytes after) ∙ ap (take (length bytes)) (sym e ∙ left.is))

pub left_more : (size : ℕ) (memory rest bytes after : List ℕ) (k : ℕ) → Left size memory rest k → rest ≡ bytes ++ after → length bytes ≡ size → Left size memory after (k + 1)
left_more size memory rest bytes after k left e n = record {
  is =
      let P : ℕ → Type 0 = λ m. after ≡ drop (k * size + m) memory in
      let q : k * size + size ≡ (k + 1) * size = omega (arith, suc-mul k size, add-one k) in
      subst P n (sym (drop-append_seam bytes after) ∙ ap (drop (length bytes)) (sym e ∙ left.is) ∙ drop-drop (length bytes) (k * size) memory) ∙ ap (λ m. drop m memory) q;
  fits =
      let l : length rest ≡ length memory - k * size = ap length left.is ∙ length-drop (k * size) memory in
      let m : length rest ≡ length bytes + length after = ap length e ∙ length-append bytes after in
      let q : k * size + size ≡ (k + 1) * size = omega (arith, suc-mul k size, add-one k) in
      omega (arith, left.fits);
}

pub none_left : (size : ℕ) (memory rest : List ℕ) (k : ℕ) → Left size memory rest k → length rest < size → k ≡ length memory / size
none_left size memory rest k left h =
    let l : length rest ≡ length memory - k * size = ap length left.is ∙ length-drop (k * size) memory in
    let q : k * size + length rest ≡ length memory = omega (arith, left.fits) in
    sym (div-mul-add k size (length rest) h) ∙ ap (λ n. n / size) q

-- what an operation that was carried out gave
pub given : {B : Type 0} (left : ℕ) (y v : B) → Ok y ≡ answered left v → y ≡ v
given left y v e = by_test (ltb 0 left) e
  where
    by_test : (b : Bool) → Ok y ≡ cond b (Ok v) (Err (Spent 1 0)) → y ≡ v
    by_test true e = cc
    by_test false e = let z : ◌≡◌ {A = ℕ} 0 1 = cc in absurd (omega arith)

-- one block more
pub more : {B : Type 0} (A : Arith B) (f f' : B → B) (memory : List ℕ) (i : ℕ) (s t b y : B) → f ≡ f' → s ≡ summed A f' memory i → b ≡ block_at A memory i → y ≡ f b → t ≡ A.plus s y
    → t ≡ summed A f' memory (i + 1)
unfolding summed
more {B} A f f' memory i s t b y ef es eb ey et =
    et ∙ ap₂ A.plus es (ey ∙ ap f eb ∙ ap (λ (h : B → B). h (block_at A memory i)) ef) ∙ sym (ap (summed A f' memory) (add-one i))

-- a sum that was reached, where it is the one that is told
pub reached : {B : Type 0} (o : Option B) (r : Result B EngineFault) (x : B) (told : Option B) → o ≡ result_ok r → IfOk r (λ s. s ≡ x) → Some x ≡ told → IfSome o (λ s. Some s ≡ told)
reached o (Ok s) x told e h t = subst (λ o. IfSome o (λ s. Some s ≡ told)) (sym e) (ap Some h ∙ t)
reached o (Err fault) x told e h t = subst (λ o. IfSome o (λ s. Some s ≡ told)) (sym e) tt
