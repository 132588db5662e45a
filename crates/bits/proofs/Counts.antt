-- How many blocks b bits have. Assumes nothing.
use Rattle.std.proofs.Common.{◌≡◌, ℕ, zero, suc, ◌+◌, ◌-◌, ◌*◌, ◌/◌, ◌%◌, ◌<◌, ◌≤◌, min, max, sym, refl, ap, ◌∙◌, mul-le-mul_right, mod-lt, div-add-mod', div-mul-le_self, arith}
use Rattle.std.proofs.lemmas.Nat.{div_below, le-div}
use Rattle.block.specs.Arith.{Arith, Laws, width}
use Rattle.bits.specs.Blocks.{blocks}

-- x / n rounded up, as the remainder says it
pub ceil_is : (x n : ℕ) → 0 < n → x / n + min 1 (x % n) ≡ (x + (n - 1)) / n
ceil_is x n p = by (x % n) refl
  where
    exact : (y k : ℕ) → k * n ≤ y → y < (k + 1) * n → k ≡ y / n
    exact y k low high = let a = le-div k y n p low in let b = div_below y n (k + 1) p high in omega arith

    by : (r : ℕ) → x % n ≡ r → x / n + min 1 (x % n) ≡ (x + (n - 1)) / n
    by zero e =
        let parts = div-add-mod' x n in
        let none : x / n + min 1 (x % n) ≡ x / n = omega arith in
        none ∙ exact (x + (n - 1)) (x / n) (omega arith) (omega arith)
    by (suc r) e =
        let parts = div-add-mod' x n in
        let below = mod-lt x p in
        let one : x / n + min 1 (x % n) ≡ x / n + 1 = omega arith in
        one ∙ exact (x + (n - 1)) (x / n + 1) (omega arith) (omega arith)

ceil_mono : (b c n : ℕ) → 0 < n → b ≤ c → (b + (n - 1)) / n ≤ (c + (n - 1)) / n
ceil_mono b c n p h = le-div ((b + (n - 1)) / n) (c + (n - 1)) n p (omega (arith, div-mul-le_self (b + (n - 1)) n))

module _ {B : Type 0} {A : Arith B} (w : Laws A) where
  pub wide : 0 < width A
  wide = let h = w.some in omega arith

  pub blocks_some : (b : ℕ) → 1 ≤ blocks A b
  unfolding blocks
  blocks_some b = omega arith

  pub blocks_mono : (b c : ℕ) → b ≤ c → blocks A b ≤ blocks A c
  unfolding blocks
  blocks_mono b c h = let m = ceil_mono b c (width A) wide h in omega arith

  -- a block before the last is whole, and something follows it
  pub blocks_inner : (b i : ℕ) → 1 ≤ i → i < blocks A b → i * width A < b
  unfolding blocks
  blocks_inner b i h k =
      let q = (b + (width A - 1)) / width A in
      let below : suc i ≤ q = omega arith in
      omega (arith, wide, mul-le-mul_right (width A) below, div-mul-le_self (b + (width A - 1)) (width A))

  pub blocks_all : (b : ℕ) → b ≤ blocks A b * width A
  unfolding blocks
  blocks_all b =
      let q = (b + (width A - 1)) / width A in
      let over : q ≤ max 1 q = omega arith in
      omega (arith, wide, mul-le-mul_right (width A) over, div-add-mod' (b + (width A - 1)) (width A), mod-lt (b + (width A - 1)) wide)

  -- where the last block begins, and that it is no longer than a block
  pub blocks_before : (b : ℕ) → (blocks A b - 1) * width A ≤ b
  blocks_before b = at (blocks A b - 1) refl
    where
      at : (i : ℕ) → blocks A b - 1 ≡ i → i * width A ≤ b
      at zero e = omega arith
      at (suc i) e = omega (arith, blocks_inner b (suc i) (omega arith) (omega arith))

  pub blocks_left : (b : ℕ) → b - (blocks A b - 1) * width A ≤ width A
  blocks_left b =
      let m = blocks A b in
      let more : (m - 1) * width A + width A ≡ m * width A = next m (blocks_some b) in
      omega (arith, blocks_all b)
    where
      next : (m : ℕ) → 1 ≤ m → (m - 1) * width A + width A ≡ m * width A
      next m h = let e : m ≡ suc (m - 1) = omega arith in let grows : (m - 1) * width A + width A ≡ suc (m - 1) * width A = omega arith in grows ∙ ap (λ z. z * width A) (sym e)

  pub ceil_all : (x : ℕ) → x ≤ (x + (width A - 1)) / width A * width A
  ceil_all x =
      let q = (x + (width A - 1)) / width A in
      omega (arith, wide, div-add-mod' (x + (width A - 1)) (width A), mod-lt (x + (width A - 1)) wide)

  pub block_of : (pos : ℕ) → pos / width A * width A ≤ pos
  block_of pos = div-mul-le_self pos (width A)

  pub block_below : (pos b : ℕ) → pos < b → pos / width A + 1 ≤ blocks A b
  unfolding blocks
  block_below pos b h =
      let q = pos / width A in
      let le : q + 1 ≤ (b + (width A - 1)) / width A = le-div (q + 1) (b + (width A - 1)) (width A) wide (omega (arith, wide, div-mul-le_self pos (width A))) in
      omega arith

  pub block_ceil : (pos a : ℕ) → pos / width A ≤ (pos + a + (width A - 1)) / width A
  block_ceil pos a = le-div (pos / width A) (pos + a + (width A - 1)) (width A) wide (omega (arith, div-mul-le_self pos (width A)))

  -- the largest memory has few blocks
  pub blocks_few : (b : ℕ) → b ≤ 524288 → blocks A b ≤ 65536
  unfolding blocks
  blocks_few b h =
      let some = w.some in
      let few = div_below (b + (width A - 1)) (width A) 65537 wide (omega arith) in
      omega arith

  -- where the last block begins, in bytes
  pub blocks_within : (b : ℕ) → 8 * ((blocks A b - 1) * A.size) ≤ b
  blocks_within b = omega (arith, blocks_before b)
