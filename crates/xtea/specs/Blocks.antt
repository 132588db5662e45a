-- XTEA on blocks: each way undoes the other, and the published example. Assumes nothing.
use Rattle.std.specs.Prelude.{◌≡◌, ℕ, ◌+◌, ◌*◌, ◌/◌, ◌%◌, ◌^◌, List, [], ◌∷◌, refl}
use Rattle.std.proofs.Common.{sym, ap, ◌∙◌, arith}
use Rattle.block.specs.Blocks.{Block64}
use Rattle.block.specs.Same.{made64}
use Rattle.engine.specs.Meaning.{Undoes}
use Rattle.xtea.specs.Cycles.{Words, Fit, cycle, enciphered, deciphered}
use Rattle.xtea.specs.Xtea.{halves, joined, keyed, Published}
use Rattle.xtea.specs.Undo.{undone, enciphered_fits, deciphered_fits}

halves_fit : (x : Block64) → Fit (halves x)
halves_fit x = let h = x.fits in (omega arith, omega arith)

halves_joined : (p : Words) → Fit p → halves (joined p) ≡ p
halves_joined (v, w) (hv, hw) =
    let high : (v * 2 ^ 32 + w) % 2 ^ 64 / 2 ^ 32 ≡ v = omega arith in
    let low : (v * 2 ^ 32 + w) % 2 ^ 64 % 2 ^ 32 ≡ w = omega arith in
    λ i. (high i, low i)

joined_halves : (x : Block64) → joined (halves x) ≡ x
joined_halves x = sym (made64 x _ (omega arith))

-- maps of words that undo each other do so on blocks
around : (f g : Words → Words) → ((p : Words) → Fit p → Fit (f p)) → ((p : Words) → Fit p → g (f p) ≡ p) → (x : Block64) → joined (g (halves (joined (f (halves x))))) ≡ x
around f g fits undo x =
    let h = halves_fit x in
    ap (λ p. joined (g p)) (halves_joined (f (halves x)) (fits (halves x) h)) ∙ ap joined (undo (halves x) h) ∙ joined_halves x

pub undoes : (key : List ℕ) (left : ℕ) → Undoes (keyed key left)
undoes key left = record {
  dec_enc = around (enciphered key 32) (deciphered key 32) (enciphered_fits key 32) (undone.dec_enc key 32);
  enc_dec = around (deciphered key 32) (enciphered key 32) (deciphered_fits key 32) (undone.enc_dec key 32);
}

example : ◌≡◌ {A = Words} (enciphered (0x00010203 ∷ 0x04050607 ∷ 0x08090A0B ∷ 0x0C0D0E0F ∷ []) 32 (0x41424344, 0x45464748)) (0x497DF3D0, 0x72612CB5)
unfolding enciphered cycle
example = refl

pub published : Published
published left = ap joined example
