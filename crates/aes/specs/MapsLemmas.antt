-- The maps on blocks. Assumes nothing.
use Rattle.std.specs.Prelude.{◌≡◌, ℕ, zero, suc, ◌<◌, List, [], ◌∷◌, map, slice_index, refl}
use Rattle.std.proofs.Common.{sym, ap, subst, ◌∙◌, arith}
use Rattle.block.specs.Arith.{from_bytes, to_bytes}
use Rattle.block.specs.Blocks.{Block128, make128, arith128}
use Rattle.block.specs.Width.{value_of, digits}
use Rattle.block.proofs.Numbers.{value_bits, bytes_bits}
use Rattle.block.specs.Laws.{bytes_read_back}
use Rattle.block.specs.Same.{laws128}
use Rattle.engine.specs.Meaning.{Undoes}
use Rattle.aes.specs.State.{State, state, bytes_in, Fit, AllFit}
use Rattle.aes.specs.Cipher.{Keys, FitKeys, cipher, inv_cipher}
use Rattle.aes.specs.Maps.{on_block, keyed}
use Rattle.aes.specs.Words.{state_of}
use Rattle.aes.specs.Keyed.{keys_in}
use Rattle.aes.specs.declared.words.Words.{Words}
use Rattle.aes.specs.declared.keys.RoundKeys.{RoundKeys}
use Rattle.aes.specs.Fits.{cipher_fit, inv_cipher_fit}
use Rattle.aes.specs.Undo.{rounds_undo}
use Rattle.aes.specs.Pack.{state_fit}

-- ---- bytes of a state

abbrev AllBytes : List ℕ → Type 0
AllBytes [] = Unit {0}
AllBytes (x ∷ xs) = (x < 256) × AllBytes xs

at_place : (xs : List ℕ) → AllBytes xs → (i : ℕ) → slice_index xs i < 256
at_place [] t i = omega arith
at_place (x ∷ xs) (h, t) zero = h
at_place (x ∷ xs) (h, t) (suc i) = at_place xs t i

small : (y : State) → Fit y → (i : ℕ) → slice_index (bytes_in y) i < 256
small y ((a, b, c, d), (e, f, g, h), (i, j, k, l), (m, n, o, p)) =
    at_place (bytes_in y) (a, (b, (c, (d, (e, (f, (g, (h, (i, (j, (k, (l, (m, (n, (o, (p, tt))))))))))))))))

from_number : (x : Block128) → to_bytes arith128 x ≡ digits 16 x.value
from_number x = bytes_bits 16 x.value

to_number : (y : State) → Fit y → from_bytes arith128 (bytes_in y) ≡ make128 (value_of 16 (bytes_in y))
to_number y h = ap make128 (value_bits 16 (bytes_in y) refl (small y h))

digits_fit : (v : ℕ) → Fit (state (digits 16 v))
digits_fit v = omega arith

block_fit : (x : Block128) → Fit (state (to_bytes arith128 x))
block_fit x = subst Fit (ap state (sym (from_number x))) (digits_fit x.value)

-- what the code works out is the map
pub on_block_lem : (f : State → State) → ((y : State) → Fit y → Fit (f y)) → (x r : Block128) (y : State)
    → r ≡ make128 (value_of 16 (bytes_in y)) → y ≡ f (state (digits 16 x.value)) → r ≡ on_block f x
unfolding on_block
on_block_lem f fits x r y er ey =
    let z = state (digits 16 x.value) in
    er ∙ ap (λ s. make128 (value_of 16 (bytes_in s))) ey ∙ sym (to_number (f z) (fits z (digits_fit x.value)))
    ∙ ap (λ l. from_bytes arith128 (bytes_in (f (state l)))) (sym (from_number x))

-- ---- undone

undone : (f g : State → State) → ((y : State) → Fit y → Fit (g y)) → ((y : State) → Fit y → f (g y) ≡ y) → (x : Block128) → on_block f (on_block g x) ≡ x
unfolding on_block
undone f g fits u x =
    let back = bytes_read_back laws128 in
    let l = to_bytes arith128 x in
    let y = g (state l) in
    ap (λ z. from_bytes arith128 (bytes_in (f (state z)))) (back.bytes (bytes_in y) refl (small y (fits (state l) (block_fit x))))
    ∙ ap (λ z. from_bytes arith128 (bytes_in z)) (u (state l) (block_fit x))
    ∙ ap (λ z. from_bytes arith128 (bytes_in (state z))) (from_number x) ∙ ap (from_bytes arith128) (sym (from_number x)) ∙ back.block x

-- round keys held as words are bytes
all_fit : (ks : List Words) → AllFit (map state_of ks)
all_fit [] = tt
all_fit (k ∷ ks) = (state_fit k, all_fit ks)

pub keys_fit : (k : RoundKeys) → FitKeys (keys_in k)
keys_fit k = (state_fit k.forth.first, all_fit k.forth.middle, state_fit k.forth.last)

pub undoes : (w : Keys) (left : ℕ) → FitKeys w → Undoes (keyed w left)
undoes w left h = record {
  dec_enc = undone (inv_cipher w) (cipher w) (λ y. cipher_fit w y h) (λ y. rounds_undo.inv_of_cipher w y h);
  enc_dec = undone (cipher w) (inv_cipher w) (λ y. inv_cipher_fit w y h) (λ y. rounds_undo.cipher_of_inv w y h);
}

pub enciphered : (k : RoundKeys) (x r : Block128) (y : State) → r ≡ make128 (value_of 16 (bytes_in y)) → y ≡ cipher (keys_in k) (state (digits 16 x.value)) → r ≡ on_block (cipher (keys_in k)) x
enciphered k = on_block_lem (cipher (keys_in k)) (λ y. cipher_fit (keys_in k) y (keys_fit k))

pub deciphered : (k : RoundKeys) (x r : Block128) (y : State) → r ≡ make128 (value_of 16 (bytes_in y)) → y ≡ inv_cipher (keys_in k) (state (digits 16 x.value)) → r ≡ on_block (inv_cipher (keys_in k)) x
deciphered k = on_block_lem (inv_cipher (keys_in k)) (λ y. inv_cipher_fit (keys_in k) y (keys_fit k))
