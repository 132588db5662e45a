-- The words of a key from its bytes four by four. Assumes nothing.
use Rattle.std.proofs.Common.{◌≡◌, ℕ, ◌<◌, List, [], ◌∷◌, length, get_or, take, drop, ap, ◌∙◌, add-zero, drop-drop, arith}
use Rattle.std.specs.Int.{from_be_bytes, w32}
use Rattle.std.specs.Simd.{first_chunks}
use Rattle.std.proofs.lemmas.List.{get_or-take, get_or-drop}
use Rattle.xtea.specs.Xtea.{word, words}

chunk_word : (bytes : List ℕ) (i : ℕ) → from_be_bytes w32 (take 4 (drop i bytes)) ≡ word bytes i
chunk_word bytes i =
    let at = λ (k : ℕ) (h : k < 4). get_or-take 4 (drop i bytes) k 0 h ∙ get_or-drop i bytes k 0 in
    let a = rw add-zero at (at 0 (omega arith)) in
    let b = at 1 (omega arith) in
    let d = at 2 (omega arith) in
    let e = at 3 (omega arith) in
    omega (arith, a, b, d, e)

module _ (key : List ℕ) (chunks : List (List ℕ)) (cut : chunks ≡ first_chunks 4 4 key) where
  abbrev Is : ℕ → ℕ → Type 0
  Is y k = y ≡ from_be_bytes w32 (get_or chunks k [])

  pub words_from : (ys : List ℕ) → length ys ≡ 4 → Is (get_or ys 0 0) 0 → Is (get_or ys 1 0) 1 → Is (get_or ys 2 0) 2 → Is (get_or ys 3 0) 3 → ys ≡ words key
  words_from [] l a b d e = absurd (omega arith)
  words_from (x ∷ []) l a b d e = absurd (omega arith)
  words_from (x ∷ y ∷ []) l a b d e = absurd (omega arith)
  words_from (x ∷ y ∷ z ∷ []) l a b d e = absurd (omega arith)
  words_from (x ∷ y ∷ z ∷ w ∷ []) l a b d e =
      let at = λ (k : ℕ). ap (λ cs. from_be_bytes w32 (get_or cs k [])) cut in
      let p : x ≡ word key 0 = a ∙ at 0 ∙ chunk_word key 0 in
      let q : y ≡ word key 4 = b ∙ at 1 ∙ chunk_word key 4 in
      let r : z ≡ word key 8 = d ∙ at 2 ∙ simp drop-drop (chunk_word key 8) in
      let s : w ≡ word key 12 = e ∙ at 3 ∙ simp drop-drop (chunk_word key 12) in
      cc (p, q, r, s)
  words_from (x ∷ y ∷ z ∷ w ∷ v ∷ ys) l a b d e = absurd (omega arith)
