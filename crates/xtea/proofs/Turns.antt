-- One turn of the loop that enciphers, and of the one that deciphers. Assumes nothing.
use Rattle.std.proofs.Common.{◌≡◌, ℕ, suc, ◌+◌, List, ap, ◌∙◌, add-one, arith}
use Rattle.xtea.specs.Cycles.{plus, minus, on_first, on_second, Words, sum, cycle, uncycle, enciphered, deciphered}

sum_up : (s i : ℕ) → s ≡ sum i → plus s 0x9E3779B9 ≡ sum (suc i)
sum_up s i e = omega arith

sum_down : (s i : ℕ) → s ≡ sum (suc i) → minus s 0x9E3779B9 ≡ sum i
sum_down s i e = omega arith

pub up : (key : List ℕ) (i s v w f g : ℕ) (p : Words) → s ≡ sum i → (v, w) ≡ enciphered key i p
    → f ≡ on_first key s w → g ≡ on_second key (plus s 0x9E3779B9) (plus v f)
    → (plus s 0x9E3779B9 ≡ sum (i + 1)) × ((plus v f, plus w g) ≡ enciphered key (i + 1) p)
unfolding enciphered cycle
up key i s v w f g p es ep ef eg =
    let next = sum_up s i es in
    rw (add-one, ← ep) (next, cc)

pub down : (key : List ℕ) (i j s v w f g : ℕ) (q : Words) → i ≡ suc j → s ≡ sum i → deciphered key i (v, w) ≡ q
    → g ≡ on_second key s v → f ≡ on_first key (minus s 0x9E3779B9) (minus w g)
    → (minus s 0x9E3779B9 ≡ sum j) × (deciphered key j (minus v f, minus w g) ≡ q)
unfolding deciphered uncycle
down key i j s v w f g q ei es ep eg ef =
    let now : s ≡ sum (suc j) = rw ei at es in
    let next = sum_down s j now in
    (next, ap (deciphered key j) (cc) ∙ (rw ei at ep))
