-- A part that is written over a list: what stands where. Assumes nothing.
use Rattle.std.proofs.Common.{◌≡◌, ℕ, ◌+◌, ◌-◌, ◌<◌, ◌≤◌, List, ◌++◌, length, get_or, take, drop, ap, ◌∙◌, arith}
use lib.Seq.{length_paste_head, paste}
use Rattle.std.proofs.lemmas.List.{get_or_append_left, get_or-append_right, get_or-take, get_or-drop, length-take-le}

pub paste_below : (d : List ℕ) (at : ℕ) (s : List ℕ) (n i : ℕ) → at ≤ length d → n ≤ length s → i < at → get_or (paste d at s n) i 0 ≡ get_or d i 0
paste_below d at s n i h k l =
    let head = length_paste_head d at s n h k in
    let front = length-take-le at d h in
    get_or_append_left (take at d ++ take n s) (drop (at + n) d) 0 i (omega arith)
    ∙ get_or_append_left (take at d) (take n s) 0 i (omega arith)
    ∙ get_or-take at d i 0 l

pub paste_inside : (d : List ℕ) (at : ℕ) (s : List ℕ) (n j : ℕ) → at ≤ length d → n ≤ length s → j < n → get_or (paste d at s n) (at + j) 0 ≡ get_or s j 0
paste_inside d at s n j h k l =
    let head = length_paste_head d at s n h k in
    let front = length-take-le at d h in
    let same : at + j - at ≡ j = omega arith in
    get_or_append_left (take at d ++ take n s) (drop (at + n) d) 0 (at + j) (omega arith)
    ∙ get_or-append_right (take at d) (take n s) at (at + j) 0 front (omega arith)
    ∙ ap (λ x. get_or (take n s) x 0) same
    ∙ get_or-take n s j 0 l

pub paste_above : (d : List ℕ) (at : ℕ) (s : List ℕ) (n i : ℕ) → at ≤ length d → n ≤ length s → at + n ≤ i → get_or (paste d at s n) i 0 ≡ get_or d i 0
paste_above d at s n i h k l =
    let head = length_paste_head d at s n h k in
    let same : at + n + (i - (at + n)) ≡ i = omega arith in
    get_or-append_right (take at d ++ take n s) (drop (at + n) d) (at + n) i 0 head l
    ∙ get_or-drop (at + n) d (i - (at + n)) 0
    ∙ ap (λ x. get_or d x 0) same
