-- A record's slot: how its bytes are laid out. Assumes nothing.
use Rattle.std.proofs.Common.{◌≡◌, ℕ, ◌-◌, ◌≤◌, false, List, ◌∷◌, ◌++◌, length, take, set, replicate, ap, arith, length-append, length-take, ltb-false}
use borrow.Rule.Slice.PartMut.{put_mid}
use lib.ListN.{length-replicate}
use Rattle.std.proofs.lemmas.List.{drop-replicate}
use Rattle.book.specs.Slots.{bytes_for}
use Rattle.book.specs.Reading.{Edit, adds, cuts, puts, tags}
use Rattle.book.specs.Writing.{data_of, overlong, word_bytes, slot_bytes}

-- fields written into 32 zero bytes: a kind, a position, a length, and data
pub laid : (kind position n j : ℕ) (ps ns ds data' : List ℕ) → ps ≡ word_bytes position → ns ≡ word_bytes n → ds ≡ data' → j ≡ length data'
    → put_mid 12 j (put_mid 8 4 (put_mid 4 4 (set (replicate 32 0) 2 kind) ps) ns) ds
    ≡ 0 ∷ 0 ∷ kind ∷ 0 ∷ (word_bytes position ++ (word_bytes n ++ (data' ++ replicate (20 - length data') 0)))
laid kind position n j ps ns ds data' p q d e =
    rw (p, q, d, e) (ap (λ t. 0 ∷ 0 ∷ kind ∷ 0 ∷ (word_bytes position ++ (word_bytes n ++ (data' ++ t)))) (drop-replicate (length data') 20 0))

short : (n : ℕ) (bytes : List ℕ) → n ≤ 160 → length (take (bytes_for n) bytes) ≤ 20
short n bytes h = simp length-take (omega arith)

pub length_data : (e : Edit) → overlong e ≡ false → length (data_of e) ≤ 20
length_data (adds n bytes) h = short n bytes (ltb-false _ _ h)
length_data (cuts n) h = omega arith
length_data (puts position n bytes) h = short n bytes (ltb-false _ _ h)
length_data (tags n) h = omega arith

pub length_slot : (e : Edit) → overlong e ≡ false → length (slot_bytes e) ≡ 32
length_slot e h =
    let k = length_data e h in simp (length-append, length-replicate) (omega arith)
