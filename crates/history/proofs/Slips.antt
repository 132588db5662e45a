-- What a list of slips shows. Assumes nothing.
use Rattle.std.proofs.Common.{◌≡◌, ℕ, zero, suc, ◌<◌, ◌≤◌, true, false, cond, ltb, List, [], ◌∷◌, ◌++◌, length, get_or, set, sym, refl, ap, ◌∙◌, arith, le-ltb, lt-ltb}
use Rattle.overlay.specs.Ledger.{Booked, book}
use Rattle.overlay.specs.declared.ledger.Account.{Account}
use Rattle.overlay.specs.declared.slip.Slip.{Slip}
use Rattle.history.specs.Reckoning.{silent, says}
use Rattle.history.specs.Desk.{Entered, booked_at}
use Rattle.history.specs.Views.{shown}

pub shown_length : (xs : List Slip) → length (shown xs) ≡ length xs
shown_length [] = refl
shown_length (x ∷ xs) = ap suc (shown_length xs)

pub shown_at : (xs : List Slip) (k : ℕ) (d : Slip) → k < length xs → get_or (shown xs) k 0 ≡ (get_or xs k d).count
shown_at [] k d h = absurd (omega arith)
shown_at (x ∷ xs) zero d h = refl
shown_at (x ∷ xs) (suc k) d h = shown_at xs k d (omega arith)

pub shown_set : (xs : List Slip) (k : ℕ) (s : Slip) → shown (set xs k s) ≡ set (shown xs) k s.count
shown_set [] k s = refl
shown_set (x ∷ xs) zero s = refl
shown_set (x ∷ xs) (suc k) s = ap (λ z. x.count ∷ z) (shown_set xs k s)

pub shown_more : (xs : List Slip) (s : Slip) → shown (xs ++ (s ∷ [])) ≡ shown xs ++ (s.count ∷ [])
shown_more [] s = refl
shown_more (x ∷ xs) s = ap (λ z. x.count ∷ z) (shown_more xs s)

-- a booking of slip k, which there is
pub entered_at : (accounts : List Account) (items : List Slip) (k i : ℕ) (x : Slip) (b : Booked) (s : Slip) → k < length items → x ≡ get_or items k x → b ≡ book accounts x.count i → s.count ≡ b.slip
    → record { answer = says b.outcome []; accounts = b.accounts; slips = shown (set items k s) } ≡ booked_at accounts (shown items) k i
entered_at accounts items k i x b s h ex eb es =
    let there : ltb k (length (shown items)) ≡ true = lt-ltb k (length (shown items)) (let e = shown_length items in omega arith) in
    let shows : x.count ≡ get_or (shown items) k 0 = ap (λ z. z.count) ex ∙ sym (shown_at items k x h) in
    let of : Booked → Entered = λ z. record { answer = says z.outcome []; accounts = z.accounts; slips = set (shown items) k z.slip } in
    ap (λ z. record { answer = says b.outcome []; accounts = b.accounts; slips = z }) (shown_set items k s ∙ ap (set (shown items) k) es)
    ∙ ap of (eb ∙ ap (λ z. book accounts z i) shows)
    ∙ sym (ap (λ t. cond t (of (book accounts (get_or (shown items) k 0) i)) (record { answer = silent; accounts = accounts; slips = shown items })) there)

-- of a slip that there is not
pub not_there : (accounts : List Account) (items : List Slip) (k i : ℕ) → length items ≤ k → record { answer = silent; accounts = accounts; slips = shown items } ≡ booked_at accounts (shown items) k i
not_there accounts items k i h =
    let away : ltb k (length (shown items)) ≡ false = le-ltb k (length (shown items)) (let e = shown_length items in omega arith) in
    sym (ap (λ t. cond t (let b = book accounts (get_or (shown items) k 0) i in record { answer = says b.outcome []; accounts = b.accounts; slips = set (shown items) k b.slip }) (record { answer = silent; accounts = accounts; slips = shown items })) away)
