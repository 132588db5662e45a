-- A table's rule, at all of its entries by one computation. Assumes nothing.
use Rattle.std.specs.Prelude.{◌≡◌, ℕ, zero, suc, ◌+◌, ◌<◌, List, get_or, slice_index_or, refl}
use Rattle.std.proofs.Common.{sym, ap, ◌∙◌, le_of_suc-le-suc, not-suc-le-zero, zero-add, arith}
use Rattle.aes.specs.State.{listed}

at_listed : {A : Type 0} (f : ℕ → A) (n i k : ℕ) (d : A) → k < n → slice_index_or (listed f n i) k d ≡ f (i + k)
at_listed f zero i k d h = absurd (not-suc-le-zero h)
at_listed f (suc n) i zero d h = ap f (omega arith)
at_listed f (suc n) i (suc k) d h = at_listed f n (suc i) k d (le_of_suc-le-suc h) ∙ ap f (omega arith)

-- a table of n entries that is its rule at each has it at k
pub by_rule : {A : Type 0} (l : List A) (f : ℕ → A) (n : ℕ) (d : A) → l ≡ listed f n 0 → (k : ℕ) → k < n → slice_index_or l k d ≡ f k
by_rule l f n d e k h = ap (λ t. get_or t k d) e ∙ at_listed f n 0 k d h ∙ ap f (zero-add k)

-- two rules agree below n, by one computation
pub agree : (f g : ℕ → ℕ) (n : ℕ) → listed f n 0 ≡ listed g n 0 → (k : ℕ) → k < n → f k ≡ g k
agree f g n e k h = sym (by_rule (listed f n 0) f n 0 refl k h) ∙ by_rule (listed f n 0) g n 0 e k h
