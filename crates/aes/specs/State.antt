-- FIPS 197, section 3.4: the state, four columns of four bytes. Assumes nothing.
use Rattle.std.specs.Prelude.{ℕ, zero, suc, ◌+◌, ◌*◌, ◌<◌, List, [], ◌∷◌, slice_index}

-- a column of the state, or a word of the key schedule: its bytes in rows 0 to 3
pub record Column : Type 0 where
  pub s0 : ℕ
  pub s1 : ℕ
  pub s2 : ℕ
  pub s3 : ℕ

pub record State : Type 0 where
  pub c0 : Column
  pub c1 : Column
  pub c2 : Column
  pub c3 : Column

abbrev pub column : ℕ → ℕ → ℕ → ℕ → Column
column w x y z = record { s0 = w; s1 = x; s2 = y; s3 = z }

abbrev pub columns : Column → Column → Column → Column → State
columns j k l m = record { c0 = j; c1 = k; c2 = l; c3 = m }

-- a map of bytes at each byte of a column, a map of columns at each column
abbrev pub each : (ℕ → ℕ) → Column → Column
each f k = column (f k.s0) (f k.s1) (f k.s2) (f k.s3)

abbrev pub every : (Column → Column) → State → State
every f x = columns (f x.c0) (f x.c1) (f x.c2) (f x.c3)

-- f i, f (i + 1), .. of which there are n
abbrev pub listed : {A : Type 0} → (ℕ → A) → ℕ → ℕ → List A
listed f zero i = []
listed f (suc n) i = f i ∷ listed f n (suc i)

-- word i of bytes
abbrev pub word_at : List ℕ → ℕ → Column
word_at l i = column (slice_index l (4 * i)) (slice_index l (4 * i + 1)) (slice_index l (4 * i + 2)) (slice_index l (4 * i + 3))

-- the state of sixteen bytes, and its bytes: s[r, c] is byte r + 4c
abbrev pub state : List ℕ → State
state l = columns (word_at l 0) (word_at l 1) (word_at l 2) (word_at l 3)

abbrev pub bytes_in : State → List ℕ
bytes_in x =
    x.c0.s0 ∷ x.c0.s1 ∷ x.c0.s2 ∷ x.c0.s3 ∷ x.c1.s0 ∷ x.c1.s1 ∷ x.c1.s2 ∷ x.c1.s3
    ∷ x.c2.s0 ∷ x.c2.s1 ∷ x.c2.s2 ∷ x.c2.s3 ∷ x.c3.s0 ∷ x.c3.s1 ∷ x.c3.s2 ∷ x.c3.s3 ∷ []

-- every entry is a byte
abbrev pub Bytes : Column → Type 0
Bytes k = (k.s0 < 256) × (k.s1 < 256) × (k.s2 < 256) × (k.s3 < 256)

abbrev pub Fit : State → Type 0
Fit x = Bytes x.c0 × Bytes x.c1 × Bytes x.c2 × Bytes x.c3

abbrev pub AllFit : List State → Type 0
AllFit [] = Unit {0}
AllFit (k ∷ ks) = Fit k × AllFit ks
