-- The plain reckoning of a history. It knows the bits standing, what is left, the accounts' totals and what slips show; it is fed the
-- map Enc, the memory's size and the calls' arguments, and works every tag out from nothing. Assumes nothing.
use Rattle.std.specs.Prelude.{◌≡◌, ℕ, ◌+◌, ◌-◌, ◌≤◌, Bool, cond, List, [], ◌∷◌, ◌++◌, length, take, nat_lt, slice_index_or, slice_set}
use Rattle.std.proofs.Math.Seq.{paste}
use Rattle.block.specs.Bits.{bits_of}
use Rattle.block.specs.Arith.{Arith, from_bytes, to_bytes}
use Rattle.engine.specs.Refusals.{Refusal}
use Rattle.pmac.specs.Pmac.{full}
use Rattle.pmac.specs.Prices.{add_due, cut_due, put_due, edit_bound, put_bound}
use Rattle.pmac.specs.Recovery.{placed}
use Rattle.overlay.specs.Refusals.{Outcome, carried, refused, numbered}
use Rattle.overlay.specs.Judging.{decided, misfits, open_conditions, add_conditions, cut_conditions, put_conditions, tag_conditions, recover_conditions, whole_due}
use Rattle.overlay.specs.Receiving.{same}

-- how a history begins
pub data Beginning : Type 0 where
  opens : Beginning
  receives : ℕ → Beginning  -- so many bits

-- a call, with its arguments
pub data Call : Type 0 where
  checks : List ℕ → Call  -- by a tag
  recovers : List ℕ → ℕ → Call  -- by the full tag, of a block
  adds : List ℕ → ℕ → Call  -- bytes, of which so many bits
  cuts : ℕ → Call
  puts : ℕ → List ℕ → ℕ → Call  -- at a position
  tags : ℕ → Call  -- of so many bytes
  books : ℕ → ℕ → Call  -- a slip, by its place among those given, into an account

-- what it answers: nothing, where the overlay's state does not take it or there is no such slip; or its outcome, with a tag's bytes
pub data Answer : Type 0 where
  silent : Answer
  says : Outcome → List ℕ → Answer

pub data Phase : Type 0 where
  returned : Phase  -- open or receive was refused
  received : Phase
  opened : Phase

pub record Reckoning : Type 0 where
  pub phase : Phase
  pub bits : List Bool  -- those standing
  pub left : ℕ
  pub totals : List ℕ  -- of the sixteen accounts
  pub slips : List ℕ  -- what each shows, in the order in which they were given

-- what is told of a call: its answer, and the bits standing and the operations left after it
pub record Reply : Type 0 where
  pub answer : Answer
  pub bits : ℕ
  pub left : ℕ

-- the reckoning after the last call
abbrev pub ends : Reckoning → List Reckoning → Reckoning
ends r [] = r
ends r (r' ∷ rs) = ends r' rs

-- what is left, what is booked and what is on slips, together
abbrev pub total : List ℕ → ℕ
total [] = 0
total (x ∷ xs) = x + total xs

abbrev pub worth : Reckoning → ℕ
worth r = r.left + total r.totals + total r.slips

-- at every point what is left, booked and on slips makes n
abbrev pub Conserved : ℕ → List Reckoning → Type 0
Conserved n [] = Unit {0}
Conserved n (r ∷ rs) = (worth r ≡ n) × Conserved n rs

-- how a call goes
pub data Verdict : Type 0 where
  untaken : Verdict
  refusal : Refusal → Verdict
  wrong : ℕ → Verdict  -- a check that finds a wrong tag, for so many operations
  granted : ℕ → Verdict  -- carried out for so many

-- the operations that it takes
abbrev pub cost : Verdict → ℕ
cost untaken = 0
cost (refusal x) = 0
cost (wrong n) = n
cost (granted n) = n

-- only in one state
abbrev pub when_open : Phase → Verdict → Verdict
when_open returned v = untaken
when_open received v = untaken
when_open opened v = v

abbrev pub when_received : Phase → Verdict → Verdict
when_received returned v = untaken
when_received received v = v
when_received opened v = untaken

-- a booking moves a slip's number into a total: 16 for an account above 15, then 17 for a total that would pass 4,294,967,295
abbrev pub booking : Reckoning → ℕ → ℕ → Answer × Reckoning
booking r k i =
    let shown = slice_index_or r.slips k 0 in let old = slice_index_or r.totals i 0 in
    cond (nat_lt k (length r.slips))
    (cond (nat_lt 15 i) (says (refused (numbered 16)) [], r)
    (cond (nat_lt (4294967295 - old) shown) (says (refused (numbered 17)) [], r)
    (says carried [], record { phase = r.phase; bits = r.bits; left = r.left; totals = slice_set r.totals i (old + shown); slips = slice_set r.slips k 0 })))
    (silent, r)

-- the reckoning after a call: n operations fewer left, and a slip of them
abbrev pub paid : Phase → List Bool → ℕ → Reckoning → Reckoning
paid phase bits n r = record { phase = phase; bits = bits; left = r.left - n; totals = r.totals; slips = r.slips ++ (n ∷ []) }

-- a right tag opens
abbrev pub next : Call → Phase → Phase
next (checks tag) phase = opened
next (recovers tag i) phase = phase
next (adds edit n) phase = phase
next (cuts n) phase = phase
next (puts pos edit n) phase = phase
next (tags n) phase = phase
next (books k i) phase = phase

module _ {B : Type 0} (A : Arith B) (enc : B → B) (size : ℕ) where
  -- the first bytes of the full tag of some bits
  abbrev pub tag_of : ℕ → List Bool → List ℕ
  tag_of n bits = take n (to_bytes A (full A enc bits))

  -- how a call goes, decided on the reckoning's values and the call's arguments alone
  abbrev pub verdict : Reckoning → Call → Verdict
  verdict r (checks tag) =
      let b = length r.bits in let due = whole_due A b in
      when_received r.phase (decided refusal r.left (tag_conditions A size b (length tag)) due (cond (same tag (tag_of (length tag) r.bits)) (granted due) (wrong due)))
  verdict r (recovers tag i) =
      let b = length r.bits in let due = whole_due A b in
      when_received r.phase (decided refusal r.left (recover_conditions A size b (length tag) i) due (granted due))
  verdict r (adds edit n) =
      let b = length r.bits in let due = add_due A b n in
      when_open r.phase (decided refusal r.left (add_conditions size b (length edit) n) due (granted due))
  verdict r (cuts n) =
      let b = length r.bits in let due = cut_due A b n in
      when_open r.phase (decided refusal r.left (cut_conditions size b n) due (granted due))
  verdict r (puts pos edit n) =
      let b = length r.bits in let due = put_due A b pos n in
      when_open r.phase (decided refusal r.left (put_conditions size b pos (length edit) n) due (granted due))
  verdict r (tags n) = when_open r.phase (decided refusal r.left (tag_conditions A size (length r.bits) n) 1 (granted 1))
  verdict r (books k i) = untaken

  -- what a call that is carried out makes of the bits; a recovery leaves bits that differ in one block alone and have the full tag handed in
  abbrev pub Becomes : Call → List Bool → List Bool → Type 0
  Becomes (checks tag) bits bits' = bits' ≡ bits
  Becomes (recovers tag i) bits bits' = (v : B) × ((bits' ≡ placed A i v bits) × (full A enc bits' ≡ from_bytes A tag))
  Becomes (adds edit n) bits bits' = bits' ≡ bits ++ take n (bits_of edit)
  Becomes (cuts n) bits bits' = bits' ≡ take (length bits - n) bits
  Becomes (puts pos edit n) bits bits' = bits' ≡ paste bits pos (bits_of edit) n
  Becomes (tags n) bits bits' = bits' ≡ bits
  Becomes (books k i) bits bits' = bits' ≡ bits

  -- the bytes that it gives
  abbrev pub given : Call → List Bool → List ℕ
  given (checks tag) bits = []
  given (recovers tag i) bits = []
  given (adds edit n) bits = []
  given (cuts n) bits = []
  given (puts pos edit n) bits = []
  given (tags n) bits = tag_of n bits
  given (books k i) bits = []

  -- a call that goes so answers a and leaves r': carried out, or finding a wrong tag, it lowers left by what is due and gives a slip of
  -- it; any other refusal changes nothing and gives a slip of zero
  abbrev pub Goes : Verdict → Reckoning → Call → Answer → Reckoning → Type 0
  Goes untaken r c a r' = (a ≡ silent) × (r' ≡ r)
  Goes (refusal x) r c a r' = (a ≡ says (refused x) []) × (r' ≡ paid r.phase r.bits 0 r)
  Goes (wrong n) r c a r' = (a ≡ says (refused (numbered 9)) []) × (r' ≡ paid r.phase r.bits n r)
  Goes (granted n) r c a r' = (bits : List Bool) × (Becomes c r.bits bits × ((a ≡ says carried (given c bits)) × (r' ≡ paid (next c r.phase) bits n r)))

  -- one call
  abbrev pub Step : Reckoning → Call → Answer → Reckoning → Type 0
  Step r (checks tag) a r' = Goes (verdict r (checks tag)) r (checks tag) a r'
  Step r (recovers tag i) a r' = Goes (verdict r (recovers tag i)) r (recovers tag i) a r'
  Step r (adds edit n) a r' = Goes (verdict r (adds edit n)) r (adds edit n) a r'
  Step r (cuts n) a r' = Goes (verdict r (cuts n)) r (cuts n) a r'
  Step r (puts pos edit n) a r' = Goes (verdict r (puts pos edit n)) r (puts pos edit n) a r'
  Step r (tags n) a r' = Goes (verdict r (tags n)) r (tags n) a r'
  Step r (books k i) a r' = (a ≡ (booking r k i).0) × (r' ≡ (booking r k i).1)

  -- the price list's bound
  abbrev pub bound : ℕ → Call → ℕ
  bound b (checks tag) = whole_due A b
  bound b (recovers tag i) = whole_due A b
  bound b (adds edit n) = edit_bound A n
  bound b (cuts n) = edit_bound A n
  bound b (puts pos edit n) = put_bound A n
  bound b (tags n) = 1
  bound b (books k i) = 0

  -- what is told of one call is what the reckoning says of it
  pub record Tells (r : Reckoning) (c : Call) (x : Reply) (r' : Reckoning) : Type 0 where
    pub step : Step r c x.answer r'
    pub bits_are : x.bits ≡ length r'.bits
    pub left_is : x.left ≡ r'.left
    -- no operation appears or is lost
    pub balanced : worth r' ≡ worth r
    -- what its slip shows is within the price list's bound
    pub fair : cost (verdict r c) ≤ bound (length r.bits) c

  -- calls one after the other: what is told of each, and the reckoning after each
  abbrev pub Run : Reckoning → List Call → List Reply → List Reckoning → Type 0
  Run r [] [] [] = Unit {0}
  Run r [] [] (r' ∷ rs) = ⊥
  Run r [] (x ∷ xs) rs = ⊥
  Run r (c ∷ cs) [] rs = ⊥
  Run r (c ∷ cs) (x ∷ xs) [] = ⊥
  Run r (c ∷ cs) (x ∷ xs) (r' ∷ rs) = Tells r c x r' × Run r' cs xs rs

  -- open and receive, of what is left, and the totals and slips handed in, and at receive the memory's bits
  abbrev pub beginning : Beginning → ℕ → List ℕ → List ℕ → List Bool → Answer × Reckoning
  beginning opens left totals slips memory =
      decided (λ x. (says (refused x) [], record { phase = returned; bits = []; left = left; totals = totals; slips = slips ++ (0 ∷ []) })) left (open_conditions size) 1
      (says carried [], record { phase = opened; bits = []; left = left - 1; totals = totals; slips = slips ++ (1 ∷ []) })
  beginning (receives b) left totals slips memory =
      cond (misfits size b) (says (refused (numbered 2)) [], record { phase = returned; bits = []; left = left; totals = totals; slips = slips ++ (0 ∷ []) })
      (says carried [], record { phase = received; bits = take b memory; left = left; totals = totals; slips = slips ++ (0 ∷ []) })

  -- the laws of the reckoning: each call has an answer, and only one
  abbrev pub Total : Type 0
  Total = (r : Reckoning) (c : Call) → (a : Answer) × ((r' : Reckoning) × Step r c a r')

  abbrev pub Deterministic : Type 0
  Deterministic = (r : Reckoning) (c : Call) (a a' : Answer) (r₁ r₂ : Reckoning) → Step r c a r₁ → Step r c a' r₂ → (a ≡ a') × (r₁ ≡ r₂)

  -- no operation appears or is lost: what was left is left, booked or on a slip
  abbrev pub Balanced : Type 0
  Balanced = (r : Reckoning) (c : Call) (a : Answer) (r' : Reckoning) → length r.totals ≡ 16 → Step r c a r' → worth r' ≡ worth r

  -- no call's slip shows more than the price list's bound for it
  abbrev pub Fair : Type 0
  Fair = (r : Reckoning) (c : Call) → cost (verdict r c) ≤ bound (length r.bits) c
