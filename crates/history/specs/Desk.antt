-- An overlay in whatever state with its memory, accounts and slips, and one call on them. Assumes nothing.
use Rattle.std.specs.Prelude.{◌≡◌, ℕ, ◌+◌, ◌*◌, ◌≤◌, min, cond, List, [], ◌∷◌, ◌++◌, length, take, replicate, nat_lt, slice_index, slice_set}
use Rattle.block.specs.Arith.{Arith}
use Rattle.block.specs.Bits.{bits_of}
use Rattle.bits.specs.Memory.{standing}
use Rattle.engine.specs.Meaning.{Meaning}
use Rattle.overlay.specs.Refusals.{Outcome, carried, refused}
use Rattle.overlay.specs.Ledger.{book}
use Rattle.overlay.specs.Calls.{State, After, Made, made, back, begin, add, cut, put, tag}
use Rattle.overlay.specs.Laws.{Stands, then}
use Rattle.overlay.specs.declared.ledger.Account.{Account}
use Rattle.history.specs.Reckoning.{Beginning, opens, receives, Call, checks, recovers, adds, cuts, puts, tags, books, Answer, silent, says, returned, received, opened, Reckoning, Step, Reply, Tells, Run, ends, beginning, total, Conserved}
use Rattle.overlay.specs.Receiving.{Arrived, receive, check, recover}

-- an overlay in one of its states
pub data Kept (B : Type 0) : Type 0 where
  engine : Meaning B → Kept B  -- handed back
  arrival : Arrived B → Kept B
  open_one : State B → Kept B

pub record Desk (B : Type 0) : Type 0 where
  pub overlay : Kept B
  pub memory : List ℕ
  pub accounts : List Account
  pub slips : List ℕ

-- a buffer of n zero bytes; a buffer of 17 is refused like any that is longer
abbrev pub blank : ℕ → List ℕ
blank n = take (min n 17) (replicate 17 0)

-- what a call gives and leaves of an overlay: its answer, the overlay and its memory, and the slip if it gives one
pub record Turn (B : Type 0) : Type 0 where
  pub answer : Answer
  pub overlay : Kept B
  pub memory : List ℕ
  pub slip : List ℕ

-- after a call on a desk
pub record Moved (B : Type 0) : Type 0 where
  pub answer : Answer
  pub desk : Desk B

abbrev pub totals : List Account → List ℕ
totals [] = []
totals (x ∷ xs) = x.total ∷ totals xs

-- after a booking: its answer, the accounts and the slips
pub record Entered : Type 0 where
  pub answer : Answer
  pub accounts : List Account
  pub slips : List ℕ

-- slip k into account i, if there is such a slip
abbrev pub booked_at : List Account → List ℕ → ℕ → ℕ → Entered
booked_at accounts slips k i =
    let b = book accounts (slice_index slips k) i in
    cond (nat_lt k (length slips)) (record { answer = says b.outcome []; accounts = b.accounts; slips = slice_set slips k b.slip })
    (record { answer = silent; accounts = accounts; slips = slips })

module _ {B : Type 0} where
  -- the overlay's state does not take the call
  abbrev pub untouched : Kept B → List ℕ → Turn B
  untouched k memory = record { answer = silent; overlay = k; memory = memory; slip = [] }

  abbrev pub turn : Outcome → List ℕ → Kept B → List ℕ → ℕ → Turn B
  turn outcome bytes k memory n = record { answer = says outcome bytes; overlay = k; memory = memory; slip = n ∷ [] }

  -- after a call of a received or an open overlay
  abbrev pub after : {S : Type 0} → (S → Kept B) → After S → Turn B
  after keep a = turn a.outcome [] (keep a.world.state) a.world.memory a.slip

  -- after a tag: its bytes where it was given
  abbrev pub after_tag : After (State B) → Turn B
  after_tag a = turn a.outcome (then a.outcome a.world.buffer []) (open_one a.world.state) a.world.memory a.slip

  -- after open, receive and check: the overlay, or what was handed in
  abbrev pub after_taken : {S M : Type 0} → (S → Kept B) → (M → Kept B) → List ℕ → Made S M → Turn B
  after_taken given kept memory (made s n) = turn carried [] (given s) memory n
  after_taken given kept memory (back m r n) = turn (refused r) [] (kept m) memory n

  -- what an overlay tells of itself
  abbrev pub bits_in : Kept B → ℕ
  bits_in (engine m) = 0
  bits_in (arrival a) = a.bits
  bits_in (open_one s) = s.bits

  abbrev pub left_in : Kept B → ℕ
  left_in (engine m) = m.left
  left_in (arrival a) = a.engine.left
  left_in (open_one s) = s.engine.left

  -- on a desk
  abbrev pub moved : Desk B → Turn B → Moved B
  moved d t = record { answer = t.answer; desk = record { overlay = t.overlay; memory = t.memory; accounts = d.accounts; slips = d.slips ++ t.slip } }

  -- a booking on a desk
  abbrev pub entered : Desk B → ℕ → ℕ → Moved B
  entered d k i =
      let e = booked_at d.accounts d.slips k i in
      record { answer = e.answer; desk = record { overlay = d.overlay; memory = d.memory; accounts = e.accounts; slips = e.slips } }

module _ {B : Type 0} (A : Arith B) where
  -- a call of an open overlay
  abbrev pub on_open : State B → List ℕ → Call → Turn B
  on_open s memory (checks t) = untouched (open_one s) memory
  on_open s memory (recovers t i) = untouched (open_one s) memory
  on_open s memory (adds edit n) = after open_one (add A (record { state = s; memory = memory; buffer = [] }) edit n)
  on_open s memory (cuts n) = after open_one (cut A (record { state = s; memory = memory; buffer = [] }) n)
  on_open s memory (puts pos edit n) = after open_one (put A (record { state = s; memory = memory; buffer = [] }) pos edit n)
  on_open s memory (tags n) = after_tag (tag A (record { state = s; memory = memory; buffer = blank n }))
  on_open s memory (books k i) = untouched (open_one s) memory

  -- of a received one
  abbrev pub on_received : Arrived B → List ℕ → Call → Turn B
  on_received h memory (checks t) = after_taken open_one arrival memory (check A h memory t)
  on_received h memory (recovers t i) = after arrival (recover A (record { state = h; memory = memory; buffer = [] }) t i)
  on_received h memory (adds edit n) = untouched (arrival h) memory
  on_received h memory (cuts n) = untouched (arrival h) memory
  on_received h memory (puts pos edit n) = untouched (arrival h) memory
  on_received h memory (tags n) = untouched (arrival h) memory
  on_received h memory (books k i) = untouched (arrival h) memory

  abbrev pub on_overlay : Kept B → List ℕ → Call → Turn B
  on_overlay (engine m) memory c = untouched (engine m) memory
  on_overlay (arrival h) memory c = on_received h memory c
  on_overlay (open_one s) memory c = on_open s memory c

  abbrev pub called : Desk B → Call → Moved B
  called d (checks t) = moved d (on_overlay d.overlay d.memory (checks t))
  called d (recovers t i) = moved d (on_overlay d.overlay d.memory (recovers t i))
  called d (adds edit n) = moved d (on_overlay d.overlay d.memory (adds edit n))
  called d (cuts n) = moved d (on_overlay d.overlay d.memory (cuts n))
  called d (puts pos edit n) = moved d (on_overlay d.overlay d.memory (puts pos edit n))
  called d (tags n) = moved d (on_overlay d.overlay d.memory (tags n))
  called d (books k i) = entered d k i

  -- open and receive
  abbrev pub started : Beginning → Meaning B → List ℕ → Turn B
  started opens m memory = after_taken open_one engine memory (begin A m memory)
  started (receives b) m memory = after_taken arrival engine memory (receive A m memory b)

  -- calls one after the other, on all of a desk
  abbrev pub ran : Desk B → List Call → Desk B
  ran d [] = d
  ran d (c ∷ cs) = ran (called d c).desk cs

  -- the desk after open or receive
  abbrev pub first_desk : Beginning → Meaning B → List ℕ → List Account → List ℕ → Desk B
  first_desk b m memory accounts slips =
      let t = started b m memory in record { overlay = t.overlay; memory = t.memory; accounts = accounts; slips = slips ++ t.slip }

  -- an overlay over a memory stands for a reckoning's state, bits and left, its map being enc; what it keeps belongs to the bits
  module _ (enc : B → B) where
    abbrev pub Shows : Kept B → List ℕ → Reckoning → Type 0
    Shows (engine m) memory r = (r.phase ≡ returned) × ((r.bits ≡ []) × ((m.enc ≡ enc) × (m.left ≡ r.left)))
    Shows (arrival h) memory r =
        (r.phase ≡ received) × ((standing h.bits memory ≡ r.bits) × ((h.bits ≤ 8 * length memory) × ((h.engine.enc ≡ enc) × (h.engine.left ≡ r.left))))
    Shows (open_one s) memory r = (r.phase ≡ opened) × (Stands A s memory r.bits × ((s.engine.enc ≡ enc) × (s.engine.left ≡ r.left)))

    -- a desk stands for a reckoning: state, bits, left, all sixteen totals and every slip
    pub record StandsFor (size : ℕ) (d : Desk B) (r : Reckoning) : Type 0 where
      pub overlay : Shows d.overlay d.memory r
      pub size_is : length d.memory ≡ size
      pub totals_are : totals d.accounts ≡ r.totals
      pub sixteen : length d.accounts ≡ 16
      pub slips_are : d.slips ≡ r.slips

    -- one call on a desk that stands for r: a step of the reckoning with that answer, for which the desk stands afterwards
    abbrev pub Follows : ℕ → Reckoning → Call → Moved B → Type 0
    Follows size r c m = (r' : Reckoning) × (Step A enc size r c m.answer r' × StandsFor size m.desk r')

  -- whatever reckoning a desk stands for, one call on it follows the reckoning
  abbrev pub Reckons : Desk B → Call → Moved B → Type 0
  Reckons d c m = (enc : B → B) (size : ℕ) (r : Reckoning) → StandsFor enc size d r → Follows enc size r c m

  -- one call, and what is told of it
  abbrev pub Advances : Desk B → Call → Reply → Desk B → Type 0
  Advances d c x d' = (enc : B → B) (size : ℕ) (r : Reckoning) → StandsFor enc size d r → (r' : Reckoning) × (Tells A enc size r c x r' × StandsFor enc size d' r')

  -- whatever reckoning a desk stood for: the calls run as the reckoning says, what is told of them is what it says, and the desk
  -- stands for where it ends
  abbrev pub Runs : Desk B → List Call → List Reply → Desk B → Type 0
  Runs d cs xs d' =
      (enc : B → B) (size : ℕ) (r : Reckoning) → StandsFor enc size d r → (rs : List Reckoning) × (Run A enc size r cs xs rs × StandsFor enc size d' (ends r rs))

  -- a whole history, from open or receive on: the reckoning begins with what is handed in, and goes on through the points
  abbrev pub Begins : Meaning B → List ℕ → List Account → List ℕ → Beginning → Reply → Reckoning → Type 0
  Begins m memory accounts slips b x r =
      let p = beginning A m.enc (length memory) b m.left (totals accounts) slips (bits_of memory) in
      (x.answer ≡ p.0) × ((r ≡ p.1) × ((x.bits ≡ length r.bits) × (x.left ≡ r.left)))

  pub record History (m : Meaning B) (memory : List ℕ) (accounts : List Account) (slips : List ℕ) (b : Beginning) (calls : List Call) (replies : List Reply) (end : Desk B) : Type 0 where
    pub first : Reply
    pub rest : List Reply
    pub each : replies ≡ first ∷ rest
    pub start : Reckoning
    pub points : List Reckoning  -- after each call
    pub begins : Begins m memory accounts slips b first start
    pub runs : Run A m.enc (length memory) start calls rest points
    pub stands : StandsFor m.enc (length memory) end (ends start points)
    -- at every point: allowance used = booked + still on slips
    pub conserved : Conserved (m.left + total (totals accounts) + total slips) (start ∷ points)
