-- What a zone and a ledger are both made of: movable blocks by key and data, fixed blocks by place and data, and beside the bays the lengths,
-- the clock and the free handles. B is what is kept of a bay.
use Rattle.std.specs.Prelude.{Bool, cond, List, [], ◌∷◌, ◌++◌, map, ℕ, zero, suc, ◌+◌, ◌-◌, length, get_or, take, drop, replicate, eqb, leb}
use Rattle.std.proofs.Math.Option
use Rattle.std.proofs.Math.Option.{Option, none, some}
use Rattle.block_type.specs.Limits.{fixed_header, master_size, up4}
use Rattle.kinds.specs.Kinds.{Item, item, masters_of, is, has_name, item_size}
use Rattle.calls.specs.Calls.{Target, by_handle, by_pointer, by_name, Answer, told}
use Rattle.calls.specs.Roster.{Card}
use Rattle.calls.specs.Bays.{Bays, last, more, over, find_s, find_f, max_s, sum_s}

-- ---- movable blocks

-- the bytes that they take
abbrev pub total : List Item → ℕ
total [] = 0
total (e ∷ es) = item_size e + total es

-- the first that passes the test
abbrev pub get : (Item → Bool) → List Item → Option Item
get t [] = none
get t (e ∷ es) = cond (t e) (some e) (get t es)

-- the item changed by g, where it passes the test
abbrev pub alter : (Item → Bool) → (Item → Item) → Item → Item
alter t g e = cond (t e) (g e) e

-- "Data are zero"
abbrev pub new_item : ℕ → ℕ → Item
new_item h c = item h (replicate (up4 c) 0)

-- resize: "the common first bytes stay, added bytes are zero"
abbrev pub sized : ℕ → List ℕ → List ℕ
sized a l = take a l ++ replicate (a - length l) 0

-- a card for each handle: its block's data size
abbrev pub card : Item → ℕ → Card
card e h = record { handle = h; amount = length e.bytes }

abbrev pub listed : List Item → List Card
listed [] = []
listed (e ∷ es) = map (card e) (masters_of e) ++ listed es

-- n handles: h, h + 4 and so on
abbrev pub handles_from : ℕ → ℕ → List ℕ
handles_from h zero = []
handles_from h (suc n) = h ∷ handles_from (h + master_size) n

-- the first of them (0 for none), and the others
abbrev pub top : List ℕ → ℕ
top hs = get_or hs 0 0

abbrev pub rest : List ℕ → List ℕ
rest hs = drop 1 hs

-- ---- fixed blocks

pub record Fixed : Type 0 where
  pub place : ℕ
  pub bytes : List ℕ

abbrev pub fsize : Fixed → ℕ
fsize x = fixed_header + length x.bytes

-- "Answers the data offset, its pointer"; of a fixed block "data start at byte 4", and "Ledger lists are read with the new pointers and sizes"
-- (document 02, U6)
abbrev pub pointer : Fixed → ℕ
pointer x = x.place + fixed_header

-- "a fixed block's place is the bay's end less its size": of n bytes, before `end`
abbrev pub new_fixed : ℕ → ℕ → Fixed
new_fixed n end = record { place = end - n; bytes = replicate (n - fixed_header) 0 }

-- the fixed block with its bytes changed by f, where it has the pointer p
abbrev pub alter_fixed : ℕ → (List ℕ → List ℕ) → Fixed → Fixed
alter_fixed p f x = cond (eqb p (pointer x)) (record { place = x.place; bytes = f x.bytes }) x

-- ---- a state, and what a call makes of it

pub record State (B : Type 0) : Type 0 where
  -- the buffer's length, and L
  pub buf : ℕ
  pub len : ℕ
  -- document 02, U5: byte 14 of a zone; an accepted create or use steps it by one, modulo 256
  pub clock : ℕ
  -- the free handles: the chain from its head on, the stack from its top on
  pub chain : List ℕ
  pub bays : Bays B Fixed

-- what a call answers, and the state after it
pub record Out (B : Type 0) : Type 0 where
  pub answer : Answer
  pub next : State B

module _ {B : Type 0} where
  abbrev pub says : Answer → State B → Out B
  says a s = record { answer = a; next = s }

  -- with one value
  abbrev pub done : ℕ → State B → Out B
  done v s = says (told 0 v) s

  abbrev pub with_bays : Bays B Fixed → State B → State B
  with_bays b s = record { buf = s.buf; len = s.len; clock = s.clock; chain = s.chain; bays = b }

  -- ---- fixed blocks come and go

  -- in the highest bay whose sum μ reaches n (the first, where none does), a new fixed block of n bytes: that bay changed by f, the block, the
  -- bay e; `end` is where the last bay ends
  abbrev pub cut_high : (B → ℕ) → (B → B) → B → ℕ → ℕ → Bays B Fixed → Fixed × Bays B Fixed
  cut_high μ f e n end (last b) = (new_fixed n end, more (f b) (new_fixed n end) (last e))
  cut_high μ f e n end (more b x s) =
      cond (leb n (max_s μ s))
      ((cut_high μ f e n end s).0, more b x (cut_high μ f e n end s).1)
      (new_fixed n x.place, more (f b) (new_fixed n x.place) (more e x s))

  -- the bay b, the freed bytes of x and the first bay after those are one bay, by j
  abbrev pub join_over : (B → ℕ → B → B) → B → Fixed → Bays B Fixed → Bays B Fixed
  join_over j b x (last c) = last (j b (fsize x) c)
  join_over j b x (more c y s) = more (j b (fsize x) c) y s

  -- the fixed block of pointer p is freed, where there is one
  abbrev pub join_at : (B → ℕ → B → B) → ℕ → Bays B Fixed → Bays B Fixed
  join_at j p (last b) = last b
  join_at j p (more b x s) = cond (eqb p (pointer x)) (join_over j b x s) (more b x (join_at j p s))

-- ---- what is in the bays; `all` are a bay's movable blocks, μ is its sum

module _ {B : Type 0} (all : B → List Item) where
  -- the data of the block that a stretch names
  abbrev pub content : Target → Bays B Fixed → Option (List ℕ)
  content (by_handle h) s = over (λ (e : Item). e.bytes) (find_s (λ b. get (is h) (all b)) s)
  content (by_pointer p) s = over (λ (x : Fixed). x.bytes) (find_f (λ (x : Fixed). eqb p (pointer x)) s)
  content (by_name n) s = over (λ (e : Item). e.bytes) (find_s (λ b. get (has_name n) (all b)) s)

  -- [] where there is none
  abbrev pub data_of : Target → State B → List ℕ
  data_of t s = Option.get_or (content t s.bays) []

  -- the sum of the bay that has the handle; 0 where none has it
  abbrev pub own_sum : (B → ℕ) → ℕ → Bays B Fixed → ℕ
  own_sum μ h s = Option.get_or (find_s (λ b. over (λ (e : Item). μ b) (get (is h) (all b))) s) 0

  abbrev pub live_count : State B → ℕ
  live_count s = sum_s (λ b. length (listed (all b))) s.bays

  -- m: "relocatable blocks plus chain length"
  abbrev pub master_count : State B → ℕ
  master_count s = live_count s + length s.chain
