-- Document 02, U5: pages as a cache. The clock and ages, what each mark does to a page's status, and which pages a new one drives out. A zone and a
-- ledger share this text: of their bays it asks for the movable blocks (`all`) and the sum (μ), and for no place.
use Rattle.std.specs.Prelude.{Bool, true, false, cond, not, ◌&&◌, ◌||◌, List, [], ◌∷◌, ℕ, ◌+◌, ◌-◌, ◌%◌, replicate, eqb, leb, ltb}
use Rattle.std.proofs.Math.Option.{Option, none, some}
use Rattle.block_type.specs.Limits.{stamp_range, up4}
use Rattle.kinds.specs.Kinds.{Status, Key, of_handle, of_name, Item, page, item_size}
use Rattle.calls.specs.Calls.{Mark, set_dirty, clear_dirty, set_lock, clear_lock}
use Rattle.calls.specs.Sort.{flat, sort_by}
use Rattle.calls.specs.Bays.{Bays, concat_s, max_s}
use Rattle.calls.specs.State.{Fixed, State}

-- ---- the clock: "step the clock by one modulo 256 and stamp the block with it"

abbrev pub tick : ℕ → ℕ
tick clock = (clock + 1) % stamp_range

abbrev pub stamped : ℕ → Status → Status
stamped clock s = record { dirty = s.dirty; lock = s.lock; stamp = clock }

-- "Age is clock minus stamp, modulo 256"
abbrev pub age : ℕ → Status → ℕ
age clock s = (clock + stamp_range - s.stamp) % stamp_range

-- "A new block has both flags clear and zero data"
abbrev pub new_page : ℕ → ℕ → ℕ → Item
new_page n clock c = page n (record { dirty = false; lock = false; stamp = clock }) (replicate (up4 c) 0)

-- "set or clear dirty, set or clear lock"
abbrev pub marked : Mark → Status → Status
marked set_dirty s = record { dirty = true; lock = s.lock; stamp = s.stamp }
marked clear_dirty s = record { dirty = false; lock = s.lock; stamp = s.stamp }
marked set_lock s = record { dirty = s.dirty; lock = true; stamp = s.stamp }
marked clear_lock s = record { dirty = s.dirty; lock = false; stamp = s.stamp }

-- ---- which pages go: "unlocked named blocks are dropped, greatest age first, smaller name among equals"

-- a page that may go
pub record Candidate : Type 0 where
  pub name : ℕ
  pub age : ℕ
  pub dirty : Bool

abbrev pub key_unlocked : Key → Bool
key_unlocked (of_handle h) = false
key_unlocked (of_name n s) = not s.lock

abbrev pub unlocked : Item → Bool
unlocked e = key_unlocked e.key

-- x goes before y
abbrev pub goes_before : Candidate → Candidate → Bool
goes_before x y = ltb y.age x.age || (eqb x.age y.age && leb x.name y.name)

-- the candidates among movable blocks
abbrev pub key_candidate : ℕ → Key → List Candidate
key_candidate clock (of_handle h) = []
key_candidate clock (of_name n s) = cond s.lock [] (record { name = n; age = age clock s; dirty = s.dirty } ∷ [])

abbrev pub candidates : ℕ → List Item → List Candidate
candidates clock es = flat (λ (e : Item). key_candidate clock e.key) es

-- each in its turn
abbrev pub in_turn : ℕ → List Item → List Candidate
in_turn clock es = sort_by goes_before (candidates clock es)

-- whether a block is the page of one of them
abbrev pub is_one : List Candidate → ℕ → Bool
is_one [] n = false
is_one (x ∷ xs) n = eqb n x.name || is_one xs n

abbrev pub key_among : List Candidate → Key → Bool
key_among xs (of_handle h) = false
key_among xs (of_name n s) = is_one xs n

abbrev pub among : List Candidate → Item → Bool
among xs e = key_among xs e.key

-- the bytes of the blocks that pass the test
abbrev pub freed : (Item → Bool) → List Item → ℕ
freed t [] = 0
freed t (e ∷ es) = cond (t e) (item_size e + freed t es) (freed t es)

-- the shortest list from the front that is enough; all, where none is
abbrev pub shortest : (List Candidate → Bool) → List Candidate → List Candidate
shortest enough [] = []
shortest enough (x ∷ xs) = cond (enough []) [] (x ∷ shortest (λ ys. enough (x ∷ ys)) xs)

-- the first dirty one's name
abbrev pub first_dirty : List Candidate → Option ℕ
first_dirty [] = none
first_dirty (x ∷ xs) = cond x.dirty (some x.name) (first_dirty xs)

module _ {B : Type 0} (all : B → List Item) (μ : B → ℕ) where
  -- the largest bay's sum, once the blocks that pass the test are gone
  abbrev pub sum_without : (Item → Bool) → Bays B Fixed → ℕ
  sum_without t s = max_s (λ b. μ b + freed t (all b)) s

  -- "until one does": the pages that go before some bay's sum reaches the need
  abbrev pub dropping : ℕ → State B → List Candidate
  dropping need s = shortest (λ xs. leb need (sum_without (among xs) s.bays)) (in_turn s.clock (concat_s all s.bays))
