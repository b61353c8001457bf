-- Document 02, U5, in its own terms: what a walk through the bytes meets before and after a call on a page, and which number refuses it. The texts of
-- `Pages` and `Table` (crate calls), which zone and ledger share, are not used to say it: ages are not subtracted, nothing is sorted, and what a
-- create drops is said by calls of drop. A mistake in them would be noticed here.
use Rattle.std.specs.Prelude.{◌≡◌, true, false, cond, not, ◌&&◌, ◌||◌, List, [], ◌∷◌, ◌++◌, ℕ, suc, ◌+◌, ◌-◌, ◌%◌, ◌≤◌, ◌<◌, length, get_or, take, drop, replicate, eqb}
use Rattle.std.proofs.Math.Option.{some}
use Rattle.bigendian.specs.BigEndian.{Bytes, slice, overwrite}
use Rattle.block_type.specs.Limits.{free_code, fixed_code, page_code, page_limit, page_need, up4, stamp_range, zone_header, reloc_header, page_header, status_at, clock_at, argument_range}
use Rattle.format.specs.WellFormed.{length_field, first_field, masters_field, chain_field, clock_field, type_of, size_of, is_free, master_at, well_formed}
use Rattle.calls.specs.Calls.{Target, by_handle, by_pointer, by_name, Mark, set_dirty, clear_dirty, set_lock, clear_lock, PageCall, create_page, use_page, mark_page, drop_page, Call, allocate_relocatable, size, read, write, view, compact, enlarge, shrink, on_page, Answer, told, shows, beside, Given}
use Rattle.zone.specs.Call.{result_of, call}
use Rattle.zone.specs.View.{view_start, view_length}
use Rattle.zone.specs.Promise.{Promise}
use Rattle.zone.specs.Claim.{PageCard, card_in, pages_in, page_at, blocks_in, fixed_in, free_in}
use Rattle.zone.specs.Growth.{largest_of}

-- ---- pages that a walk meets

pub data Meets (x : PageCard) : List PageCard → Type 0 where
  met : {l : List PageCard} → Meets x (x ∷ l)
  further : {y : PageCard} {l : List PageCard} → Meets x l → Meets x (y ∷ l)

-- none of that name
abbrev pub Absent : ℕ → List ℕ → Type 0
Absent n bs = (x : PageCard) → Meets x (pages_in bs) → x.name ≡ n → ⊥

-- "Age is clock minus stamp, modulo 256": so many steps after the stamp the clock is where it is
abbrev pub Age : ℕ → ℕ → ℕ → Type 0
Age clock stamp a = (a < stamp_range) × ((stamp + a) % stamp_range ≡ clock)

-- "step the clock by one modulo 256"
abbrev pub next_clock : ℕ → ℕ
next_clock k = cond (eqb (suc k) stamp_range) 0 (suc k)

-- ---- who goes next: "unlocked named blocks .., greatest age first, smaller name among equals"

-- of a page of age a and name n, and one of age b and name k the first goes before the second, or they are one
pub data Before (a n b k : ℕ) : Type 0 where
  older : b < a → Before a n b k
  smaller : a ≡ b → n ≤ k → Before a n b k

pub record Next (bs : List ℕ) (x : PageCard) : Type 0 where
  pub there : Meets x (pages_in bs)
  pub loose : x.lock ≡ false
  pub before : (y : PageCard) (a b : ℕ) → Meets y (pages_in bs) → y.lock ≡ false → Age (clock_field bs) x.stamp a → Age (clock_field bs) y.stamp b → Before a x.name b y.name

-- "If no bay's sum reaches the need, unlocked named blocks are dropped, .. until one does": one after the other by the call drop, each while no bay's
-- sum reaches the need, and none afterwards; never a locked one, never a dirty one
pub data Drops (need : ℕ) : List ℕ → List ℕ → Type 0 where
  enough : {bs : List ℕ} → need ≤ largest_of (free_in bs) → Drops need bs bs
  goes : {bs mid end : List ℕ} {x : PageCard} → largest_of (free_in bs) < need → Next bs x → x.dirty ≡ false
      → Promise (on_page x.name drop_page) bs (told 0 0) mid → Drops need mid end → Drops need bs end

-- "the dropping would reach a dirty block": that of name n
pub data Stops (need n : ℕ) : List ℕ → Type 0 where
  at_dirty : {bs : List ℕ} {x : PageCard} → largest_of (free_in bs) < need → Next bs x → x.dirty ≡ true → x.name ≡ n → Stops need n bs
  goes_further : {bs mid : List ℕ} {x : PageCard} → largest_of (free_in bs) < need → Next bs x → x.dirty ≡ false
      → Promise (on_page x.name drop_page) bs (told 0 0) mid → Stops need n mid → Stops need n bs

-- a create whose dropping would reach the dirty page of name v
pub data StoppedCreate (v : ℕ) (bs : List ℕ) : Call → Type 0 where
  stopped_create : {n c : ℕ} → Stops (page_need c) v bs → StoppedCreate v bs (on_page n (create_page c))

-- the free bytes and those of unlocked pages, dirty ones too, between fixed blocks: what "dropping all unlocked blocks" would leave free in each bay; n
-- of this bay have been met
unfoldable pub emptied_met : ℕ → List (List ℕ) → List ℕ
emptied_met n [] = n ∷ []
emptied_met n (b ∷ bs) =
    cond (eqb (type_of b) fixed_code)
    (n ∷ emptied_met 0 bs)
    (emptied_met (n + cond (eqb (type_of b) free_code || (eqb (type_of b) page_code && not (card_in b).lock)) (size_of b) 0) bs)

abbrev pub emptied_in : List ℕ → List ℕ
emptied_in bs = emptied_met 0 (blocks_in bs)

-- ---- what no call on a page changes

-- a stretch's block, by handle or by pointer
pub data NoPage : Target → Type 0 where
  a_handle : {h : ℕ} → NoPage (by_handle h)
  a_pointer : {p : ℕ} → NoPage (by_pointer p)

pub record Stay (bs after : List ℕ) : Type 0 where
  -- L, bkFst and m
  pub long : length_field after ≡ length_field bs
  pub first : first_field after ≡ first_field bs
  pub masters : masters_field after ≡ masters_field bs
  -- hFstFree
  pub chain : chain_field after ≡ chain_field bs
  -- every read by handle or by pointer answers what it answered, and the fixed blocks are where they were
  pub kept : (t : Target) (i k : ℕ) (second : List ℕ) → NoPage t → (call (read t i k second) after).answer ≡ (call (read t i k second) bs).answer
  pub still : fixed_in after ≡ fixed_in bs

-- ---- what a call writes, and where blocks lie

-- no byte but those at i and j has changed
pub record OnlyAt (i j : ℕ) (bs after : List ℕ) : Type 0 where
  pub long : length after ≡ length bs
  pub same : (k : ℕ) → (k ≡ i → ⊥) → (k ≡ j → ⊥) → get_or after k 0 ≡ get_or bs k 0

-- every master holds what it held, and every page that is left lies where it lay
pub record Unmoved (bs after : List ℕ) : Type 0 where
  pub masters : slice after zone_header (first_field bs - zone_header) ≡ slice bs zone_header (first_field bs - zone_header)
  pub pages : (k v : ℕ) → page_at k after ≡ some v → page_at k bs ≡ some v

-- ---- create

-- the cards but those of name n
abbrev pub leaving : ℕ → List PageCard → List PageCard
leaving n [] = []
leaving n (x ∷ xs) = cond (eqb n x.name) (leaving n xs) (x ∷ leaving n xs)

-- what an accepted one leaves, with the value v
pub record Made (n c : ℕ) (bs after : List ℕ) (v : ℕ) : Type 0 where
  -- it is the calls of drop, one after the other, and then a create that drops nothing, of the same value and the same bytes
  pub mid : List ℕ
  pub dropped : Drops (page_need c) bs mid
  pub made : Promise (on_page n (create_page c)) mid (told 0 v) after
  -- "step the clock by one modulo 256 and stamp the block with it"; "A new block has both flags clear and zero data"
  pub ticks : clock_field after ≡ next_clock (clock_field bs)
  pub new : Meets (record { name = n; dirty = false; lock = false; stamp = clock_field after; bytes = replicate (up4 c) 0 }) (pages_in after)
  -- so right after the call its age is 0
  pub young : (x : PageCard) → Meets x (pages_in after) → x.name ≡ n → Age (clock_field after) x.stamp 0
  -- "Both answer the data offset"
  pub place : page_at n after ≡ some v
  -- "is placed as a relocatable block is": a relocatable block of the same size would begin where it begins, if a master is free
  pub placed : (b : Answer) (other : List ℕ) → (chain_field mid ≡ 0 → ⊥) → Promise (allocate_relocatable (c + (page_header - reloc_header))) mid b other
      → (b.number ≡ 0) × (v ≡ master_at other b.value + (page_header - reloc_header))
  -- beside it the pages that the dropping has left, as they were and in old order; no locked one and no dirty one is gone
  pub others : leaving n (pages_in after) ≡ pages_in mid
  pub locked : (x : PageCard) → Meets x (pages_in bs) → x.lock ≡ true → Meets x (pages_in after)
  pub unsaved : (x : PageCard) → Meets x (pages_in bs) → x.dirty ≡ true → Meets x (pages_in after)
  -- "greatest age first, smaller name among equals": behind a page that stays every one stays
  pub turn : (x y : PageCard) (a b : ℕ) → Meets x (pages_in bs) → Meets y (pages_in bs) → x.lock ≡ false → y.lock ≡ false → Age (clock_field bs) x.stamp a → Age (clock_field bs) y.stamp b
      → Before a x.name b y.name → Meets x (pages_in after) → Meets y (pages_in after)
  pub stay : Stay bs after

-- "11: create of a present name, after 7. 12: the dropping would reach a dirty block, after 5; nothing is dropped, and its value, alone among refusals, is
-- that block's name"; "Create gives 3 for c above 32,756, and 5 if dropping all unlocked blocks wouldn't do". (When 12 comes, and with
-- which value: `only_create` and `stopped` below)
pub record CreateSays (n c : ℕ) (bs after : List ℕ) (a : Answer) : Type 0 where
  pub shape : a ≡ told a.number a.value
  pub eleven : (x : PageCard) → Meets x (pages_in bs) → x.name ≡ n → a.number ≡ 11
  pub three : Absent n bs → page_limit < c → a.number ≡ 3
  pub five : Absent n bs → c ≤ page_limit → largest_of (emptied_in bs) < page_need c → a.number ≡ 5
  pub other : Absent n bs → c ≤ page_limit → page_need c ≤ largest_of (emptied_in bs) → (a.number ≡ 12 → ⊥) → a.number ≡ 0
  pub done : a.number ≡ 0 → Made n c bs after a.value
  pub nothing : (a.number ≡ 0 → ⊥) → after ≡ bs
  pub alone : (a.number ≡ 0 → ⊥) → (a.number ≡ 12 → ⊥) → a.value ≡ 0

-- ---- the other calls on a page

-- the cards with those of name n changed by f
abbrev pub on_name : ℕ → (PageCard → PageCard) → List PageCard → List PageCard
on_name n f [] = []
on_name n f (x ∷ xs) = cond (eqb n x.name) (f x) x ∷ on_name n f xs

-- "stamp the block with it"
abbrev pub stamped_with : ℕ → PageCard → PageCard
stamped_with k x = record { name = x.name; dirty = x.dirty; lock = x.lock; stamp = k; bytes = x.bytes }

-- "set or clear dirty, set or clear lock"
abbrev pub flagged : Mark → PageCard → PageCard
flagged set_dirty x = record { name = x.name; dirty = true; lock = x.lock; stamp = x.stamp; bytes = x.bytes }
flagged clear_dirty x = record { name = x.name; dirty = false; lock = x.lock; stamp = x.stamp; bytes = x.bytes }
flagged set_lock x = record { name = x.name; dirty = x.dirty; lock = true; stamp = x.stamp; bytes = x.bytes }
flagged clear_lock x = record { name = x.name; dirty = x.dirty; lock = false; stamp = x.stamp; bytes = x.bytes }

pub record Used (n : ℕ) (bs after : List ℕ) (a : Answer) : Type 0 where
  pub accepted : a ≡ told 0 a.value
  pub place : page_at n after ≡ some a.value
  pub ticks : clock_field after ≡ next_clock (clock_field bs)
  pub pages : pages_in after ≡ on_name n (stamped_with (clock_field after)) (pages_in bs)
  -- so right after the call its age is 0
  pub young : (x : PageCard) → Meets x (pages_in after) → x.name ≡ n → Age (clock_field after) x.stamp 0
  -- the clock and the stamp, which is the byte before the data: "the low byte a stamp"
  pub only : OnlyAt clock_at (a.value - 1) bs after
  pub stay : Stay bs after

pub record Marked (n : ℕ) (m : Mark) (bs after : List ℕ) (a : Answer) : Type 0 where
  pub accepted : a ≡ told 0 0
  pub ticks : clock_field after ≡ clock_field bs
  pub pages : pages_in after ≡ on_name n (flagged m) (pages_in bs)
  -- the status word's high byte
  pub only : (v : ℕ) → page_at n bs ≡ some v → OnlyAt (v - (page_header - status_at)) (v - (page_header - status_at)) bs after
  pub stay : Stay bs after

-- "drop, which heeds neither flag"
pub record Dropped (n : ℕ) (bs after : List ℕ) (a : Answer) : Type 0 where
  pub accepted : a ≡ told 0 0
  pub ticks : clock_field after ≡ clock_field bs
  pub pages : pages_in after ≡ leaving n (pages_in bs)
  pub unmoved : Unmoved bs after
  pub stay : Stay bs after

-- ---- every other call

-- the clock is where it was, and so are the pages' names, flags, stamps and data, in old order
pub record Idle (bs after : List ℕ) : Type 0 where
  pub ticks : clock_field after ≡ clock_field bs
  pub pages : pages_in after ≡ pages_in bs

-- ---- sliding

-- the blocks that are not free: pages, relocatable blocks and fixed ones, each with all its bytes
unfoldable pub held_met : List (List ℕ) → List (List ℕ)
held_met [] = []
held_met (b ∷ bs) = cond (is_free b) (held_met bs) (b ∷ held_met bs)

-- the calls that may slide blocks or move L, and change no block that is not free
pub data Slides : Call → Type 0 where
  by_compact : Slides compact
  by_enlarge : {k : ℕ} → Slides (enlarge k)
  by_shrink : {k : ℕ} → Slides (shrink k)

-- ---- the law

pub record PageSays : Type 0 where
  pub created : (n c : ℕ) (bs after : List ℕ) (a : Answer) → n < argument_range → Bytes bs → well_formed bs ≡ true → Promise (on_page n (create_page c)) bs a after → CreateSays n c bs after a
  -- nothing but a create is told 12, and 12's value is the name of the dirty page that the dropping would reach
  pub only_create : (c : Call) (bs after : List ℕ) (a : Answer) → Bytes bs → Promise c bs a after → a.number ≡ 12 → StoppedCreate a.value bs c
  -- and it comes wherever the dropping would reach a dirty page, that of name v, and nothing before 12 refuses
  pub stopped : (n c v : ℕ) (bs after : List ℕ) (a : Answer) → Bytes bs → well_formed bs ≡ true → Promise (on_page n (create_page c)) bs a after
      → Absent n bs → c ≤ page_limit → page_need c ≤ largest_of (emptied_in bs) → Stops (page_need c) v bs → a ≡ told 12 v
  -- and where the dropping comes to its end, and nothing before 12 refuses, it is accepted: it answers and leaves what a create on the bytes that the dropping leaves does
  pub reached : (n c : ℕ) (bs mid after : List ℕ) (a : Answer) → n < argument_range → Bytes bs → well_formed bs ≡ true → Promise (on_page n (create_page c)) bs a after
      → Absent n bs → c ≤ page_limit → page_need c ≤ largest_of (emptied_in bs) → Drops (page_need c) bs mid → (a.number ≡ 0) × Promise (on_page n (create_page c)) mid a after
  pub used : (x : PageCard) (bs after : List ℕ) (a : Answer) → Bytes bs → well_formed bs ≡ true → Meets x (pages_in bs) → Promise (on_page x.name use_page) bs a after → Used x.name bs after a
  pub marked : (x : PageCard) (m : Mark) (bs after : List ℕ) (a : Answer) → Bytes bs → well_formed bs ≡ true → Meets x (pages_in bs) → Promise (on_page x.name (mark_page m)) bs a after → Marked x.name m bs after a
  pub dropped : (x : PageCard) (bs after : List ℕ) (a : Answer) → Bytes bs → well_formed bs ≡ true → Meets x (pages_in bs) → Promise (on_page x.name drop_page) bs a after → Dropped x.name bs after a
  -- "A stretch may give a name": the data are those of the page, and no byte changes
  pub sized : (x : PageCard) (bs : List ℕ) → Bytes bs → well_formed bs ≡ true → Meets x (pages_in bs) → call (size (by_name x.name)) bs ≡ result_of (told 0 (length x.bytes)) bs
  pub shown : (x : PageCard) (i k : ℕ) (second bs : List ℕ) → Bytes bs → well_formed bs ≡ true → Meets x (pages_in bs) → i + k ≤ length x.bytes → k ≤ length second
      → call (read (by_name x.name) i k second) bs ≡ result_of (shows 0 (take k (drop i x.bytes) ++ drop k second)) bs
  -- "A view hands back that part of the zone itself"
  pub viewed : (x : PageCard) (v i k : ℕ) (bs : List ℕ) → Bytes bs → well_formed bs ≡ true → Meets x (pages_in bs) → page_at x.name bs ≡ some v → i + k ≤ length x.bytes
      → (call (view (by_name x.name) i k) bs ≡ result_of (shows 0 (take k (drop i x.bytes))) bs) × (view_start (by_name x.name) i k bs ≡ v + i) × (view_length (by_name x.name) i k bs ≡ k)
  -- a write changes those bytes and no other
  pub written : (x : PageCard) (v i k : ℕ) (second bs after : List ℕ) (a : Answer) → Bytes bs → well_formed bs ≡ true → Meets x (pages_in bs) → page_at x.name bs ≡ some v
      → i + k ≤ length x.bytes → k ≤ length second → Promise (write (by_name x.name) i k second) bs a after → (a ≡ shows 0 second) × (after ≡ overwrite bs (v + i) (take k second))
  -- "8: offset + count, unwrapped, above data size", "10: second buffer too short", as of any stretch
  pub refused_past_end : (x : PageCard) (i k : ℕ) (second bs : List ℕ) → Bytes bs → well_formed bs ≡ true → Meets x (pages_in bs) → length x.bytes < i + k
      → (call (read (by_name x.name) i k second) bs ≡ result_of (shows 8 second) bs) × (call (write (by_name x.name) i k second) bs ≡ result_of (shows 8 second) bs)
      × (call (view (by_name x.name) i k) bs ≡ result_of (shows 0 []) bs) × (view_length (by_name x.name) i k bs ≡ 0)
  pub refused_too_short : (x : PageCard) (i k : ℕ) (second bs : List ℕ) → Bytes bs → well_formed bs ≡ true → Meets x (pages_in bs) → i + k ≤ length x.bytes → length second < k
      → (call (read (by_name x.name) i k second) bs ≡ result_of (shows 10 second) bs) × (call (write (by_name x.name) i k second) bs ≡ result_of (shows 10 second) bs)
  -- "13: name absent": of each of them, and of a stretch, but "A view .. carries no number"
  pub use_missing : (n : ℕ) (bs : List ℕ) → Bytes bs → well_formed bs ≡ true → Absent n bs → call (on_page n use_page) bs ≡ result_of (told 13 0) bs
  pub mark_missing : (n : ℕ) (m : Mark) (bs : List ℕ) → Bytes bs → well_formed bs ≡ true → Absent n bs → call (on_page n (mark_page m)) bs ≡ result_of (told 13 0) bs
  pub drop_missing : (n : ℕ) (bs : List ℕ) → Bytes bs → well_formed bs ≡ true → Absent n bs → call (on_page n drop_page) bs ≡ result_of (told 13 0) bs
  pub size_missing : (n : ℕ) (bs : List ℕ) → Bytes bs → well_formed bs ≡ true → Absent n bs → call (size (by_name n)) bs ≡ result_of (told 13 0) bs
  pub read_missing : (n i k : ℕ) (second bs : List ℕ) → Bytes bs → well_formed bs ≡ true → Absent n bs → call (read (by_name n) i k second) bs ≡ result_of (shows 13 second) bs
  pub write_missing : (n i k : ℕ) (second bs : List ℕ) → Bytes bs → well_formed bs ≡ true → Absent n bs → call (write (by_name n) i k second) bs ≡ result_of (shows 13 second) bs
  pub view_missing : (n i k : ℕ) (bs : List ℕ) → Bytes bs → well_formed bs ≡ true → Absent n bs → (call (view (by_name n) i k) bs ≡ result_of (shows 0 []) bs) × (view_length (by_name n) i k bs ≡ 0)
  -- "1: zone not well-formed"
  pub broken : (n : ℕ) (p : PageCall) (bs : List ℕ) → well_formed bs ≡ false → call (on_page n p) bs ≡ result_of (told 1 0) bs
  -- of the calls that are not on a page none drops a page and none steps the clock; but for a write by name none changes one
  pub idle : (c : Call) (bs after : List ℕ) (a : Answer) → Bytes bs → well_formed bs ≡ true → Given (beside c) → Promise c bs a after → ((n : ℕ) (p : PageCall) → c ≡ on_page n p → ⊥)
      → ((n i k : ℕ) (second : List ℕ) → c ≡ write (by_name n) i k second → ⊥) → Idle bs after
  -- of "Named blocks slide as relocatable ones do": compact, enlarge and shrink leave all blocks but free ones as they were, byte for byte and in old order (where they go say
  -- `FreeAtTheEnd` and `TakesTheEnd` in `Choice`, crate bay)
  pub slid : (c : Call) (bs after : List ℕ) (a : Answer) → Bytes bs → well_formed bs ≡ true → Slides c → Promise c bs a after → held_met (blocks_in after) ≡ held_met (blocks_in bs)
