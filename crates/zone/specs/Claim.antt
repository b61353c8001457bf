-- Demand 3: THE CLAIM about every list of calls. Calls that keep their promises, one after the other on one buffer, answer as the
-- ledger does, and the zone holds what the ledger holds.
use Rattle.std.specs.Prelude.{◌≡◌, Bool, true, cond, ◌&&◌, List, [], ◌∷◌, ℕ, ◌+◌, ◌-◌, ◌%◌, length, drop, eqb, leb}
use Rattle.std.proofs.Math.Option.{Option, none, some}
use Rattle.bigendian.specs.BigEndian.{slice}
use Rattle.block_type.specs.Limits.{free_code, fixed_code, fixed_header, reloc_code, reloc_header, page_code, page_header, dirty_bit, lock_bit, stamp_range}
use Rattle.format.specs.WellFormed.{length_field, first_field, clock_field, type_of, size_of, handle_of, name_of, status_of, split_blocks, master_at, zone_of, well_formed}
use Rattle.calls.specs.Calls.{PageCall, create_page, use_page, mark_page, drop_page, Call, on_page, Answer, Beside, alone, lends, part, of_page, beside, Given}
use Rattle.calls.specs.Roster.{Card}
use Rattle.calls.specs.Sort.{flat, sort_by}
use Rattle.calls.specs.Bays.{find_s, find_f, concat_s}
use Rattle.kinds.specs.Kinds.{Item, is, Key, of_handle, of_name}
use Rattle.calls.specs.State.{get, Fixed, pointer}
use Rattle.ledger.specs.Ledger.{Ledger, Bay, sorted_by_handle, cards, run, ledger_after, initial}
use Rattle.ledger.specs.Still.{Has, NotFreed}
use Rattle.ledger.specs.Space.{Spot, spot, fixed_spots, bay_sums, Request, call_of, bays_for, earlier, later, fits}
use Rattle.zone.specs.Promise.{Promise, InitPromise}

-- ---- the list

-- calls made one after the other, "where each gets the zone as the last one left it and nobody else writes to it": from a buffer, the
-- calls, their answers, and the buffer at the end
pub data History : List ℕ → List Call → List Answer → List ℕ → Type 0 where
  stop : {bs : List ℕ} → History bs [] [] bs
  then : {bs mid end : List ℕ} {c : Call} {cs : List Call} {a : Answer} {as' : List Answer}
      → Given (beside c) → Promise c bs a mid → History mid cs as' end → History bs (c ∷ cs) (a ∷ as') end

-- ---- the answers

-- "a data offset from create or use is valid until the next call and isn't compared" (document 02, U5): what is compared of an answer
abbrev pub unplaced : Answer → Answer
unplaced a = record { number = a.number; value = cond (eqb a.number 0) 0 a.value; second = a.second; bytes = a.bytes }

abbrev pub compared_page : PageCall → Answer → Answer
compared_page (create_page c) a = unplaced a
compared_page use_page a = unplaced a
compared_page (mark_page m) a = a
compared_page drop_page a = a

abbrev pub compared_beside : Beside → Answer → Answer
compared_beside alone a = a
compared_beside (lends second) a = a
compared_beside part a = a
compared_beside (of_page n p) a = compared_page p a

abbrev pub compared : Call → Answer → Answer
compared c a = compared_beside (beside c) a

abbrev pub all_compared : List Call → List Answer → List Answer
all_compared [] u = u
all_compared (c ∷ cs) [] = []
all_compared (c ∷ cs) (a ∷ u) = compared c a ∷ all_compared cs u

-- no answer has the refusal number n
pub data Never (n : ℕ) : List Answer → Type 0 where
  never_nil : Never n []
  never_cons : {a : Answer} {u : List Answer} → (a.number ≡ n → ⊥) → Never n u → Never n (a ∷ u)

-- ---- the zone

-- the fixed blocks that a walk through the bytes meets, the first block being at offset `at`
unfoldable pub fixed_met : ℕ → List (List ℕ) → List Spot
fixed_met at [] = []
fixed_met at (b ∷ bs) =
    cond (eqb (type_of b) fixed_code) (spot at (size_of b) ∷ fixed_met (at + size_of b) bs) (fixed_met (at + size_of b) bs)

-- the relocatable blocks that it meets, each by its handle and its data size
unfoldable pub reloc_met : List (List ℕ) → List Card
reloc_met [] = []
reloc_met (b ∷ bs) =
    cond (eqb (type_of b) reloc_code) (record { handle = handle_of b; amount = size_of b - reloc_header } ∷ reloc_met bs) (reloc_met bs)

-- the pages that it meets, each by its name, its flags and stamp ("In the status word the top bit is dirty, the next is lock, the low byte a stamp")
-- and its data ("from byte 8 of the block with its name")
pub record PageCard : Type 0 where
  pub name : ℕ
  pub dirty : Bool
  pub lock : Bool
  pub stamp : ℕ
  pub bytes : List ℕ

abbrev pub card_in : List ℕ → PageCard
card_in b = record { name = name_of b; dirty = leb dirty_bit (status_of b); lock = leb lock_bit (status_of b % dirty_bit); stamp = status_of b % stamp_range; bytes = drop page_header b }

unfoldable pub pages_met : List (List ℕ) → List PageCard
pages_met [] = []
pages_met (b ∷ bs) =
    cond (eqb (type_of b) page_code) (card_in b ∷ pages_met bs) (pages_met bs)

-- where the data of the page of name n lie, the first block being at offset `at`
unfoldable pub page_met_at : ℕ → ℕ → List (List ℕ) → Option ℕ
page_met_at n at [] = none
page_met_at n at (b ∷ bs) =
    cond (eqb (type_of b) page_code && eqb n (name_of b)) (some (at + page_header)) (page_met_at n (at + size_of b) bs)

-- by rising name
abbrev pub sorted_by_name : List PageCard → List PageCard
sorted_by_name xs = sort_by (λ (x y : PageCard). leb x.name y.name) xs

-- the ledger's pages
abbrev pub key_card : Key → List ℕ → List PageCard
key_card (of_handle h) d = []
key_card (of_name n s) d = record { name = n; dirty = s.dirty; lock = s.lock; stamp = s.stamp; bytes = d } ∷ []

abbrev pub page_cards : List Item → List PageCard
page_cards es = flat (λ (e : Item). key_card e.key e.bytes) es

-- the free bytes that it meets between fixed blocks, bay after bay; n of this bay have been met
unfoldable pub free_met : ℕ → List (List ℕ) → List ℕ
free_met n [] = n ∷ []
free_met n (b ∷ bs) =
    cond (eqb (type_of b) fixed_code) (n ∷ free_met 0 bs) (free_met (n + cond (eqb (type_of b) free_code) (size_of b) 0) bs)

-- from bkFst to L
abbrev pub blocks_in : List ℕ → List (List ℕ)
blocks_in bs = split_blocks (drop (first_field bs) (zone_of bs))

abbrev pub fixed_in : List ℕ → List Spot
fixed_in bs = fixed_met (first_field bs) (blocks_in bs)

abbrev pub reloc_in : List ℕ → List Card
reloc_in bs = reloc_met (blocks_in bs)

abbrev pub pages_in : List ℕ → List PageCard
pages_in bs = pages_met (blocks_in bs)

abbrev pub page_at : ℕ → List ℕ → Option ℕ
page_at n bs = page_met_at n (first_field bs) (blocks_in bs)

abbrev pub free_in : List ℕ → List ℕ
free_in bs = free_met 0 (blocks_in bs)

-- where something is found, P holds of it
pub data Where {A : Type 0} (P : A → Type 0) : Option A → Type 0 where
  nowhere : Where P none
  here : {a : A} → P a → Where P (some a)

-- what the ledger holds stands in the buffer, and no other block
pub record Stands (bs : List ℕ) (l : Ledger) : Type 0 where
  -- "each live handle's from the offset in its master"
  pub live : (h : ℕ) → Where (λ (e : Item). slice bs (master_at bs h) (length e.bytes) ≡ e.bytes) (find_s (λ (b : Bay). get (is h) b.entries) l.bays)
  -- a walk meets the ledger's live handles with their data sizes, each once, and no other relocatable block (both by rising handle)
  pub blocks : sorted_by_handle (reloc_in bs) ≡ cards l
  -- "each named block's ledger bytes stand in the zone from byte 8 of the block with its name": a walk meets the ledger's names, each once, with their
  -- flags, stamps and bytes, and no other page (both by rising name); the clock is the ledger's
  pub pages : sorted_by_name (pages_in bs) ≡ sorted_by_name (page_cards (concat_s (λ (b : Bay). b.entries) l.bays))
  pub clock : clock_field bs ≡ l.clock
  -- "each fixed block's from its pointer"
  pub still : (p : ℕ) → Where (λ (x : Fixed). slice bs p (length x.bytes) ≡ x.bytes) (find_f (λ (x : Fixed). eqb p (pointer x)) l.bays)
  -- it meets a fixed block of the ledger's size at each place where the ledger has one, and no other fixed block
  pub places : fixed_in bs ≡ fixed_spots l.bays
  -- and between them the free bytes that the ledger counts, bay by bay: what its sums say is there
  pub sums : free_in bs ≡ bay_sums l.bays
  -- "The new converter chip refuses pointers that aren't multiples of 4" (document 02, U6): the data of no fixed block begin elsewhere
  pub lines : (x : Spot) → Has x (fixed_in bs) → (x.place + fixed_header) % 4 ≡ 0
  pub long : length_field bs ≡ l.len
  pub buffer : length bs ≡ l.buf
  pub well : well_formed bs ≡ true

-- ---- the claim

-- the two calls that answer a data offset
pub data AnswersPlace : PageCall → Type 0 where
  by_create : {c : ℕ} → AnswersPlace (create_page c)
  by_use : AnswersPlace use_page

-- of a buffer of length buf, initialized with (n, m) to b₀: for every list p of calls from there, with its answers u, to the buffer mid
pub record Claim (buf n m : ℕ) (b₀ : List ℕ) : Type 0 where
  -- "every answer is that of document 01's ledger"; "The ledger's comparison of rosters becomes one of lists, byte by byte" (document 02, U1)
  pub answers : (p : List Call) (u : List Answer) (mid : List ℕ) → History b₀ p u mid → all_compared p u ≡ run p (initial buf n m)
  -- "1 never comes"
  pub never_1 : (p : List Call) (u : List Answer) (mid : List ℕ) → History b₀ p u mid → Never 1 u
  -- "After the list the ledger's bytes stand in the zone"
  pub stands : (p : List Call) (u : List Answer) (mid : List ℕ) → History b₀ p u mid → Stands mid (ledger_after p (initial buf n m))
  -- "No fixed block moves until it is freed": what a walk meets after the calls p, it meets at the same place and of the same size
  -- after further calls q, unless one of those frees it
  pub unmoved : (p q : List Call) (u v : List Answer) (mid end : List ℕ) → History b₀ p u mid → History mid q v end
      → (x : Spot) → NotFreed x q → Has x (fixed_in mid) → Has x (fixed_in end)
  -- "Where nothing earlier in the order refuses an allocation or a resize, it gets "no space" exactly when no bay's sum reaches what
  -- the ledger needs of that bay" (of a relocatable allocation that finds the chain empty, by the sums after the 32 bytes are taken:
  -- document 02, U3; "demand 3's "no space" is read so for a create": by the sums once all unlocked pages are dropped, U5)
  pub space : (p : List Call) (u : List Answer) (mid next : List ℕ) (r : Request) (a : Answer) → History b₀ p u mid → Given (beside (call_of r)) → Promise (call_of r) mid a next
      → earlier r (ledger_after p (initial buf n m)) ≡ 0 → a.number ≡ cond (fits r (bays_for r (ledger_after p (initial buf n m)))) (later r (ledger_after p (initial buf n m))) 5
  -- "right after the call it is the data offset of the block with that name in the zone" (document 02, U5)
  pub offset : (p : List Call) (u : List Answer) (mid next : List ℕ) (k : ℕ) (c : PageCall) (a : Answer) → History b₀ p u mid → Given (beside (on_page k c)) → Promise (on_page k c) mid a next
      → AnswersPlace c → a.number ≡ 0 → page_at k next ≡ some a.value

-- Of any buffer, any accepted initialization and any list of calls that keep their promises.
abbrev pub TheList : Type 0
TheList = (bs b₀ : List ℕ) (n m : ℕ) (a : Answer) → InitPromise n m bs a b₀ → a.number ≡ 0 → Claim (length bs) n m b₀
