-- THE CUSTOMER'S THREE DEMANDS, each as one statement about what the exported functions promise in their contracts (crates/nafelode/src):
-- a function of a ledger's call promises `Promise`, initialize `InitPromise`, census and a walker's step equations to `census` and `walk_step`, a
-- view its place beside. There the numbers that a function returns are read as an answer by `told`, `told_two`, `shows` and `told_with`.
-- That each function returns, whatever it is given, and stays inside what it is lent, is proved with its contract, which requires nothing.
use Rattle.std.specs.Prelude.{◌≡◌, true, false, cond, List, ◌++◌, ℕ, length, drop, replicate}
use Rattle.bigendian.specs.BigEndian.{Bytes, slice}
use Rattle.block_type.specs.Limits.{strata}
use Rattle.format.specs.WellFormed.{well_formed, count_of}
use Rattle.structure.specs.Structure.{encode, decode}
use Rattle.calls.specs.Calls.{Target, Call, check, view, Answer, told, told_two, beside, Given, refused}
use Rattle.calls.specs.Table.{refusal_value, init_refusal}
use Rattle.zone.specs.Work.{facts, work, fresh}
use Rattle.zone.specs.Call.{in_line, zone_in, number_of, replacing}
use Rattle.zone.specs.Census.{counted, census_number, census}
use Rattle.zone.specs.Walker.{Walked, walked, walk_step}
use Rattle.zone.specs.View.{view_start, view_length}
use Rattle.zone.specs.Promise.{Promise, InitPromise}
use Rattle.zone.specs.Claim.{TheList}

-- ---- "1. If a call is given any buffer and any numbers, it returns and stays inside the buffer. It does its work or gives the one
-- refusal that document 01's order picks, with value 0, and a refused call changes no byte of any lent buffer."

-- n is the number that the order picks, 0 for none; r is what a refused call answers: 0 for each value, and lent buffers as they were. (Of a create
-- that is refused with 12 the value "alone among refusals, is that block's name": document 02, U5)
pub record OneRefusal (n : ℕ) (r : Answer) (entry : List ℕ) (a : Answer) (exit : List ℕ) : Type 0 where
  pub done : n ≡ 0 → a.number ≡ 0
  pub refused : (n ≡ 0 → ⊥) → (a ≡ r) × (exit ≡ entry)

pub record Demand1 : Type 0 where
  pub of_calls : (c : Call) (entry : List ℕ) (a : Answer) (exit : List ℕ) → Promise c entry a exit → OneRefusal (number_of c entry) (refused c (number_of c entry) (refusal_value (number_of c entry) c (facts (well_formed entry) (zone_in entry)))) entry a exit
  -- "with value 0", whatever the call, but for 12
  pub value : (c : Call) (entry : List ℕ) (a : Answer) (exit : List ℕ) → Promise c entry a exit → (number_of c entry ≡ 0 → ⊥) → (number_of c entry ≡ 12 → ⊥) → a.value ≡ 0
  pub of_initialize : (n m : ℕ) (entry : List ℕ) (a : Answer) (exit : List ℕ) → InitPromise n m entry a exit → OneRefusal (init_refusal (length entry) n m) (told 2 0) entry a exit
  -- (its zone and the limits that it is lent are read alone: it cannot write to them)
  pub of_census : (zone lent : List ℕ) (n : ℕ) (cs : List ℕ) → counted n cs ≡ census zone lent → (n ≡ census_number zone lent) × ((n ≡ 0 → ⊥) → cs ≡ replicate strata 0)
  pub of_walker : (zone : List ℕ) (at : ℕ) (w : Walked) → w ≡ walk_step zone at → well_formed zone ≡ false → w ≡ walked 1 0 0 0 at

-- ---- "2. Every accepted call answers, and leaves the zone's bytes, exactly as document 01 lays them down from the UnitHz memo. The check
-- says yes exactly when the bytes are a well-formed zone."

-- the work that the definitions lay down, on the zone in the bytes; and a zone stays a zone
pub record Worked (c : Call) (entry : List ℕ) (a : Answer) (exit : List ℕ) : Type 0 where
  pub answer : a ≡ (work c (zone_in entry)).answer
  pub bytes : exit ≡ replacing entry (decode entry) (in_line (work c (zone_in entry)).next)
  pub zone : Bytes entry → Given (beside c) → well_formed exit ≡ true

pub record Demand2 : Type 0 where
  pub of_calls : (c : Call) (entry : List ℕ) (a : Answer) (exit : List ℕ) → Promise c entry a exit → well_formed entry ≡ true → number_of c entry ≡ 0 → Worked c entry a exit
  pub of_initialize : (n m : ℕ) (entry : List ℕ) (a : Answer) (exit : List ℕ) → InitPromise n m entry a exit → a.number ≡ 0
      → (a ≡ told 0 0) × (exit ≡ encode (in_line (fresh (length entry) n m)) ++ drop n entry) × (well_formed exit ≡ true)
  -- yes or no, and the number of relocatable blocks; it changes nothing
  pub of_check : (entry : List ℕ) (a : Answer) (exit : List ℕ) → Bytes entry → Promise check entry a exit
      → (a ≡ told_two 0 (cond (well_formed entry) 1 0) (count_of entry)) × (exit ≡ entry)
  -- what a view shows stands at its place in the zone
  pub of_view : (t : Target) (i n : ℕ) (entry : List ℕ) (a : Answer) (exit : List ℕ) → Bytes entry → Promise (view t i n) entry a exit
      → slice entry (view_start t i n entry) (view_length t i n entry) ≡ a.bytes

-- ---- "3. The sum of free bytes between fixed blocks decides, and their scatter never does. .. Then every answer is that of document 01's
-- ledger: refusals, handles, fixed pointers, sizes, counts and bytes read. After the list every live block's bytes in the zone are the
-- ledger's. Where nothing earlier in the order refuses an allocation or a resize, it gets "no space" exactly when no bay's sum reaches what
-- the ledger needs of that bay, whatever the list compacted before. No fixed block moves until it is freed."

abbrev pub Demand3 : Type 0
Demand3 = TheList
