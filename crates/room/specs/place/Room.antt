-- Room for a new block: in one bay, and in the lowest bay whose sum reaches its size; the site is that room by offsets.
use Rattle.std.specs.Prelude.{◌≡◌, Bool, true, false, cond, List, ◌∷◌, ◌++◌, ℕ, ◌+◌, ◌-◌, ◌≤◌, leb}
use Rattle.structure.specs.Structure.{Block, cell, Structure, sizes, start, decode_zone}
use Rattle.kinds.specs.Kinds.{Item, item_size, header_of}
use Rattle.calls.specs.Bays.{Bays, last, more}
use Rattle.calls.specs.State.{Fixed, fsize}
use Rattle.bay.specs.Bay.{Cell, free, held, bay_size, bay_sum, compact_bay, Hole, fill, put}
use Rattle.bays.specs.Places.{bays_of}
use Rattle.bays.specs.Read.{BayBetween}
use Rattle.bays.specs.Slot.{Slot, plug, blocks_before, Under}
use Rattle.room.specs.place.Hole.{HoleN, hole_for}

-- the bay begins at a, and e goes to the low end of the free block of n bytes at `at`, which is there after compacting where tidy says so
pub record Room (e : Item) (bay : List Cell) (a at n : ℕ) (tidy : Bool) : Type 0 where
  pub hole : Hole
  pub is : cond tidy (compact_bay bay) bay ≡ hole.before ++ (free hole.size ∷ hole.after)
  pub fits : item_size e ≤ hole.size
  pub filled : put e bay ≡ fill e hole
  pub place : at ≡ a + bay_size hole.before
  pub size : n ≡ hole.size

-- ---- as a search answers it

-- the bay by its start and its end, and the free block in it
pub record SiteN : Type 0 where
  pub found : Bool
  pub start : ℕ
  pub end : ℕ
  pub at : ℕ
  pub size : ℕ
  pub tidy : Bool

abbrev pub site_n : Bool → ℕ → ℕ → ℕ → ℕ → Bool → SiteN
site_n f a e at n t = record { found = f; start = a; end = e; at = at; size = n; tidy = t }

abbrev pub no_site : SiteN
no_site = site_n false 0 0 0 0 false

-- in the bay from a to e: the free block that is chosen, or else the one that compacting leaves
abbrev pub site_by : ℕ → ℕ → ℕ → HoleN → SiteN
site_by a e sum w = cond w.found (site_n true a e w.at w.size false) (site_n true a e (e - sum) sum true)

-- the same of the bay b, which begins at p
abbrev pub site_at : ℕ → ℕ → List Cell → SiteN
site_at need p b = site_by p (p + bay_size b) (bay_sum b) (hole_for need p b)

-- in the lowest bay whose sum reaches need, the first bay beginning at p
abbrev pub low_site : ℕ → ℕ → Bays (List Cell) Fixed → SiteN
low_site need p (last b) = cond (leb need (bay_sum b)) (site_at need p b) no_site
low_site need p (more b x s) = cond (leb need (bay_sum b)) (site_at need p b) (low_site need (x.place + fsize x) s)

-- what the walk over one bay tells: its end, its sum, and the free block that is chosen in it for need bytes
pub record ReadFor (z : List ℕ) (p need end sum next : ℕ) (w : HoleN) : Type 0 where
  pub bay : List Cell
  pub between : BayBetween z p end next bay
  pub sum_is : sum ≡ bay_sum bay
  pub is_hole : w ≡ hole_for need p bay

-- ---- in a zone

-- the bay from a to e is the lowest whose sum reaches need, and in it there is room at `at` for any block of need bytes
pub record LowestRoom (z : List ℕ) (need a e at n : ℕ) (tidy : Bool) : Type 0 where
  pub slot : Slot
  pub bay : List Cell
  pub bays : bays_of (decode_zone z) ≡ plug slot bay
  pub under : Under need slot
  pub enough : need ≤ bay_sum bay
  pub start_is : a ≡ start (decode_zone z) + sizes (blocks_before slot)
  pub end_is : e ≡ a + bay_size bay
  pub room : (i : Item) → item_size i ≡ need → Room i bay a at n tidy

-- i stands in the structure s, and its data begin at `place`
pub record Stands (i : Item) (s : Structure) (place : ℕ) : Type 0 where
  pub front : List Block
  pub back : List Block
  pub is : s.blocks ≡ front ++ (cell (held i) ∷ back)
  pub place_is : place ≡ start s + sizes front + header_of i
