-- Laws of one bay, said of blocks in their places: which hole is chosen and taken, when a block grows where it stands, and when a bay is
-- compacted. (They are theorems about the definitions of `Bay`: nobody has to believe them.)
use Rattle.std.specs.Prelude.{◌≡◌, true, List, [], ◌∷◌, ◌++◌, map, ℕ, suc, ◌+◌, ◌-◌, ◌≤◌, ◌<◌, length}
use Rattle.std.proofs.Math.Option.{Option, none, some}
use Rattle.kinds.specs.Kinds.{Item, is, item_size}
use Rattle.calls.specs.State.{get}
use Rattle.bay.specs.Bay.{Cell, free, held, bay_sum, items, gap, compact_bay, Hole, holes, choose, put, take_high, resized, reshape}

-- P holds of every free block's size
pub data EachFree (P : ℕ → Type 0) : List Cell → Type 0 where
  no_cell : EachFree P []
  a_hole : {k : ℕ} {cs : List Cell} → P k → EachFree P cs → EachFree P (free k ∷ cs)
  a_block : {e : Item} {cs : List Cell} → EachFree P cs → EachFree P (held e ∷ cs)

-- every free block is smaller than n
abbrev pub Smaller : ℕ → List Cell → Type 0
Smaller n cs = EachFree (λ (k : ℕ). k < n) cs

-- movable blocks one after the other, and one free block at the end (none for 0)
abbrev pub in_order : List Item → ℕ → List Cell
in_order es n = map held es ++ gap n []

-- x is the smallest free block of the bay cs that has at least n bytes, the lowest of equals (document 02, U2)
pub record Tightest (n : ℕ) (cs : List Cell) (x : Hole) : Type 0 where
  pub of_the_bay : cs ≡ x.before ++ (free x.size ∷ x.after)
  pub enough : n ≤ x.size
  pub none_smaller : EachFree (λ (k : ℕ). n ≤ k → x.size ≤ k) cs
  pub none_lower : EachFree (λ (k : ℕ). n ≤ k → x.size < k) x.before

-- what is chosen for n bytes: a free block that is so, and none where each is smaller
pub data IsChoice (n : ℕ) (cs : List Cell) : Option Hole → Type 0 where
  some_fits : {x : Hole} → Tightest n cs x → IsChoice n cs (some x)
  none_fits : Smaller n cs → IsChoice n cs none

-- n free bytes before the cells cs: nothing for 0, else a free block, merged with one that follows; all other blocks stay
pub record FreeBefore : Type 0 where
  pub none_left : (cs : List Cell) → gap 0 cs ≡ cs
  pub last_block : (n : ℕ) → gap (suc n) [] ≡ free (suc n) ∷ []
  pub before_block : (n : ℕ) (e : Item) (cs : List Cell) → gap (suc n) (held e ∷ cs) ≡ free (suc n) ∷ (held e ∷ cs)
  pub merged : (n k : ℕ) (cs : List Cell) → gap (suc n) (free k ∷ cs) ≡ free (suc n + k) ∷ cs

-- "takes the smallest free block that is big enough, the lowest of equals" (document 02, U2), "from its low end; if none is, the bay is compacted
-- first": there is no other choice, and every other block stays where it is, unless no free block is big enough
pub record WhichHole : Type 0 where
  pub chosen : (n : ℕ) (cs : List Cell) → IsChoice n cs (choose n (holes cs))
  pub no_other : (n : ℕ) (cs : List Cell) (x : Hole) → Tightest n cs x → choose n (holes cs) ≡ some x
  pub tightest : (e : Item) (cs : List Cell) (x : Hole) → Tightest (item_size e) cs x → put e cs ≡ x.before ++ (held e ∷ gap (x.size - item_size e) x.after)
  pub compacted : (e : Item) (cs : List Cell) → Smaller (item_size e) cs → put e cs ≡ map held (items cs) ++ (held e ∷ gap (bay_sum cs - item_size e) [])

-- no free block of at least n bytes stands in front
pub data NoRoom (n : ℕ) : List Cell → Type 0 where
  at_the_end : NoRoom n []
  at_block : {e : Item} {cs : List Cell} → NoRoom n (held e ∷ cs)
  at_hole : {k : ℕ} {cs : List Cell} → k < n → NoRoom n (free k ∷ cs)

-- "For a ≤ b the tail is freed and merged. Else .. into the free block right after it if that has at least a − b bytes": no other block moves; "or,
-- failing that, the bay is laid out as compacted with this block at its new size"
pub record GrowsInPlace : Type 0 where
  pub smaller : (h : ℕ) (e : Item) (a : ℕ) (before after : List Cell) → is h e ≡ true → get (is h) (items before) ≡ none → a ≤ length e.bytes
      → reshape h a (before ++ (held e ∷ after)) ≡ before ++ (held (resized a e) ∷ gap (length e.bytes - a) after)
  pub larger : (h : ℕ) (e : Item) (a k : ℕ) (before after : List Cell) → is h e ≡ true → get (is h) (items before) ≡ none → length e.bytes < a → a - length e.bytes ≤ k
      → reshape h a (before ++ (held e ∷ (free k ∷ after))) ≡ before ++ (held (resized a e) ∷ gap (k - (a - length e.bytes)) after)
  pub laid_out : (h : ℕ) (e : Item) (a : ℕ) (before after : List Cell) → is h e ≡ true → get (is h) (items before) ≡ none → get (is h) (items after) ≡ none → length e.bytes < a
      → NoRoom (a - length e.bytes) after → reshape h a (before ++ (held e ∷ after)) ≡ in_order (items before ++ (resized a e ∷ items after)) (bay_sum before + bay_sum after - (a - length e.bytes))

-- "If its last block is free and big enough, the high end of that; else after compacting": a bay whose last block is free and big enough is
-- not compacted, and every other one is
pub record TakesTheEnd : Type 0 where
  pub high_end_lem : (n k : ℕ) (before : List Cell) → n ≤ k → take_high n (before ++ (free k ∷ [])) ≡ before ++ gap (k - n) []
  pub too_small : (n k : ℕ) (before : List Cell) → k < n → take_high n (before ++ (free k ∷ [])) ≡ in_order (items before) (bay_sum before + k - n)
  pub not_free : (n : ℕ) (before : List Cell) (e : Item) → take_high n (before ++ (held e ∷ [])) ≡ in_order (items before ++ (e ∷ [])) (bay_sum before - n)

-- "its relocatable blocks go to its start in old order, one free block holds the rest (none for 0)"
abbrev pub FreeAtTheEnd : Type 0
FreeAtTheEnd = (cs : List Cell) → compact_bay cs ≡ in_order (items cs) (bay_sum cs)
