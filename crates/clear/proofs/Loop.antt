-- The laws that the walk's proof cites.
use mathlib.Core.Path.{◌≡◌, refl, sym, ◌∙◌}
use mathlib.Core.Bool.{Bool, true, false, true≢false}
use mathlib.Core.List.{List, []}
use Prim.Native.Nat.{ℕ, ◌+◌, ◌-◌}
use mir.Val.{Fits}
use mir.Syntax.{w8}
use lib.ListN.{get_or}
use Rattle.bigendian.specs.BigEndian.{overwrite}
use Rattle.kinds.specs.Kinds.{Item, Key, of_handle, of_name, key_masters, masters_of}
use Rattle.bay.specs.Bay.{free, held}
use Rattle.structure.specs.Structure.{Block, cell, fixed, Structure, encode_block}
use Rattle.access.specs.row.Row.{block_at, Stepped}
use Rattle.access.proofs.Checked.{bytes_of}
use Rattle.slide.specs.blank.Between.{Between}
use Rattle.free_block.specs.Walk.{Extended}
use Rattle.turn.specs.Rank.{key_below, goes, goes_b}
use Rattle.clear.proofs.Going.{Under, Going, under-way, under}
use Rattle.clear.proofs.Turn.{over-free, over-used, goes-between, over-gone}

-- what goes is a page, and a page has no master
key-plain : (clock t : ℕ) (k : Key) → key_below clock t k ≡ true → key_masters k ≡ []
key-plain clock t (of_handle h) q = absurd (true≢false (sym q))
key-plain clock t (of_name n s) q = refl

gone-page : (clock t : ℕ) (c : Block) → goes_b clock t c ≡ true → (e : Item) × (c ≡ cell (held e)) × (goes clock t e ≡ true) × (masters_of e ≡ [])
gone-page clock t (cell (free n)) q = absurd (true≢false (sym q))
gone-page clock t (cell (held e)) q = (e, refl, q, key-plain clock t e.key q)
gone-page clock t (fixed d) q = absurd (true≢false (sym q))

module _ (clock t : ℕ) (s₀ : Structure) (z : List ℕ) (prev at : ℕ) (g : Going clock t s₀ z prev at) (n : ℕ) (x : Stepped z at n) (f : Bool) (ef : f ≡ goes_b clock t (block_at z at)) where
  pub going-stays : f ≡ false → Going clock t s₀ z at (at + n)
  going-stays q = under-way (go (block_at z at) refl (sym ef ∙ q))
    where
      go : (c : Block) → block_at z at ≡ c → goes_b clock t c ≡ false → Under (goes clock t) s₀ z at (at + n)
      go (cell (free m)) e q = over-free (under g) n x m e
      go (cell (held d)) e q = over-used (under g) n x (cell (held d)) e refl refl (q, tt)
      go (fixed d) e q = over-used (under g) n x (fixed d) e refl refl tt

  module _ (q : f ≡ true) (from to : ℕ) (y : Extended z prev at (at + n) from to) where
    page : (e : Item) × (block_at z at ≡ cell (held e)) × (goes clock t e ≡ true) × (masters_of e ≡ [])
    page = gone-page clock t (block_at z at) (sym ef ∙ q)

    pub going-between : Between z from at (at + n) to
    going-between = goes-between (under g) n x page.0 page.1 page.2 page.3 from to y

    pub going-drops : (z' : List ℕ) → z' ≡ overwrite z from (encode_block (cell (free (to - from)))) → ((i : ℕ) → Fits w8 (get_or z' i 0)) → Going clock t s₀ z' from to
    going-drops z' w b = under-way (over-gone (under g) n x page.0 page.1 page.2 page.3 from to y z' w (bytes_of z' b))
