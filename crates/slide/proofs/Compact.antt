-- What compaction keeps of a bay: sound cells, their size, and masters that lie low.
use mathlib.Core.Path.{◌∙◌}
use mathlib.Core.List.{List, [], ◌∷◌}
use Prim.Native.Nat.{ℕ, zero, suc, ◌≤◌}
use native.Mathlib.Omega.{arith}
use Rattle.block_type.specs.Limits.{master_size, longest_zone}
use Rattle.bay.specs.Bay.{Cell, free, held, bay_sum, items, gap, packed, compact_bay}
use Rattle.bay.proofs.Laws.{tidy-size}
use Rattle.bay.proofs.SoundLaws.{compact-sound}
use Rattle.slide.specs.ZoneBay.{Low}
use Rattle.slide.proofs.Change.{Kept}

pub gap-low : (lim n : ℕ) (cs : List Cell) → master_size ≤ lim → Low lim cs → Low lim (gap n cs)
gap-low lim zero cs l x = x
gap-low lim (suc n) [] l x = (l, tt)
gap-low lim (suc n) (free k ∷ cs) l x = (l, x.1)
gap-low lim (suc n) (held e ∷ cs) l x = (l, x)

pub packed-low : (lim : ℕ) (cs t : List Cell) → Low lim cs → Low lim t → Low lim (packed (items cs) t)
packed-low lim [] t x u = u
packed-low lim (free n ∷ cs) t x u = packed-low lim cs t x.1 u
packed-low lim (held e ∷ cs) t x u = (x.0, packed-low lim cs t x.1 u)

pub compact-keeps : (a n : ℕ) (cs : List Cell) → n ≤ longest_zone → Kept a n cs → Kept a n (compact_bay cs)
compact-keeps a n cs l k = record {
  sound = compact-sound cs (omega (arith, k.size)) k.sound;
  size = tidy-size cs ∙ k.size;
  low = packed-low a cs (gap (bay_sum cs) []) k.low (rest cs k.low);
}
  where
    rest : (ds : List Cell) → Low a ds → Low a (gap (bay_sum ds) [])
    rest [] x = tt
    rest (c ∷ ds) x = gap-low a (bay_sum (c ∷ ds)) [] (omega (arith, x.0)) tt
