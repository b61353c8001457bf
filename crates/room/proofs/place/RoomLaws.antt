-- The free block that is chosen is room for the new block; where none is chosen, the bay's end is, after compacting.
use mathlib.Core.Path.{◌≡◌, refl, sym, ap, ◌∙◌, subst}
use mathlib.Core.Bool.{Bool}
use mathlib.Core.Option.{Option, none, some, get_or}
use mathlib.Core.List.{List, [], ◌∷◌, map, ◌++◌}
use Prim.Native.Nat.{ℕ, ◌+◌, ◌-◌, ◌≤◌}
use native.Mathlib.Omega.{arith}
use Rattle.kinds.specs.Kinds.{Item, item_size}
use Rattle.kinds.proofs.KindLaws.{facts}
use Rattle.calls.specs.Bays.{over}
use Rattle.calls.specs.State.{total}
use Rattle.bay.specs.Bay.{Cell, held, bay_size, bay_sum, items, gap, packed, Hole, holes, choose, fill, put}
use Rattle.bay.proofs.Choice.{packed-is}
use Rattle.bay.proofs.Each.{Each, just}
use Rattle.bay.proofs.Holes.{Part, holes-are, choose-all}
use Rattle.bay.proofs.Laws.{bsize-split, gap-one}
use Rattle.room.specs.place.Hole.{hole_at}
use Rattle.room.specs.place.Room.{Room, SiteN, site_n, site_by, site_at}

held-sizes : (es : List Item) → bay_size (map held es) ≡ total es
held-sizes [] = refl
held-sizes (e ∷ es) = omega (arith, held-sizes es)

pub room-is : (i : Item) (bay : List Cell) (need a e at n : ℕ) (g t : Bool) → item_size i ≡ need → need ≤ bay_sum bay → site_n g a e at n t ≡ site_at need a bay → Room i bay a at n t
room-is i bay need a e at n g t en l q =
    go (choose (item_size i) (holes bay)) (choose-all (item_size i) (holes-are bay)) refl (q ∙ ap (λ (k : ℕ). site_at k a bay) (sym en))
  where
    go : (o : Option Hole) → Each (λ (x : Hole). Part bay x × (item_size i ≤ x.size)) o → put i bay ≡ get_or (over (fill i) o) (packed (items bay) (held i ∷ gap (bay_sum bay - item_size i) []))
        → site_n g a e at n t ≡ site_by a (a + bay_size bay) (bay_sum bay) (hole_at a o) → Room i bay a at n t
    go (some x) (just w) p y =
        subst (Room i bay a at n) (sym (ap (λ (r : SiteN). r.tidy) y))
        (record { hole = x; is = w.0; fits = w.1; filled = p; place = ap (λ (r : SiteN). r.at) y; size = ap (λ (r : SiteN). r.size) y })
    go none w p y =
        subst (Room i bay a at n) (sym (ap (λ (r : SiteN). r.tidy) y))
        (record {
          hole = record { before = map held (items bay); size = bay_sum bay; after = [] };
          is = packed-is (items bay) (gap (bay_sum bay) []) ∙ ap (map held (items bay) ++◌) (gap-one (bay_sum bay) (omega (arith, (facts i).low)));
          fits = omega arith;
          filled = p ∙ packed-is (items bay) (held i ∷ gap (bay_sum bay - item_size i) []);
          place = omega (arith, ap (λ (r : SiteN). r.at) y, bsize-split bay, held-sizes (items bay));
          size = ap (λ (r : SiteN). r.size) y;
        })
