-- A new block is found in the bay in which it has been put.
use mathlib.Core.Path.{◌≡◌, ap, ◌∙◌}
use mathlib.Core.Bool.{Bool, true}
use mathlib.Core.Option.{Option, some}
use mathlib.Core.List.{List, ◌∷◌}
use Prim.Native.Nat.{suc, ◌≤◌}
use native.Mathlib.Omega.{arith}
use lib.Dec.{leb}
use borrow.Author.Tests.{leb-true}
use Rattle.calls.specs.Bays.{Bays, last, more, or_else}
use Rattle.kinds.specs.Kinds.{Item, item_size}
use Rattle.calls.specs.State.{get, Fixed}
use Rattle.calls.proofs.Counted.{get_none}
use Rattle.bay.specs.Bay.{Cell, items, bay_sum, put}
use Rattle.bay.specs.Counted.{count}
use Rattle.bay.proofs.Each.{Each, nothing, just, each_over, each-cond}
use Rattle.bay.proofs.Perm.{perm-count, perm-get}
use Rattle.bay.proofs.Holes.{put_keeps}
use Rattle.zone.specs.Search.{place_low}
use Rattle.zone.proofs.HowMany.{many}
use Rattle.zone.proofs.Once.{block_by}

module _ (ok : Item → Bool) (i : Item) (its : ok i ≡ true) where
  put-found : (b : List Cell) → count ok (items b) ≡ 0 → item_size i ≤ bay_sum b → get ok (items (put i b)) ≡ some i
  put-found b e l =
      let p = (put_keeps i b l).perm in
      let k : count ok (i ∷ items b) ≡ suc (count ok (items b)) = rw its in
      perm-get ok p (omega (arith, perm-count ok p, k)) ∙ (rw its)

  pub low-found : (s : Bays (List Cell) Fixed) → many ok s ≡ 0 → Each (λ (u : Bays (List Cell) Fixed). block_by ok u ≡ some i) (place_low i s)
  low-found (last b) e = each-cond (leb (item_size i) (bay_sum b)) (λ t. just (put-found b e (leb-true (item_size i) (bay_sum b) t))) nothing
  low-found (more b x s) e =
      each-cond (leb (item_size i) (bay_sum b))
      (λ t. just (ap (λ (o : Option Item). or_else o (block_by ok s)) (put-found b (omega arith) (leb-true (item_size i) (bay_sum b) t))))
      (each_over (more b x) (λ u q. ap (λ (o : Option Item). or_else o (block_by ok u)) (get_none ok (items b) (omega arith)) ∙ q) (low-found s (omega arith)))
