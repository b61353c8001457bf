-- After an accepted free the pointer names no block, and as many bytes more are free as its block had.
use mathlib.Core.Path.{◌≡◌, refl, ap, ◌∙◌}
use mathlib.Core.Bool.{Bool, true, false, cond, true≢false}
use mathlib.Core.Option.{Option, none, some}
use mathlib.Core.List.{List}
use Prim.Native.Nat.{ℕ, ◌+◌, ◌<◌}
use native.Mathlib.Omega.{arith}
use lib.ListN.{length}
use lib.Dec.{eqb}
use borrow.Author.Tests.{eqb-true, ne_eqb}
use Rattle.bigendian.specs.BigEndian.{Bytes}
use Rattle.block_type.specs.Limits.{fixed_header}
use Rattle.calls.specs.Calls.{by_pointer, Answer, told, free_pointer, size, sums}
use Rattle.calls.specs.Bays.{Bays, last, more, over, find_f, sum_s}
use Rattle.bay.specs.Bay.{Cell, bay_sum, gap, join_bays}
use Rattle.calls.specs.State.{Fixed, fsize, pointer, with_bays, join_over}
use Rattle.calls.specs.Table.{is_none}
use Rattle.calls.proofs.First.{or_left}
use Rattle.zone.specs.Work.{Zone, pointer_freed}
use Rattle.zone.specs.Call.{zone_in, call}
use Rattle.bay.proofs.Each.{Each, nothing, just, each_weaken}
use Rattle.bay.proofs.Laws.{bsum-gap, bsum-weld}
use Rattle.zone.proofs.Places.{Tiled, tile-last, tile-more}
use Rattle.zone.proofs.Run.{well-whole}
use Rattle.call_laws.proofs.Accepted.{Accepted, accepted, cleared, before, after}
use Rattle.call_laws.proofs.Named.{size-there, size-gone}

-- ---- the fixed block is gone

module _ (p : ℕ) where
  abbrev find : Bays (List Cell) Fixed → Option Fixed
  find s = find_f (λ (x : Fixed). eqb p (pointer x)) s

  -- the pointer lies below all blocks
  none_above : {q end : ℕ} {s : Bays (List Cell) Fixed} → Tiled q s end → p < q + fixed_header → find s ≡ none
  none_above (tile-last e) l = refl
  none_above (tile-more {x = x} e t) l = rw (ne_eqb p (pointer x) (λ k. omega arith)) (none_above t (omega arith))

  -- u is what the bays s are without the block x
  record Without (s : Bays (List Cell) Fixed) (x : Fixed) (u : Bays (List Cell) Fixed) : Type 0 where
    gone : find u ≡ none
    more-free : sum_s bay_sum u ≡ sum_s bay_sum s + fsize x

  abbrev joins : List Cell → ℕ → List Cell → List Cell
  joins b n c = join_bays b (gap n c)

  here : (b : List Cell) (x : Fixed) (s : Bays (List Cell) Fixed) → find s ≡ none → Without (more b x s) x (join_over joins b x s)
  here b x (last c) e = record { gone = refl; more-free = omega (arith, bsum-weld b (gap (fsize x) c), bsum-gap (fsize x) c) }
  here b x (more c y s) e = record { gone = e; more-free = omega (arith, bsum-weld b (gap (fsize x) c), bsum-gap (fsize x) c) }

  past : (b : List Cell) (x y : Fixed) (s u : Bays (List Cell) Fixed) → eqb p (pointer x) ≡ false → Without s y u → Without (more b x s) y (more b x u)
  past b x y s u k w = record { gone = rw k w.gone; more-free = omega (arith, w.more-free) }

  freed : {q end : ℕ} {s : Bays (List Cell) Fixed} → Tiled q s end → Each (λ (y : Fixed). Without s y (pointer_freed p s)) (find s)
  freed (tile-last e) = nothing
  freed (tile-more {b = b} {x = x} {s = s} e t) = go (eqb p (pointer x)) refl (freed t)
    where
      go : (u : Bool) → eqb p (pointer x) ≡ u → Each (λ (y : Fixed). Without s y (pointer_freed p s)) (find s)
          → Each (λ (y : Fixed). Without (more b x s) y (cond u (join_over joins b x s) (more b x (pointer_freed p s)))) (cond u (some x) (find s))
      go true k r = just (here b x s (none_above t (omega (arith, eqb-true p (pointer x) k))))
      go false k r = each_weaken (λ y w. past b x y s (pointer_freed p s) k w) r

-- ---- the call

abbrev left : ℕ → List ℕ → List ℕ
left p s = (call (free_pointer p) s).bytes

pub record Freed (p : ℕ) (s : List ℕ) : Type 0 where
  pub unnamed : (call (size (by_pointer p)) (left p s)).answer ≡ told 7 0
  pub total : (call sums (left p s)).answer.value ≡ (call sums s).answer.value + (fixed_header + (call (size (by_pointer p)) s).answer.value)

module _ (s : List ℕ) (p : ℕ) (y : Bytes s) (e : (call (free_pointer p) s).answer.number ≡ 0) where
  a : Accepted (free_pointer p) s
  a = accepted (free_pointer p) s (λ n v. refl) refl e

  abbrev z : Zone
  z = zone_in s

  pub free-left : Freed p s
  free-left = go (find p z.bays) refl (or_left _ _ (cleared a 7 refl)) (freed p (well-whole s y a.well).placed.tiled)
    where
      go : (o : Option Fixed) → find p z.bays ≡ o → is_none (over length (over (λ (x : Fixed). x.bytes) o)) ≡ false → Each (λ (x : Fixed). Without p z.bays x (pointer_freed p z.bays)) o → Freed p s
      go none q n nothing = absurd (true≢false n)
      go (some x) q n (just k) =
          let value : Answer → ℕ = λ a. a.value in
          record {
            unnamed = after a y tt (size (by_pointer p)) ∙ size-gone (with_bays (pointer_freed p z.bays) z) (by_pointer p) (ap (over (λ (x : Fixed). x.bytes)) k.gone);
            total = omega (arith, ap value (after a y tt sums), ap value (before a y sums), ap value (before a y (size (by_pointer p)) ∙ size-there z (by_pointer p) (ap (over (λ (x : Fixed). x.bytes)) q)), k.more-free);
          }
