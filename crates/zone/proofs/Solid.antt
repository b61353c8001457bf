-- Every bay's blocks have the sizes of blocks, and no two free ones are neighbours; every fixed block has a block's size. Kept by each call.
use mathlib.Core.List.{List, []}
use Prim.Native.Nat.{ℕ, ◌-◌}
use native.Mathlib.Omega.{arith}
use lib.ListN.{length-replicate}
use borrow.Author.Tests.{leb-true}
use Rattle.block_type.specs.Limits.{fixed_header, up4}
use Rattle.calls.specs.Bays.{Bays}
use Rattle.kinds.specs.Kinds.{Item, item_size, is}
use Rattle.calls.specs.State.{Fixed, fsize, new_item, new_fixed, alter_fixed}
use Rattle.calls.specs.Pages.{new_page}
use Rattle.bay.specs.Bay.{Cell, bay_sum, compact_bay, put, take_high, release, edit, resized, reshape}
use Rattle.zone.specs.Work.{Zone}
use Rattle.zone.specs.Search.{lookup, own, place_low}
use Rattle.bay.proofs.Each.{Each, each-or_else, each_weaken}
use Rattle.bay.proofs.Sound.{Block, Sound, s-nil, gap-sound, sum-by4, tidy-sound, put-sound, cut-sound, release-sound, weld-sound, edit-sound}
use Rattle.bay.proofs.Resize.{resized-block, reshape-sound}
use Rattle.zone.proofs.Walk.{Closed, any}
use Rattle.zone.proofs.Places.{alter-fsize}
use Rattle.zone.proofs.Clean.{Every, every-low, every-high, every-join, every_map, every-fixed, every-last}

pub record Sized (x : Fixed) : Type 0 where
  pub block : Block (fsize x)

pub record Solid (z : Zone) : Type 0 where
  pub solid : Every Sound Sized z.bays

-- the sizes that calls ask for
pub new-block : (h c : ℕ) → Block (item_size (new_item h c))
new-block h c = omega (arith, length-replicate {A = ℕ} (up4 c) 0)

pub page-block : (n ck c : ℕ) → Block (item_size (new_page n ck c))
page-block n ck c = omega (arith, length-replicate {A = ℕ} (up4 c) 0)

pub new-sized : (n end : ℕ) → Block n → Sized (new_fixed n end)
new-sized n end k = record { block = omega (arith, length-replicate {A = ℕ} (n - fixed_header) 0, k) }

put_low : (e : Item) → Block (item_size e) → {s : Bays (List Cell) Fixed} → Every Sound Sized s → Each (Every Sound Sized) (place_low e s)
put_low e k g = every-low _ (put e) (λ b t p. put-sound e k p) g

pub solid-closed : Closed Solid
solid-closed = record {
  low = λ z h hs c lim q g. each_weaken (λ b r. record { solid = r }) (put_low (new_item h c) (new-block h c) g.solid);
  high = λ z n k lim g. each_weaken (λ r q. record { solid = q })
      (every-high _ (take_high n) (new_fixed n) [] _ z.len (λ b t p. cut-sound n k.by4 (leb-true n (bay_sum b) t) p) (λ end. new-sized n end k) s-nil g.solid);
  drop = λ z h g. each_weaken (λ e u. record { solid = every_map (release (is h)) (λ b p. release-sound (is h) p) g.solid }) (any (lookup h z));
  join = λ z p g. each_weaken (λ b q. record { solid = q }) (every-join _ _ (λ b c x r q s. weld-sound r (gap-sound (fsize x) q.block.by4 s)) g.solid);
  edit = λ z ok f y g. record { solid = every_map (edit ok f) (λ b p. edit-sound ok f y.long p) g.solid };
  edit-fixed = λ z p f y g. record { solid = every-fixed (alter_fixed p f) (λ x q. record { block = rw (alter-fsize p f y.long x) q.block }) g.solid };
  resize = λ z h a q g. each_weaken (λ e u lim. each_weaken (λ b r. record { solid = r })
      (each-or_else (every-low (own h a) (reshape h a) (λ b t p. reshape-sound h a q p) g.solid)
      (put_low (resized a e) (resized-block a e q) (every_map (release (is h)) (λ b p. release-sound (is h) p) g.solid))))
      (any (lookup h z));
  compact_bay = λ z g. record { solid = every_map compact_bay (λ b p. tidy-sound p) g.solid };
  grow = λ z n q l o g. record { solid = every-last _ (λ p. weld-sound p (gap-sound n q s-nil)) g.solid };
  page = λ z n ck c i lim k a g. each_weaken (λ b r. record { solid = r }) (put_low (new_page n ck c) (page-block n ck c) g.solid);
  clear = λ z ok f g. record { solid = every_map (release ok) (λ b p. release-sound ok p) g.solid };
  step = λ z g. record { solid = g.solid };
  take_high = λ z j n q g. record { solid = every-last _ (λ p. cut-sound n (omega (arith, q, sum-by4 p)) (omega (arith, q)) p) g.solid };
}
