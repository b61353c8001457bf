-- No name stands twice, and the clock is a byte: kept by each call.
use mathlib.Core.Path.{◌≡◌, refl}
use mathlib.Core.Bool.{Bool, true, false, cond}
use mathlib.Core.List.{List}
use Prim.Native.Nat.{ℕ, ◌+◌, ◌≤◌, ◌<◌}
use native.Mathlib.Omega.{arith}
use lib.Dec.{eqb}
use borrow.Author.Tests.{eqb-true}
use Rattle.block_type.specs.Limits.{stamp_range}
use Rattle.calls.specs.Bays.{Bays, map_s}
use Rattle.kinds.specs.Kinds.{Item, has_name, is}
use Rattle.kinds.proofs.KindLaws.{is-no-page}
use Rattle.calls.specs.State.{Fixed, new_item}
use Rattle.calls.specs.Pages.{new_page}
use Rattle.bay.specs.Bay.{Cell, release, resized}
use Rattle.bay.proofs.Each.{each_weaken, each-or_else}
use Rattle.zone.specs.Work.{Zone}
use Rattle.zone.specs.Search.{lookup, place_low, place_high, join_at, resize_in}
use Rattle.zone.proofs.HowMany.{many, each_all, low-many, high-many, join-many, edit-many, own-many, fixed-many, compact-many, grow-many, cut-many, release-le}
use Rattle.zone.proofs.Handles.{Found, found}
use Rattle.zone.proofs.Walk.{Closed, any}

pub record Apart (z : Zone) : Type 0 where
  pub apart : (n : ℕ) → many (has_name n) z.bays ≤ 1

apart_from : {z u : Zone} → ((n : ℕ) → many (has_name n) u.bays ≤ many (has_name n) z.bays) → Apart z → Apart u
apart_from f g = record { apart = λ n. omega (arith, f n, g.apart n) }

pub apart-closed : Closed Apart
apart-closed = record {
  low = λ z h hs c lim q g. each_weaken (λ b r. apart_from (λ n. omega (arith, r n)) g) (each_all (λ n. low-many (has_name n) (new_item h c) z.bays));
  high = λ z n b lim g. each_weaken (λ r q. apart_from (λ n. omega (arith, q n)) g) (each_all (λ k. high-many (has_name k) n z.len z.bays));
  drop = λ z h g. each_weaken (λ e u. apart_from (λ n. release-le (has_name n) (is h) z.bays) g) (any (lookup h z));
  join = λ z p g. each_weaken (λ b q. apart_from (λ n. omega (arith, q n)) g) (each_all (λ k. join-many (has_name k) p z.bays));
  edit = λ z ok f y g. apart_from (λ n. omega (arith, edit-many (has_name n) ok f (λ e. y.named n e) z.bays)) g;
  edit-fixed = λ z p f y g. apart_from (λ n. omega (arith, fixed-many (has_name n) p f z.bays)) g;
  resize = λ z h a q g. each_weaken (λ e f lim. each_weaken {P = λ (u : Bays (List Cell) Fixed). (n : ℕ) → many (has_name n) u ≤ many (has_name n) z.bays} (λ b r. apart_from (λ n. r n) g)
      (each-or_else (each_weaken (λ u r n. omega (arith, r n)) (each_all (λ n. own-many (has_name n) h a (λ e. refl) z.bays)))
      (each_weaken (λ u r n. moved z h a e f n u (r n)) (each_all (λ n. low-many (has_name n) (resized a e) (map_s (release (is h)) z.bays)))))) (found 0 h z);
  compact_bay = λ z g. apart_from (λ n. omega (arith, compact-many (has_name n) z.bays)) g;
  grow = λ z k q l o g. apart_from (λ n. omega (arith, grow-many (has_name n) k z.bays)) g;
  take_high = λ z j k q g. apart_from (λ n. omega (arith, cut-many (has_name n) k z.bays (omega (arith, q)))) g;
  page = λ z n ck c i lim k a g. each_weaken (λ b r. record { apart = λ j. new z n j a g (eqb j n) refl b (r j) }) (each_all (λ j. low-many (has_name j) (new_page n ck c) z.bays));
  clear = λ z ok f g. apart_from (λ n. release-le (has_name n) ok z.bays) g;
  step = λ z g. record { apart = g.apart };
}
  where
    moved : (z : Zone) (h a : ℕ) (e : Item) → Found 0 h z e → (n : ℕ) (u : Bays (List Cell) Fixed) → many (has_name n) u ≡ cond (has_name n (resized a e)) 1 0 + many (has_name n) (map_s (release (is h)) z.bays) → many (has_name n) u ≤ many (has_name n) z.bays
    moved z h a e f n u r = let q : has_name n (resized a e) ≡ false = is-no-page h n e f.its in omega (arith, rw q at r, release-le (has_name n) (is h) z.bays)

    new : (z : Zone) (n j : ℕ) → many (has_name n) z.bays ≡ 0 → Apart z → (t : Bool) → eqb j n ≡ t → (u : Bays (List Cell) Fixed) → many (has_name j) u ≡ cond (eqb j n) 1 0 + many (has_name j) z.bays → many (has_name j) u ≤ 1
    new z n j a g true q u r = let e = eqb-true j n q in let s : many (has_name j) z.bays ≡ 0 = rw e a in omega (arith, rw q at r)
    new z n j a g false q u r = omega (arith, (rw q at r), g.apart j)

pub record Ticks (z : Zone) : Type 0 where
  pub byte : z.clock < stamp_range

pub ticks-closed : Closed Ticks
ticks-closed = record {
  low = λ z h hs c lim q g. each_weaken (λ b u. record { byte = g.byte }) (any (place_low (new_item h c) z.bays));
  high = λ z n b lim g. each_weaken (λ r u. record { byte = g.byte }) (any (place_high n z.len z.bays));
  drop = λ z h g. each_weaken (λ e u. record { byte = g.byte }) (any (lookup h z));
  join = λ z p g. each_weaken (λ b u. record { byte = g.byte }) (any (join_at p z.bays));
  edit = λ z ok f y g. record { byte = g.byte };
  edit-fixed = λ z p f y g. record { byte = g.byte };
  resize = λ z h a q g. each_weaken (λ e u lim. each_weaken (λ b u. record { byte = g.byte }) (any (resize_in h a e z.bays))) (any (lookup h z));
  compact_bay = λ z g. record { byte = g.byte };
  grow = λ z n q l m g. record { byte = g.byte };
  take_high = λ z j n q g. record { byte = g.byte };
  page = λ z n ck c i lim k a g. each_weaken (λ b u. record { byte = g.byte }) (any (place_low (new_page n ck c) z.bays));
  clear = λ z ok f g. record { byte = g.byte };
  step = λ z g. record { byte = omega arith };
}
