-- The blocks tile the zone: a fixed block's place is where it stands, and the last bay ends at the zone's length. Kept by each call.
use mathlib.Core.Path.{◌≡◌, refl, ap, sym, ◌∙◌}
use mathlib.Core.Bool.{Bool, true}
use mathlib.Core.List.{List, []}
use Prim.Native.Nat.{ℕ, ◌+◌, ◌-◌, ◌≤◌}
use native.Mathlib.Omega.{arith}
use lib.ListN.{length, length-replicate}
use lib.Dec.{leb, eqb}
use borrow.Author.Tests.{leb-true}
use Rattle.calls.specs.Bays.{Bays, last, more, on_first, map_s, on_fixed, on_last, first_s, last_s}
use Rattle.zone.specs.PickBays.{on_low}
use Rattle.kinds.specs.Kinds.{Item, item_size, is}
use Rattle.calls.specs.State.{alter_fixed, pointer, Fixed, fsize, new_item, new_fixed}
use Rattle.calls.specs.Pages.{new_page}
use Rattle.bay.specs.Bay.{Cell, bay_size, bay_sum, gap, join_bays, compact_bay, put, take_high, release, edit, reshape, resized}
use Rattle.bay.proofs.Each.{Each, nothing, just, each-cond, each_over, cond-one, each-or_else, each_weaken}
use Rattle.bay.proofs.Holes.{put_keeps}
use Rattle.bay.proofs.Laws.{cut-less, tidy-size, bsize-weld, bsize-gap, release-size, edit-size}
use Rattle.bay.proofs.Sound.{Block}
use Rattle.zone.specs.Search.{reaches, place_low, place_high, join_at, lookup, own}
use Rattle.block_type.specs.Limits.{fixed_header, first_block}
use Rattle.zone.proofs.Own.{own-shaped}
use Rattle.zone.proofs.Walk.{Closed, any}
use Rattle.zone.specs.Work.{Zone}

pub data Tiled : ℕ → Bays (List Cell) Fixed → ℕ → Type 0 where
  tile-last : {p end : ℕ} {b : List Cell} → p + bay_size b ≡ end → Tiled p (last b) end
  tile-more : {p end : ℕ} {b : List Cell} {x : Fixed} {s : Bays (List Cell) Fixed} → p + bay_size b ≡ x.place → Tiled (x.place + fsize x) s end → Tiled p (more b x s) end

on_low-tiled : (t : List Cell → Bool) (f : List Cell → List Cell) → ((b : List Cell) → t b ≡ true → bay_size (f b) ≡ bay_size b)
    → {p end : ℕ} {s : Bays (List Cell) Fixed} → Tiled p s end → Each (λ (u : Bays (List Cell) Fixed). Tiled p u end) (on_low t f s)
on_low-tiled t f h (tile-last {p = p} {end = end} {b = b} e) = each-cond (t b) (λ k. just (tile-last {p = p} {end = end} {b = f b} (omega (arith, h b k)))) nothing
on_low-tiled t f h (tile-more {p = p} {b = b} {x = x} e l) =
    each-cond (t b) (λ k. just (tile-more {p = p} {b = f b} {x = x} (omega (arith, h b k)) l)) (each_over (more b x) (λ u q. tile-more e q) (on_low-tiled t f h l))

low-tiled : (i : Item) {p end : ℕ} {s : Bays (List Cell) Fixed} → Tiled p s end → Each (λ (u : Bays (List Cell) Fixed). Tiled p u end) (place_low i s)
low-tiled i t = on_low-tiled (reaches (item_size i)) (put i) (λ b h. (put_keeps i b (leb-true (item_size i) (bay_sum b) h)).size) t

high-tiled : (n : ℕ) → Block n → {p end : ℕ} {s : Bays (List Cell) Fixed} → Tiled p s end → Each (λ (r : Fixed × Bays (List Cell) Fixed). Tiled p r.1 end) (place_high n end s)
high-tiled n k (tile-last {p = p} {end = end} {b = b} e) =
    each-cond (leb n (bay_sum b)) (λ h. just (tile-more {p = p} {b = take_high n b} {x = new_fixed n end}
    (omega (arith, e, (cut-less n b (leb-true n (bay_sum b) h)).size))
    (tile-last {p = end - n + fsize (new_fixed n end)} {end = end} {b = []} (omega (arith, e, k, length-replicate {A = ℕ} (n - fixed_header) 0, (cut-less n b (leb-true n (bay_sum b) h)).size))))) nothing
high-tiled n k (tile-more {p = p} {b = b} {x = x} e t) =
    each-or_else (each_over _ (λ r q. tile-more e q) (high-tiled n k t))
    (each-cond (leb n (bay_sum b)) (λ h. just (tile-more {p = p} {b = take_high n b} {x = new_fixed n x.place}
    (omega (arith, e, (cut-less n b (leb-true n (bay_sum b) h)).size))
    (tile-more {p = x.place - n + fsize (new_fixed n x.place)} {b = []} {x = x} (omega (arith, e, k, length-replicate {A = ℕ} (n - fixed_header) 0, (cut-less n b (leb-true n (bay_sum b) h)).size)) t))) nothing)

joined-size : (b c : List Cell) (n : ℕ) → bay_size (join_bays b (gap n c)) ≡ bay_size b + n + bay_size c
joined-size b c n = omega (arith, bsize-weld b (gap n c), bsize-gap n c)

join-tiled : (q : ℕ) {p end : ℕ} {s : Bays (List Cell) Fixed} → Tiled p s end → Each (λ (u : Bays (List Cell) Fixed). Tiled p u end) (join_at q s)
join-tiled q (tile-last e) = nothing
join-tiled q (tile-more {p = p} {b = b} {x = x} e (tile-last {end = end} {b = c} f)) =
    each-cond (eqb q (x.place + fixed_header)) (λ h. just (tile-last {p = p} {end = end} (omega (arith, joined-size b c (fsize x))))) nothing
join-tiled q (tile-more {p = p} {b = b} {x = x} e (tile-more {b = c} {x = y} f t)) =
    each-cond (eqb q (x.place + fixed_header)) (λ h. just (tile-more {p = p} {b = join_bays b (gap (fsize x) c)} {x = y} (omega (arith, joined-size b c (fsize x))) t))
    (each_over (more b x) (λ u r. tile-more e r) (join-tiled q (tile-more f t)))

map-tiled : (f : List Cell → List Cell) → ((b : List Cell) → bay_size (f b) ≡ bay_size b) → {p end : ℕ} {s : Bays (List Cell) Fixed} → Tiled p s end → Tiled p (map_s f s) end
map-tiled f h (tile-last {p = p} {end = end} {b = b} e) = tile-last {p = p} {end = end} {b = f b} (omega (arith, h b))
map-tiled f h (tile-more {p = p} {b = b} {x = x} e t) = tile-more {p = p} {b = f b} {x = x} (omega (arith, h b)) (map-tiled f h t)

fixed-tiled : (f : Fixed → Fixed) → ((x : Fixed) → (f x).place ≡ x.place) → ((x : Fixed) → fsize (f x) ≡ fsize x) → {p end : ℕ} {s : Bays (List Cell) Fixed} → Tiled p s end → Tiled p (on_fixed f s) end
fixed-tiled f h k (tile-last e) = tile-last e
fixed-tiled f h k (tile-more {end = end} {x = x} {s = s} e t) =
    let r : Tiled ((f x).place + fsize (f x)) (on_fixed f s) end = rw (h x, k x) (fixed-tiled f h k t) in
    tile-more (e ∙ sym (h x)) r

alter-place : (p : ℕ) (f : List ℕ → List ℕ) (x : Fixed) → (alter_fixed p f x).place ≡ x.place
alter-place p f x = cond-one (λ (y : Fixed). y.place) (eqb p (pointer x)) refl refl

pub alter-fsize : (p : ℕ) (f : List ℕ → List ℕ) → ((l : List ℕ) → length (f l) ≡ length l) → (x : Fixed) → fsize (alter_fixed p f x) ≡ fsize x
alter-fsize p f q x = cond-one fsize (eqb p (pointer x)) (ap (fixed_header +◌) (q x.bytes)) refl

last-tiled : (f : List Cell → List Cell) {p end : ℕ} (end' : ℕ) {s : Bays (List Cell) Fixed} → bay_size (f (last_s s)) + end ≡ bay_size (last_s s) + end' → Tiled p s end → Tiled p (on_last f s) end'
last-tiled f end' q (tile-last {p = p} {b = b} e) = tile-last {p = p} {end = end'} {b = f b} (omega arith)
last-tiled f end' q (tile-more e t) = tile-more e (last-tiled f end' q t)

-- the first bay gives up bytes, or gets some, at its start
pub first-tiled : (f : List Cell → List Cell) {p end : ℕ} (p' : ℕ) {s : Bays (List Cell) Fixed} → bay_size (f (first_s s)) + p' ≡ bay_size (first_s s) + p → Tiled p s end → Tiled p' (on_first f s) end
first-tiled f p' q (tile-last {end = end} {b = b} e) = tile-last {p = p'} {end = end} {b = f b} (omega arith)
first-tiled f p' q (tile-more {b = b} {x = x} e t) = tile-more {p = p'} {b = f b} {x = x} (omega arith) t

last-below : {p end : ℕ} {s : Bays (List Cell) Fixed} → Tiled p s end → bay_size (last_s s) ≤ end
last-below (tile-last e) = omega arith
last-below (tile-more e t) = last-below t

pub record Placed (m : ℕ) (z : Zone) : Type 0 where
  pub tiled : Tiled (first_block m) z.bays z.len

pub placed-closed : (m : ℕ) → Closed (Placed m)
placed-closed m = record {
  low = λ z h hs c lim q g. each_weaken (λ b r. record { tiled = r }) (low-tiled (new_item h c) g.tiled);
  high = λ z n b lim g. each_weaken (λ r q. record { tiled = q }) (high-tiled n b g.tiled);
  drop = λ z h g. each_weaken (λ e u. record { tiled = map-tiled (release (is h)) (release-size (is h)) g.tiled }) (any (lookup h z));
  join = λ z p g. each_weaken (λ b q. record { tiled = q }) (join-tiled p g.tiled);
  edit = λ z ok f y g. record { tiled = map-tiled (edit ok f) (edit-size ok f y.long) g.tiled };
  edit-fixed = λ z p f y g. record { tiled = fixed-tiled (alter_fixed p f) (alter-place p f) (alter-fsize p f y.long) g.tiled };
  resize = λ z h a q g. each_weaken (λ e u lim. each_weaken (λ b r. record { tiled = r }) (each-or_else (on_low-tiled (own h a) (reshape h a) (λ b k. (own-shaped h a b k).size) g.tiled) (low-tiled (resized a e) (map-tiled (release (is h)) (release-size (is h)) g.tiled)))) (any (lookup h z));
  compact_bay = λ z g. record { tiled = map-tiled compact_bay tidy-size g.tiled };
  grow = λ z n q l o g. record { tiled = last-tiled _ (z.len + n) (omega (arith, bsize-weld (last_s z.bays) (gap n []), bsize-gap n [])) g.tiled };
  page = λ z n ck c i lim k a g. each_weaken (λ b r. record { tiled = r }) (low-tiled (new_page n ck c) g.tiled);
  clear = λ z ok f g. record { tiled = map-tiled (release ok) (release-size ok) g.tiled };
  step = λ z g. record { tiled = g.tiled };
  take_high = λ z j n q g. record { tiled = last-tiled _ (z.len - n) (omega (arith, (cut-less n (last_s z.bays) (omega (arith, q))).size, last-below g.tiled)) g.tiled };
}
