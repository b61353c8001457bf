-- From a line of blocks to bays: what holds of a valid structure, grouped.
use mathlib.Core.Path.{◌≡◌, refl, ap, sym, ◌∙◌}
use mathlib.Core.Bool.{Bool, true, false, false≢true}
use mathlib.Core.List.{List, [], ◌∷◌}
use Prim.Native.Nat.{ℕ, ◌+◌, ◌≤◌}
use native.Mathlib.Omega.{arith}
use lib.ListN.{length}
use Rattle.format.specs.Occurs.{occurs}
use Rattle.block_type.specs.Limits.{fixed_header, zone_header}
use Rattle.structure.specs.Structure.{Structure, Block, fixed, sizes, count, start, len, cell, handles_of, names_in}
use Rattle.structure.specs.Valid.{Tiled, Valid}
use Rattle.calls.specs.Bays.{Bays, last, more, map_s}
use Rattle.zone.specs.PickBays.{AllS}
use Rattle.kinds.specs.Kinds.{Item, item_size, is}
use Rattle.calls.specs.State.{Fixed, master_count, with_bays}
use Rattle.bay.specs.Bay.{Cell, free, held, items, release}
use Rattle.bay.proofs.Sound as Sound
use Rattle.bay.proofs.Sound.{Sound, s-nil, s-end, s-free, s-held}
use Rattle.calls.specs.Calls.{Call, beside, Given}
use Rattle.calls.specs.Table.{refusal_of}
use Rattle.bay.specs.Counted.{live}
use Rattle.zone.proofs.Handles.{Owns, owns-closed, occurs-once}
use Rattle.zone.proofs.Places as Places
use Rattle.zone.proofs.Places.{tile-last, tile-more, Placed, placed-closed}
use Rattle.zone.proofs.Entered.{starts, entered, from-buffer}
use Rattle.zone.proofs.Walk.{Closed, work-keeps}
use Rattle.zone.proofs.Clean.{Every, e-last, e-more, i-nil, i-cons, ItemOk, FixedOk, BayOk, Clean, clean-closed}
use Rattle.zone.proofs.Bounds.{Bounded, bounded_closed, Long, long-closed}
use Rattle.zone.proofs.Solid.{Sized, Solid, solid-closed}
use Rattle.zone.specs.Group.{in_front, group}
use Rattle.zone.proofs.GroupLaws.{flatten-group}
use Rattle.zone.specs.Work.{Zone, facts, work}
use Rattle.zone.specs.Call.{in_bays, in_line}
use Rattle.kinds.proofs.KindLaws as Kind
use Rattle.zone.proofs.Names.{Apart, apart-closed, Ticks, ticks-closed}
use Rattle.zone.proofs.Keep.{Whole, live-strip, occurs-same, masters-same, masters-are, names-strip}
use Rattle.zone.proofs.MoreMasters.{entered-whole}

pub line-bays : (buf : ℕ) (s : Structure) → in_line (in_bays buf s) ≡ s
line-bays buf s = λ i. record { clock = s.clock; chain = s.chain; blocks = flatten-group (start s) s.blocks i }

-- ---- places

front-free : (n : ℕ) {p end : ℕ} {s : Bays (List Cell) Fixed} → Places.Tiled (p + n) s end → Places.Tiled p (in_front (free n) s) end
front-free n {p} (tile-last {end = end} {b = b} e) = tile-last {p = p} {end = end} {b = free n ∷ b} (omega arith)
front-free n {p} (tile-more {b = b} {x = x} e t) = tile-more {p = p} {b = free n ∷ b} {x = x} (omega arith) t

front-held : (d : Item) {p end : ℕ} {s : Bays (List Cell) Fixed} → Places.Tiled (p + item_size d) s end → Places.Tiled p (in_front (held d) s) end
front-held d {p} (tile-last {end = end} {b = b} e) = tile-last {p = p} {end = end} {b = held d ∷ b} (omega arith)
front-held d {p} (tile-more {b = b} {x = x} e t) = tile-more {p = p} {b = held d ∷ b} {x = x} (omega arith) t

placed-group : (p end : ℕ) (bs : List Block) → p + sizes bs ≡ end → Places.Tiled p (group p bs) end
unfolding sizes
placed-group p end [] e = tile-last {p = p} {end = end} {b = []} (omega arith)
placed-group p end (cell (free n) ∷ bs) e = front-free n (placed-group (p + n) end bs (omega arith))
placed-group p end (cell (held it) ∷ bs) e = front-held it (placed-group (p + item_size it) end bs (omega arith))
placed-group p end (fixed d ∷ bs) e = tile-more {p = p} {b = []} {x = record { place = p; bytes = d }} (omega arith) (placed-group (p + (fixed_header + length d)) end bs (omega arith))

-- ---- soundness

sound-held : (e : Item) → Sound.Block (item_size e) → (s : Bays (List Cell) Fixed) → AllS Sound s → AllS Sound (in_front (held e) s)
sound-held e b (last c) d = s-held b d
sound-held e b (more c x s) d = (s-held b d.0, d.1)

sound-both : (n : ℕ) (e : Item) → Sound.Block n → Sound.Block (item_size e) → (s : Bays (List Cell) Fixed) → AllS Sound s → AllS Sound (in_front (free n) (in_front (held e) s))
sound-both n e k b (last c) d = s-free k (s-held b d)
sound-both n e k b (more c x s) d = (s-free k (s-held b d.0), d.1)

-- with a free block in front, where none is before
sound-group : (prev : Bool) (p : ℕ) (bs : List Block) → Tiled prev bs
    → AllS Sound (group p bs) × (prev ≡ true → (n : ℕ) → Sound.Block n → AllS Sound (in_front (free n) (group p bs)))
sound-group prev p [] t = (s-nil, λ e n b. s-end b)
sound-group prev p (cell (free n) ∷ bs) t = ((sound-group true (p + n) bs t.4).1 refl n (omega (arith, t.1, t.2)), λ e. absurd (false≢true (sym t.0 ∙ e)))
sound-group prev p (cell (held it) ∷ bs) t =
    let r = (sound-group false (p + item_size it) bs t.3).0 in
    let k : Sound.Block (item_size it) = omega (arith, t.0, (Kind.facts it).low) in
    (sound-held it k (group (p + item_size it) bs) r, λ e n b. sound-both n it b k (group (p + item_size it) bs) r)
sound-group prev p (fixed d ∷ bs) t =
    let r = (sound-group false (p + (fixed_header + length d)) bs t.3).0 in
    ((s-nil, r), λ e n b. (s-end b, r))

-- ---- data

clean_free : (n : ℕ) {s : Bays (List Cell) Fixed} → Every BayOk FixedOk s → Every BayOk FixedOk (in_front (free n) s)
clean_free n (e-last i) = e-last i
clean_free n (e-more i q r) = e-more i q r

clean-held : (e : Item) → ItemOk e → {s : Bays (List Cell) Fixed} → Every BayOk FixedOk s → Every BayOk FixedOk (in_front (held e) s)
clean-held e d (e-last i) = e-last (i-cons d i)
clean-held e d (e-more i q r) = e-more (i-cons d i) q r

clean-group : (prev : Bool) (p : ℕ) (bs : List Block) → Tiled prev bs → Every BayOk FixedOk (group p bs)
clean-group prev p [] t = e-last i-nil
clean-group prev p (cell (free n) ∷ bs) t = clean_free n (clean-group true (p + n) bs t.4)
clean-group prev p (cell (held e) ∷ bs) t = clean-held e (record { written = t.2; short = t.1 }) (clean-group false (p + item_size e) bs t.3)
clean-group prev p (fixed d ∷ bs) t = e-more i-nil (record { holds = record { bytes = t.2; short = t.1 }; by4 = t.0 }) (clean-group false (p + (fixed_header + length d)) bs t.3)

pub whole-bays : (buf : ℕ) (s : Structure) → Valid s → len s ≤ buf → Whole (in_bays buf s)
whole-bays buf s v l = record {
  m = count s;
  few = v.few;
  owned = record { owns = λ h. omega (arith, live-strip h (group (start s) s.blocks), ap (λ (bs : List Block). occurs h (handles_of bs)) (flatten-group (start s) s.blocks), occurs-same h s.chain, masters-same (count s) h, v.owned h) };
  placed = record { tiled = placed-group (start s) (len s) s.blocks refl };
  bounded = record { within = l; limit = v.short };
  sound = (sound-group false (start s) s.blocks v.tiled).0;
  clean = record { clean = clean-group false (start s) s.blocks v.tiled };
  apart = record { apart = λ n. omega (arith, names-strip n (group (start s) s.blocks), ap (λ (bs : List Block). occurs n (names_in bs)) (flatten-group (start s) s.blocks), v.apart n) };
  ticks = record { byte = v.byte };
}

-- ---- every call that nothing refuses keeps it

-- what is known of the bays, as the walk through the calls keeps it
pub solid-of : {s : Bays (List Cell) Fixed} → AllS Sound s → Every BayOk FixedOk s → Every Sound Sized s
solid-of d (e-last i) = e-last d
solid-of d (e-more {x = x} i q r) = e-more {x = x} d.0 (record { block = omega (arith, q.by4) }) (solid-of d.1 r)

pub sound-of : {s : Bays (List Cell) Fixed} → Every Sound Sized s → AllS Sound s
sound-of (e-last d) = d
sound-of (e-more d q r) = (d, sound-of r)

-- no handle stands twice
pub single-live : (z : Zone) (w : Whole z) (h : ℕ) → live h z.bays ≤ 1
single-live z w h = omega (arith, w.owned.owns h, occurs-once h zone_header w.m)

-- blocks without a handle become free
pub clear_whole : (z : Zone) (w : Whole z) (ok : Item → Bool) → ((h : ℕ) (e : Item) → is h e ≡ true → ok e ≡ false) → Whole (with_bays (map_s (release ok) z.bays) z)
clear_whole z w ok f = record {
  m = w.m;
  few = w.few;
  owned = (owns-closed w.m).clear z ok f w.owned;
  placed = (placed-closed w.m).clear z ok f w.placed;
  bounded = bounded_closed.clear z ok f w.bounded;
  sound = sound-of (solid-closed.clear z ok f (record { solid = solid-of w.sound w.clean.clean })).solid;
  clean = clean-closed.clear z ok f w.clean;
  apart = apart-closed.clear z ok f w.apart;
  ticks = ticks-closed.clear z ok f w.ticks;
}

module _ (c : Call) (z : Zone) (y : Given (beside c)) (w : Whole z) (e : refusal_of c (facts true z) ≡ 0) where
  -- what is kept of the zone that the work starts from
  keeps : (P : Zone → Type 0) → Closed P → P (entered c z) → P (work c z).next
  keeps P k g = work-keeps P k c z y (single-live z w) w.apart.apart w.ticks.byte e g

  pub work-whole : Whole (work c z).next
  work-whole =
      let v : Whole (entered c z) = entered-whole z w c e in
      record {
        m = v.m;
        few = v.few;
        owned = keeps (Owns v.m) (owns-closed v.m) v.owned;
        placed = keeps (Placed v.m) (placed-closed v.m) v.placed;
        bounded = keeps Bounded bounded_closed v.bounded;
        sound = sound-of (keeps Solid solid-closed (record { solid = solid-of v.sound v.clean.clean })).solid;
        clean = keeps Clean clean-closed v.clean;
        apart = keeps Apart apart-closed v.apart;
        ticks = keeps Ticks ticks-closed v.ticks;
      }

  -- as many masters as it starts with
  pub work-masters : master_count items (work c z).next ≡ master_count items (entered c z)
  unfolding work-whole
  work-masters = masters-are (work c z).next work-whole ∙ sym (masters-are (entered c z) (entered-whole z w c e))

  pub work-buffer : (work c z).next.buf ≡ z.buf
  work-buffer = (keeps (Long z.buf) (long-closed z.buf) (record { long = from-buffer (starts c z) })).long
