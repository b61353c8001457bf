-- The structures of the codec and those of the calls: what holds of the one holds of the other.
use mathlib.Core.Path.{◌≡◌, refl, ap, sym, ◌∙◌}
use mathlib.Core.Bool.{Bool, true, false, cond}
use mathlib.Core.List.{List, [], ◌∷◌, ◌++◌}
use Prim.Native.Nat.{ℕ, zero, suc, ◌+◌, ◌*◌, ◌≤◌}
use native.Mathlib.Omega.{arith}
use native.Mathlib.Nat.{add-zero}
use lib.ListN.{length, length-append}
use lib.Dec.{eqb}
use Rattle.format.specs.Occurs.{occurs}
use Rattle.format.specs.WellFormed.{offsets}
use Rattle.block_type.specs.Limits.{most_masters, longest_zone, master_size, zone_header}
use Rattle.format.proofs.Count.{sum_over, sum-occurs, length-offsets, occurs-append, all_of}
use Rattle.structure.proofs.Round.{offset-le}
use Rattle.structure.specs.Structure.{Block, fixed, sizes, count, start, len, handles_of, names_in}
use Rattle.structure.specs.Valid.{Tiled, Valid}
use Rattle.structure.proofs.Append.{occurs-held}
use Rattle.calls.specs.Bays.{Bays, last, more, sum_s}
use Rattle.zone.specs.PickBays.{AllS}
use Rattle.bay.specs.Counted as Counted
use Rattle.bay.specs.Counted.{live}
use Rattle.bay.specs.Bay.{Cell, free, held, bay_size, items}
use Rattle.bay.proofs.Sound.{Sound, s-nil, s-end, s-free, s-held}
use Rattle.calls.specs.State.{Fixed, listed, handles_from, master_count}
use Rattle.kinds.specs.Kinds.{is, masters_of, has_name, names_of}
use Rattle.kinds.proofs.KindLaws.{name-owner}
use Rattle.zone.proofs.HowMany.{many}
use Rattle.zone.proofs.Names.{Apart, Ticks}
use Rattle.bay.proofs.Perm.{listed-held}
use Rattle.zone.proofs.Handles as Handles
use Rattle.zone.proofs.Handles.{Owns, masters}
use Rattle.zone.proofs.Places as Places
use Rattle.zone.proofs.Places.{tile-last, tile-more, Placed}
use Rattle.zone.proofs.Clean.{Every, e-last, e-more, i-cons, FixedOk, BayOk, Clean}
use Rattle.zone.proofs.Bounds.{Bounded}
use Rattle.zone.specs.Group.{group, flat_bay, flatten}
use Rattle.zone.proofs.GroupLaws.{group-flatten}
use Rattle.zone.specs.Work.{Zone}
use Rattle.zone.specs.Call.{in_bays, in_line}

-- ---- sizes

size-bay : (cs : List Cell) (r : List Block) → sizes (flat_bay cs r) ≡ bay_size cs + sizes r
unfolding sizes
size-bay [] r = omega arith
size-bay (free n ∷ cs) r = omega (arith, size-bay cs r)
size-bay (held e ∷ cs) r = omega (arith, size-bay cs r)

size-strip : {p end : ℕ} {s : Bays (List Cell) Fixed} → Places.Tiled p s end → p + sizes (flatten s) ≡ end
unfolding sizes
size-strip (tile-last {b = b} e) = omega (arith, size-bay b [])
size-strip (tile-more {b = b} {x = x} {s = s} e t) = omega (arith, size-bay b (fixed x.bytes ∷ flatten s), size-strip t)

-- ---- handles

pub occurs-same : (h : ℕ) (ks : List ℕ) → Handles.occurs h ks ≡ occurs h ks
unfolding occurs
occurs-same h [] = refl
occurs-same h (k ∷ ks) = go (eqb h k) (occurs-same h ks)
  where
    go : (t : Bool) → Handles.occurs h ks ≡ occurs h ks → cond t (suc (Handles.occurs h ks)) (Handles.occurs h ks) ≡ cond t 1 0 + occurs h ks
    go true e = omega arith
    go false e = omega arith

pub offsets-same : (h n : ℕ) → handles_from h n ≡ offsets h n
unfolding offsets
offsets-same h zero = refl
offsets-same h (suc n) = ap (h ∷◌) (offsets-same (h + master_size) n)

pub masters-same : (m h : ℕ) → masters m h ≡ occurs h (offsets zone_header m)
masters-same m h = occurs-same h (handles_from zone_header m) ∙ ap (occurs h) (offsets-same zone_header m)

live-bay : (h : ℕ) (cs : List Cell) (r : List Block) → occurs h (handles_of (flat_bay cs r)) ≡ Counted.count (is h) (items cs) + occurs h (handles_of r)
unfolding occurs handles_of
live-bay h [] r = omega arith
live-bay h (free n ∷ cs) r = live-bay h cs r
live-bay h (held e ∷ cs) r = occurs-held h e (flat_bay cs r) ∙ go (is h e) (live-bay h cs r)
  where
    go : (t : Bool) → occurs h (handles_of (flat_bay cs r)) ≡ Counted.count (is h) (items cs) + occurs h (handles_of r)
        → cond t 1 0 + occurs h (handles_of (flat_bay cs r)) ≡ cond t (suc (Counted.count (is h) (items cs))) (Counted.count (is h) (items cs)) + occurs h (handles_of r)
    go true e = omega arith
    go false e = omega arith

pub live-strip : (h : ℕ) (s : Bays (List Cell) Fixed) → occurs h (handles_of (flatten s)) ≡ live h s
unfolding occurs handles_of
live-strip h (last b) = live-bay h b [] ∙ add-zero _
live-strip h (more b x s) = live-bay h b (fixed x.bytes ∷ flatten s) ∙ ap (Counted.count (is h) (items b) +◌) (live-strip h s)

names-bay : (n : ℕ) (cs : List Cell) (r : List Block) → occurs n (names_in (flat_bay cs r)) ≡ Counted.count (has_name n) (items cs) + occurs n (names_in r)
unfolding occurs names_in
names-bay n [] r = omega arith
names-bay n (free k ∷ cs) r = names-bay n cs r
names-bay n (held e ∷ cs) r = occurs-append n (names_of e) (names_in (flat_bay cs r)) ∙ ap (◌+ occurs n (names_in (flat_bay cs r))) (name-owner n e) ∙ go (has_name n e) (names-bay n cs r)
  where
    go : (t : Bool) → occurs n (names_in (flat_bay cs r)) ≡ Counted.count (has_name n) (items cs) + occurs n (names_in r)
        → cond t 1 0 + occurs n (names_in (flat_bay cs r)) ≡ cond t (suc (Counted.count (has_name n) (items cs))) (Counted.count (has_name n) (items cs)) + occurs n (names_in r)
    go true e = omega arith
    go false e = omega arith

pub names-strip : (n : ℕ) (s : Bays (List Cell) Fixed) → occurs n (names_in (flatten s)) ≡ many (has_name n) s
unfolding occurs names_in
names-strip n (last b) = names-bay n b [] ∙ add-zero _
names-strip n (more b x s) = names-bay n b (fixed x.bytes ∷ flatten s) ∙ ap (Counted.count (has_name n) (items b) +◌) (names-strip n s)

many-bay : (cs : List Cell) (r : List Block) → length (handles_of (flat_bay cs r)) ≡ length (listed (items cs)) + length (handles_of r)
unfolding handles_of
many-bay [] r = omega arith
many-bay (free n ∷ cs) r = many-bay cs r
many-bay (held e ∷ cs) r = omega (arith, length-append (masters_of e) (handles_of (flat_bay cs r)), listed-held e (items cs), many-bay cs r)

pub many-strip : (s : Bays (List Cell) Fixed) → length (handles_of (flatten s)) ≡ sum_s (λ (b : List Cell). length (listed (items b))) s
unfolding handles_of
many-strip (last b) = many-bay b [] ∙ add-zero _
many-strip (more b x s) = many-bay b (fixed x.bytes ∷ flatten s) ∙ ap (length (listed (items b)) +◌) (many-strip s)

-- ---- as many handles as masters

sum_same : (ms : List ℕ) (f g : ℕ → ℕ) → ((h : ℕ) → f h ≡ g h) → sum_over ms f ≡ sum_over ms g
unfolding sum_over
sum_same [] f g e = refl
sum_same (m ∷ ms) f g e = omega (arith, e m, sum_same ms f g e)

-- a list that has each of the n offsets once, and nothing else, has n elements
counted : (n : ℕ) (xs : List ℕ) → ((h : ℕ) → occurs h xs ≡ occurs h (offsets zone_header n)) → length xs ≡ n
counted n xs e =
    sym (sum-occurs (offsets zone_header n) xs (all_of _ xs (λ x l. omega (arith, e x, offset-le x zone_header n))))
    ∙ sum_same (offsets zone_header n) (λ h. occurs h xs) (λ h. occurs h (offsets zone_header n)) e
    ∙ sum-occurs (offsets zone_header n) (offsets zone_header n) (all_of _ (offsets zone_header n) (λ x l. omega (arith, offset-le x zone_header n)))
    ∙ length-offsets zone_header n

-- ---- from bays to a line

-- what is known of a zone between calls
pub record Whole (z : Zone) : Type 0 where
  -- the number of masters
  pub m : ℕ
  pub few : m ≤ most_masters
  pub owned : Owns m z
  pub placed : Placed m z
  pub bounded : Bounded z
  pub sound : AllS Sound z.bays
  pub clean : Clean z
  pub apart : Apart z
  pub ticks : Ticks z

module _ (z : Zone) (w : Whole z) where
  owns-line : (h : ℕ) → occurs h (handles_of (flatten z.bays)) + occurs h z.chain ≡ occurs h (offsets zone_header w.m)
  owns-line h = omega (arith, live-strip h z.bays, occurs-same h z.chain, masters-same w.m h, w.owned.owns h)

  pub count-line : count (in_line z) ≡ w.m
  count-line =
      omega (
        arith,
        length-append (handles_of (flatten z.bays)) z.chain,
        counted w.m (handles_of (flatten z.bays) ++ z.chain) (λ h. occurs-append h (handles_of (flatten z.bays)) z.chain ∙ owns-line h),
      )

  pub masters-are : master_count items z ≡ w.m
  masters-are = omega (arith, many-strip z.bays, count-line)

  pub len-line : len (in_line z) ≡ z.len
  len-line = omega (arith, count-line, size-strip w.placed.tiled)

  -- the bays are found again
  pub bays-line : in_bays z.buf (in_line z) ≡ z
  bays-line = λ i. record { buf = z.buf; len = len-line i; clock = z.clock; chain = z.chain; bays = same i }
    where
      same : group (start (in_line z)) (flatten z.bays) ≡ z.bays
      same = ap (λ (m : ℕ). group (zone_header + master_size * m) (flatten z.bays)) count-line ∙ group-flatten w.placed.tiled

tiled-bay : {cs : List Cell} (r : List Block) → Sound cs → BayOk cs → bay_size cs ≤ longest_zone → ((q : Bool) → Tiled q r) → Tiled false (flat_bay cs r)
tiled-bay r s-nil i l k = k false
tiled-bay r (s-end b) i l k = (refl, omega (arith, b), b.by4, omega arith, k true)
tiled-bay r (s-free b (s-held c s)) (i-cons d i) l k = (refl, omega (arith, b), b.by4, omega arith, (omega (arith, c), d.short, d.written, tiled-bay r s i (omega arith) k))
tiled-bay r (s-held b s) (i-cons d i) l k = (omega (arith, b), d.short, d.written, tiled-bay r s i (omega arith) k)

tiled-strip : {p end : ℕ} {s : Bays (List Cell) Fixed} → Places.Tiled p s end → end ≤ longest_zone → AllS Sound s → Every BayOk FixedOk s → Tiled false (flatten s)
tiled-strip (tile-last e) l d (e-last i) = tiled-bay [] d i (omega arith) (λ q. tt)
tiled-strip (tile-more {b = b} {x = x} {s = s} e t) l d (e-more i q r) =
    tiled-bay (fixed x.bytes ∷ flatten s) d.0 i (omega (arith, size-strip t)) (λ u. (q.by4, q.holds.short, q.holds.bytes, tiled-strip t l d.1 r))

pub valid-line : (z : Zone) → Whole z → Valid (in_line z)
valid-line z w = record {
  tiled = tiled-strip w.placed.tiled w.bounded.limit w.sound w.clean.clean;
  owned = λ h. owns-line z w h ∙ ap (λ (n : ℕ). occurs h (offsets zone_header n)) (sym (count-line z w));
  apart = λ n. omega (arith, names-strip n z.bays, w.apart.apart n);
  byte = w.ticks.byte;
  few = omega (arith, count-line z w, w.few);
  short = omega (arith, len-line z w, w.bounded.limit);
}
