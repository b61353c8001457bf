-- The walk that compacts a bay: what it has passed is in place but for the run, and what is left stands as it did.
use mathlib.Core.Path.{◌≡◌, refl, sym, ap, ap₂, ◌∙◌, subst}
use mathlib.Core.List.{List, [], ◌∷◌, ◌++◌, append_assoc, append-nil}
use Prim.Native.Nat.{ℕ, ◌+◌, ◌-◌, ◌%◌, ◌<◌, ◌≤◌}
use native.Mathlib.Omega.{arith}
use lib.ListN.{length, take, drop}
use lib.Seq.{length-take-le}
use Rattle.block_type.specs.Limits.{free_code, fixed_code, free_header, longest_zone, master_size}
use Rattle.bigendian.specs.BigEndian.{slice, overwrite}
use Rattle.bigendian.proofs.Overwrite.{take-write, drop-write, len-write}
use Rattle.bigendian.proofs.Parts.{length-slice, slice-take, slice-add, drop-take}
use Rattle.format.specs.WellFormed.{type_of, size_of}
use Rattle.kinds.proofs.KindLaws.{facts}
use Rattle.bay.specs.Bay.{Cell, free, held, cell_size, cell_code, bay_sum, items, gap, packed, compact_bay}
use Rattle.bay.specs.Bytes.{encode_cell}
use Rattle.bay.specs.Sound.{bytes_of, cells_of, cell_at, IsBay, Stepped}
use Rattle.bay.proofs.BayBytes.{bay-end, bytes-long, free-zeros}
use Rattle.slide.specs.ZoneBay.{owner_of, set_one, set_all, Low, IsLow, is_low, bay_cells, ZoneBay, settled}
use Rattle.slide.specs.blank.Between.{Hole, nothing, zeros}
use Rattle.slide.specs.run.Run.{BayAhead, bay_ahead, run_down, RunPassed, at_free, at_held, RunEnds}
use Rattle.slide.proofs.Master.{one_left, one-take, one-drop, one-length, Here, here_in}
use Rattle.slide.proofs.MasterLaws.{low-is, all_cons}
use Rattle.slide.proofs.Change.{kept-now}
use Rattle.slide.proofs.Compact.{compact-keeps}
use Rattle.slide.proofs.One.{set-gap}
use Rattle.slide.proofs.Cases.{free_is, not-fixed, free-sum, held-sum}
use Rattle.slide.proofs.run.Down.{ahead-cell, stepped-in}

-- the held cells of cs one after the other, then k free bytes
abbrev pub packs : List Cell → ℕ → List Cell
packs cs k = packed (items cs) (gap k [])

-- the bytes f, then the cells t from offset p on, then the bytes r, and the masters of those cells follow
abbrev pub placed : List ℕ → ℕ → List Cell → List ℕ → List ℕ
placed f p t r = set_all p t (f ++ (bytes_of t ++ r))

-- of the bay of z₀ from a to e what stands below `at` has been passed, and the run is as it is told
pub record Walked (z₀ : List ℕ) (a e : ℕ) (z : List ℕ) (to from hole at : ℕ) : Type 0 where
  pub start : a ≤ to
  pub low : to ≤ hole
  pub before : hole ≤ from
  pub order : from ≤ at
  pub within : at ≤ e
  pub inside : e ≤ length z
  pub long : length z ≡ length z₀
  pub short : length z ≤ longest_zone
  pub four : (from - to) % 4 ≡ 0
  pub free : Hole z hole from
  pub after : drop e z ≡ drop e z₀
  pub bay : IsBay (drop at (take e z))
  pub lows : IsLow a (cells_of (drop at (take e z)))
  pub sum : from + bay_sum (cells_of (drop at (take e z))) ≡ to + bay_sum (bay_cells z₀ a e)
  pub bytes : placed (run_down z to from at) (to + (at - from)) (packs (cells_of (drop at (take e z))) (bay_sum (bay_cells z₀ a e))) (drop e z) ≡ settled z₀ a (compact_bay (bay_cells z₀ a e))

pub walk_start : (z : List ℕ) (a e : ℕ) → ZoneBay z a e → Walked z a e z a a a a
unfolding settled
walk_start z a e b =
    let cs = bay_cells z a e in
    let t = compact_bay cs in
    let n : a - a ≡ 0 = omega arith in
    let m : a + (a - a) ≡ a = omega arith in
    let dt : drop a (take e z) ≡ slice z a (e - a) = drop-take a e z in
    let kc = compact-keeps a (e - a) cs (omega (arith, b.inside, b.short)) (kept-now z a e b) in
    let l : a + length (bytes_of t) ≡ e = omega (arith, bytes-long t kc.sound, kc.size, b.order) in
    record {
      start = omega arith;
      low = omega arith;
      before = omega arith;
      order = omega arith;
      within = b.order;
      inside = b.inside;
      long = refl;
      short = b.short;
      four = omega arith;
      free = nothing refl;
      after = refl;
      bay = rw dt b.bay;
      lows = rw dt b.low;
      sum = rw dt;
      bytes = rw (dt, m, n) (ap (set_all a t) (ap (◌++ (bytes_of t ++ drop e z)) (append-nil (take a z)) ∙ sym (append_assoc (take a z) (bytes_of t) (drop e z)) ∙ ap (λ (j : ℕ). take a z ++ bytes_of t ++ drop j z) (sym l)));
    }

pub walk-ahead : (z₀ : List ℕ) (a e : ℕ) (z : List ℕ) (to from hole at : ℕ) → Walked z₀ a e z to from hole at → at < e → BayAhead z at
walk-ahead z₀ a e z to from hole at w l = bay_ahead e l w.inside w.bay

-- no fixed block stands in a bay
pub walk-movable : (z₀ : List ℕ) (a e : ℕ) (z : List ℕ) (to from hole at : ℕ) → Walked z₀ a e z to from hole at → at < e → type_of (drop at z) ≡ fixed_code → ⊥
walk-movable z₀ a e z to from hole at w l q = not-fixed (cell_at z at) ((ahead-cell z at (walk-ahead z₀ a e z to from hole at w l)).code ∙ q)

-- ---- by cases on one block: free or held

free-packs : (c : Cell) (cs : List Cell) (k : ℕ) → cell_code c ≡ free_code → packs (c ∷ cs) k ≡ packs cs k
free-packs (free n) cs k e = refl
free-packs (held x) cs k e = let q : ⊥ = omega (arith, (facts x).used) in absurd q

held-packs : (c : Cell) (cs : List Cell) (k : ℕ) → (cell_code c ≡ free_code → ⊥) → packs (c ∷ cs) k ≡ c ∷ packs cs k
held-packs (free n) cs k e = absurd (e refl)
held-packs (held x) cs k e = refl

-- a free block stands where nothing is written
hole-kept : (z z' : List ℕ) (a b : ℕ) → ((j : ℕ) → a ≤ j → drop j z' ≡ drop j z) → Hole z a b → Hole z' a b
hole-kept z z' a b d (nothing e) = nothing e
hole-kept z z' a b d (zeros l q) = zeros l (ap (take (b - (a + free_header))) (d (a + free_header) (omega arith)) ∙ q)

-- a held block in front: its master is set before its bytes are counted to the run
held-step : (p n : ℕ) (c c₀ : Cell) (t : List Cell) (x r d : List ℕ) → cell_size c ≡ n → c ≡ c₀ → owner_of c₀ + master_size ≤ length x
    → placed (x ++ r) p (c ∷ t) d ≡ placed (set_one p c₀ x ++ (r ++ encode_cell c)) (p + n) t d
unfolding bytes_of
held-step p n c c₀ t x r d en ec l =
    let b = bytes_of t in
    let y = (r ++ encode_cell c) ++ (b ++ d) in
    let g : (x ++ r) ++ ((encode_cell c ++ b) ++ d) ≡ x ++ y = simp append_assoc in
    all_cons p c t _ n en
    ∙ ap (set_all (p + n) t) (ap₂ (λ (k : Cell) (q : List ℕ). set_one p k q) ec g ∙ one_left p c₀ x y l ∙ sym (append_assoc (set_one p c₀ x) (r ++ encode_cell c) (b ++ d)))

-- ---- one turn

module _ (z₀ : List ℕ) (a e : ℕ) (z : List ℕ) (to from hole at n : ℕ) (w : Walked z₀ a e z to from hole at) (l : at < e) (en : n ≡ size_of (drop at z)) where
  st : Stepped (take e z) at n
  st = stepped-in z e at n w.bay l w.inside en

  abbrev c : Cell
  c = cell_at (take e z) at

  abbrev rest : List Cell
  rest = cells_of (drop (at + n) (take e z))

  abbrev k : ℕ
  k = bay_sum (bay_cells z₀ a e)

  abbrev run : List ℕ
  run = slice z from (at - from)

  here : Here z e at n
  here = here_in z e at n w.inside st

  run_long : length run ≡ at - from
  run_long = length-slice z from (at - from) (omega (arith, w.order, w.within, w.inside))

  image : encode_cell c ≡ slice z at n
  image = st.image ∙ slice-take z e at n here.fits

  kind : cell_code c ≡ type_of (drop at z)
  kind = ap cell_code here.same ∙ here.cell.code

  lows : Low a (c ∷ rest)
  lows = subst (Low a) st.cells (low-is a _ w.lows)

  low-here : owner_of (cell_at z at) + master_size ≤ a
  low-here = rw here.same at lows.0

  pub walk-master : owner_of (cell_at z at) + master_size ≤ length z
  walk-master = omega (arith, low-here, w.start, w.low, w.before, w.order, w.within, w.inside)

  -- what is left, where nothing behind `at` is written
  left-same : (z' : List ℕ) → drop (at + n) z' ≡ drop (at + n) z → drop (at + n) (take e z') ≡ drop (at + n) (take e z)
  left-same z' d = rw (drop-take (at + n) e z', drop-take (at + n) e z, d)

  pub walk-free : cell_code c ≡ free_code → (z' : List ℕ) → z' ≡ overwrite z to run → Walked z₀ a e z' (to + (at - from)) (at + n) at (at + n)
  walk-free f z' ez =
      let m = at - from in
      let d : (j : ℕ) → at ≤ j → j ≤ length z → drop j z' ≡ drop j z = λ j h g. ap (drop j) ez ∙ drop-write z to j run (omega (arith, run_long, w.low, w.before, w.order)) g in
      let dn = left-same z' (d (at + n) (omega arith) (omega (arith, here.fits, w.inside))) in
      let lz : length z' ≡ length z = len-write z run z' to ez (omega (arith, run_long, w.low, w.before, w.order, w.within, w.inside)) in
      let tz : take (to + m) z' ≡ take to z ++ run = ap (take (to + m)) ez ∙ take-write z to m run (omega (arith, w.low, w.before, w.order, w.within, w.inside)) run_long in
      let im : slice z' at n ≡ encode_cell (free n) = ap (take n) (d at (omega arith) (omega (arith, w.within, w.inside))) ∙ sym image ∙ ap encode_cell (free_is c n f st.bytes) in
      let z0 : at + n - (at + n) ≡ 0 = omega arith in
      let pm : to + m + (at + n - (at + n)) ≡ to + m = omega arith in
      let nb : at + n - (at + free_header) ≡ n - free_header = omega arith in
      record {
        start = omega (arith, w.start);
        low = omega (arith, w.low, w.before, w.order);
        before = omega arith;
        order = omega arith;
        within = here.fits;
        inside = omega (arith, w.inside);
        long = lz ∙ w.long;
        short = omega (arith, w.short);
        four = omega (arith, w.four, st.four, w.low, w.before, w.order);
        free = zeros (omega (arith, st.low)) (rw nb (free-zeros z' at n free_header (n - free_header) im (omega arith) (omega (arith, st.low))));
        after = d e w.within w.inside ∙ w.after;
        bay = rw dn st.next;
        lows = rw dn (is_low lows.1);
        sum = rw dn (omega (arith, w.sum, w.low, w.before, w.order, ap bay_sum st.cells, free-sum c rest n f st.bytes));
        bytes = rw (dn, pm, z0, tz, d e w.within w.inside) (ap (λ (x : List ℕ). placed x (to + m) (packs rest k) (drop e z)) (append-nil (take to z ++ run)) ∙ ap (λ (t : List Cell). placed (take to z ++ run) (to + m) t (drop e z)) (sym (ap (λ (cs : List Cell). packs cs k) st.cells ∙ free-packs c rest k f)) ∙ w.bytes);
      }

  pub walk-held : (cell_code c ≡ free_code → ⊥) → (z' : List ℕ) → z' ≡ set_one (to + (at - from)) (cell_at z at) z → Walked z₀ a e z' to from hole (at + n)
  walk-held f z' ez =
      let m = at - from in
      let p = to + m in
      let c₀ = cell_at z at in
      let t = packs rest k in
      let lw : owner_of c₀ + master_size ≤ to = omega (arith, low-here, w.start) in
      let lt : to ≤ length z = omega (arith, w.low, w.before, w.order, w.within, w.inside) in
      let d : (j : ℕ) → to ≤ j → drop j z' ≡ drop j z = λ j h. ap (drop j) ez ∙ one-drop z p to c₀ lw lt j h in
      let dn = left-same z' (d (at + n) (omega (arith, w.low, w.before, w.order))) in
      let lz : length z' ≡ length z = ap length ez ∙ one-length z p to c₀ lw lt in
      let tz : take to z' ≡ set_one p c₀ (take to z) = ap (take to) ez ∙ one-take z p to c₀ lw lt in
      let fm : from + m ≡ at = omega (arith, w.order) in
      let mn : at + n - from ≡ m + n = omega (arith, w.order) in
      let pn : to + (at + n - from) ≡ p + n = omega (arith, w.order) in
      let sl : slice z' from (m + n) ≡ run ++ encode_cell c = ap (take (m + n)) (d from (omega (arith, w.low, w.before))) ∙ slice-add z from m n ∙ ap (λ (j : ℕ). run ++ slice z j n) fm ∙ ap (run ++◌) (sym image) in
      let de = d e (omega (arith, w.low, w.before, w.order, w.within)) in
      record {
        start = w.start;
        low = w.low;
        before = w.before;
        order = omega (arith, w.order);
        within = here.fits;
        inside = omega (arith, w.inside);
        long = lz ∙ w.long;
        short = omega (arith, w.short);
        four = w.four;
        free = hole-kept z z' hole from (λ j h. d j (omega (arith, w.low))) w.free;
        after = de ∙ w.after;
        bay = rw dn st.next;
        lows = rw dn (is_low lows.1);
        sum = rw dn (omega (arith, w.sum, ap bay_sum st.cells, held-sum c rest f));
        bytes = rw (dn, pn, mn, tz, sl, de) (sym (held-step p n c c₀ t (take to z) run (drop e z) st.bytes here.same (omega (arith, lw, length-take-le to z lt))) ∙ ap (λ (x : List Cell). placed (take to z ++ run) p x (drop e z)) (sym (ap (λ (cs : List Cell). packs cs k) st.cells ∙ held-packs c rest k f)) ∙ w.bytes);
      }

  pub walk_more : (z' : List ℕ) (to' from' hole' : ℕ) → RunPassed z to from hole at n z' to' from' hole' → Walked z₀ a e z' to' from' hole' (at + n)
  walk_more z' to' from' hole' (at_free f ez et ef eh) = rw (et, ef, eh) (walk-free (kind ∙ f) z' ez)
  walk_more z' to' from' hole' (at_held f ez et ef eh) = rw (et, ef, eh) (walk-held (λ x. f (sym kind ∙ x)) z' ez)

-- ---- the bay's end

module _ (z₀ : List ℕ) (a e : ℕ) (z : List ℕ) (to from hole at : ℕ) (w : Walked z₀ a e z to from hole at) (h : e ≤ at) where
  same : at ≡ e
  same = omega (arith, w.within)

  none : cells_of (drop at (take e z)) ≡ []
  none = bay-end (take e z) at (omega (arith, length-take-le e z w.inside))

  pub walk-sum : from - to ≡ bay_sum (bay_cells z₀ a e)
  walk-sum = omega (arith, rw none at w.sum)

  pub walk_ends : RunEnds z to from hole e
  walk_ends = record { low = w.low; before = w.before; order = omega (arith, w.order); inside = w.inside; short = w.short; four = w.four; free = w.free }

  pub walk-done : (z' : List ℕ) → z' ≡ run_down z to from e ++ (bytes_of (gap (from - to) []) ++ drop e z) → z' ≡ settled z₀ a (compact_bay (bay_cells z₀ a e))
  walk-done z' q =
      let k = bay_sum (bay_cells z₀ a e) in
      let f = run_down z to from at ++ (bytes_of (gap k []) ++ drop e z) in
      q
      ∙ ap₂ (λ (i j : ℕ). run_down z to from i ++ (bytes_of (gap j []) ++ drop e z)) (sym same) walk-sum
      ∙ sym (set-gap (to + (at - from)) k f)
      ∙ ap (λ (cs : List Cell). placed (run_down z to from at) (to + (at - from)) (packs cs k) (drop e z)) (sym none)
      ∙ w.bytes
