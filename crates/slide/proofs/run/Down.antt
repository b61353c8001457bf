-- A run goes down, in one turn of the walk and at the bay's end.
use mathlib.Core.Path.{◌≡◌, refl, sym, ap, ap₂, ◌∙◌, subst}
use mathlib.Core.List.{List, [], ◌++◌}
use mathlib.Core.Bool.{Bool, true, false, cond}
use Prim.Native.Nat.{ℕ, ◌+◌, ◌-◌, ◌%◌, ◌<◌, ◌≤◌}
use native.Mathlib.Omega.{arith}
use borrow.Author.Tests.{ltb-false}
use lib.Dec.{ltb}
use lib.ListN.{length, take, drop, take-append-drop}
use lib.Seq.{drop-drop, length-take-le}
use Rattle.block_type.specs.Limits.{free_code, free_header, smallest_block, longest_zone}
use Rattle.bigendian.specs.BigEndian.{slice, overwrite}
use Rattle.bigendian.proofs.Overwrite.{write-left, write-right, write-still, write-none, take-write, drop-write, len-write}
use Rattle.bigendian.proofs.Parts.{length-slice, slice-take, drop-take}
use Rattle.format.specs.WellFormed.{type_of, size_of}
use Rattle.format.proofs.Walk.{size-take}
use Rattle.bay.specs.Bay.{gap}
use Rattle.bay.specs.Sound.{bytes_of, cell_at, IsBay, Stepped}
use Rattle.bay.proofs.BayBytes.{bay-fits, stepped}
use Rattle.slide.specs.ZoneBay.{set_one}
use Rattle.slide.specs.Masters.{CellHere}
use Rattle.slide.specs.blank.Between.{Hole, nothing, zeros}
use Rattle.slide.specs.run.Run.{BayAhead, bay_ahead, run_down, RunPassed, at_free, at_held, RunEnds}
use Rattle.slide.proofs.Master.{here_in}

-- ---- the block ahead

pub stepped-in : (z : List ℕ) (e at n : ℕ) → IsBay (drop at (take e z)) → at < e → e ≤ length z → n ≡ size_of (drop at z) → Stepped (take e z) at n
stepped-in z e at n b l u en =
    let le = length-take-le e z u in
    let f : free_header ≤ e - at = omega (arith, bay-fits (take e z) at b (omega (arith, le)), le) in
    stepped (take e z) at n b (omega (arith, le)) (en ∙ sym (ap size_of (drop-take at e z) ∙ size-take (e - at) (drop at z) f))

pub ahead-cell : (z : List ℕ) (at : ℕ) → BayAhead z at → CellHere z at
ahead-cell z at (bay_ahead e l u b) = (here_in z e at (size_of (drop at z)) u (stepped-in z e at (size_of (drop at z)) b l u refl)).cell

pub ahead-fits : (z : List ℕ) (at : ℕ) → BayAhead z at → at + smallest_block ≤ length z
ahead-fits z at b = let h = ahead-cell z at b in omega (arith, h.low, h.fits)

-- ---- a part is lent

-- a part of a part
part_slice : (z : List ℕ) (to end from : ℕ) → to ≤ from → from ≤ end → slice (slice z to (end - to)) (from - to) (end - from) ≡ slice z from (end - from)
part_slice z to end from l u =
    let e : to + (from - to) ≡ from = omega arith in
    slice-take (drop to z) (end - to) (from - to) (end - from) (omega arith)
    ∙ ap (take (end - from)) (drop-drop (from - to) to z ∙ ap (λ (k : ℕ). drop k z) e)

-- a write at the start of a part
part-write : (z b : List ℕ) (to end : ℕ) → to ≤ end → end ≤ length z → length b ≤ end - to
    → take to z ++ (overwrite (slice z to (end - to)) 0 b ++ drop (end - to) (drop to z)) ≡ overwrite z to b
part-write z b to end l u f =
    let s = slice z to (end - to) in
    let r = drop (end - to) (drop to z) in
    let n : length s ≡ end - to = length-slice z to (end - to) (omega arith) in
    let k : length (take to z) + 0 ≡ to = omega (arith, length-take-le to z (omega arith)) in
    ap (take to z ++◌) (sym (write-left s r b 0 (omega arith)) ∙ ap (λ (y : List ℕ). overwrite y 0 b) (take-append-drop (end - to) (drop to z)))
    ∙ sym (write-right (take to z) (drop to z) b 0)
    ∙ ap₂ (λ (y : List ℕ) (o : ℕ). overwrite y o b) (take-append-drop to z) k

module _ (z : List ℕ) (to from end : ℕ) (l : to ≤ from) (u : from ≤ end) (f : end ≤ length z) where
  pub down-some : (y : List ℕ) → y ≡ overwrite (slice z to (end - to)) 0 (slice (slice z to (end - to)) (from - to) (end - from))
      → take to z ++ (y ++ drop (end - to) (drop to z)) ≡ overwrite z to (slice z from (end - from))
  down-some y e =
      let b = slice z from (end - from) in
      rw (e, part_slice z to end from l u) (part-write z b to end (omega arith) f (omega (arith, length-slice z from (end - from) (omega arith))))

  pub down-none : from ≤ to → z ≡ overwrite z to (slice z from (end - from))
  down-none h =
      let e : to ≡ from = omega arith in
      rw e (write-still z from (end - from) (omega arith))

-- ---- one turn

module _ (z z' : List ℕ) (to from hole at n k : ℕ) (ek : k ≡ type_of (drop at z)) where
  pub pass-free : k ≡ free_code → z' ≡ overwrite z to (slice z from (at - from)) → RunPassed z to from hole at n z' (to + (at - from)) (at + n) at
  pass-free e q = at_free (sym ek ∙ e) q refl refl refl

  pub pass-held : (k ≡ free_code → ⊥) → z' ≡ set_one (to + (at - from)) (cell_at z at) z → RunPassed z to from hole at n z' to from hole
  pass-held e q = at_held (λ x. e (ek ∙ x)) q refl refl refl

-- ---- the bay's end

-- the free block of a part
hole-part : (z : List ℕ) (p a b : ℕ) → p ≤ a → b ≤ length z → Hole z a b → Hole (slice z p (b - p)) (a - p) (b - p)
hole-part z p a b l u (nothing e) = nothing (ap (◌- p) e)
hole-part z p a b l u (zeros f q) =
    let n : b - p - (a - p + free_header) ≡ b - (a + free_header) = omega arith in
    let m : p + (a - p + free_header) ≡ a + free_header = omega arith in
    let s : slice (slice z p (b - p)) (a - p + free_header) (b - (a + free_header)) ≡ slice z (a + free_header) (b - (a + free_header)) =
    slice-take (drop p z) (b - p) (a - p + free_header) (b - (a + free_header)) (omega arith) ∙ ap (take (b - (a + free_header))) (drop-drop (a - p + free_header) p z ∙ ap (λ (k : ℕ). drop k z) m) in
    zeros (omega arith) (rw n (s ∙ q))

module _ (z z₁ : List ℕ) (to from hole e : ℕ) (r : RunEnds z to from hole e) (e₁ : z₁ ≡ overwrite z to (slice z from (e - from))) where
  abbrev end : ℕ
  end = to + (e - from)

  abbrev run : List ℕ
  run = slice z from (e - from)

  run_long : length run ≡ e - from
  run_long = length-slice z from (e - from) (omega (arith, r.order, r.inside))

  down-long : length z₁ ≡ length z
  down-long = len-write z run z₁ to e₁ (omega (arith, run_long, r.low, r.before, r.order, r.inside))

  -- what is left behind the run
  abbrev part : List ℕ
  part = take (e - (to + (e - from))) (drop (to + (e - from)) z₁)

  pub part-long : length part ≡ from - to
  part-long = length-slice z₁ end (e - end) (omega (arith, down-long, r.low, r.before, r.order, r.inside)) ∙ omega (arith, r.low, r.before, r.order)

  pub end-used : (used : ℕ) → used ≡ cond (ltb from e) e hole → to + (e - from) ≤ used
  end-used used eu = go (ltb from e) refl eu
    where
      go : (t : Bool) → ltb from e ≡ t → used ≡ cond t e hole → to + (e - from) ≤ used
      go true q u = omega (arith, r.low, r.before, r.order)
      go false q u = omega (arith, ltb-false from e q, r.low)

  pub end-within : (used : ℕ) → used ≡ cond (ltb from e) e hole → used - (to + (e - from)) ≤ length part
  end-within used eu = go (ltb from e) eu
    where
      go : (t : Bool) → used ≡ cond t e hole → used - (to + (e - from)) ≤ length part
      go true u = omega (arith, part-long, r.low, r.before, r.order)
      go false u = omega (arith, part-long, r.low, r.before, r.order)

  pub end_short : length part ≤ longest_zone
  end_short = omega (arith, part-long, r.order, r.inside, r.short)

  pub end-four : length part % 4 ≡ 0
  end-four = rw part-long r.four

  pub end-free : (used : ℕ) → used ≡ cond (ltb from e) e hole → Hole part (used - (to + (e - from))) (length part)
  end-free used eu = go (ltb from e) refl eu
    where
      go : (t : Bool) → ltb from e ≡ t → used ≡ cond t e hole → Hole part (used - (to + (e - from))) (length part)
      go true q u = nothing (omega (arith, part-long, r.low, r.before, r.order))
      go false q u =
          let g : from ≡ e = omega (arith, ltb-false from e q, r.order) in
          let m : e - from ≡ 0 = omega arith in
          let k : to + (e - from) ≡ to = omega arith in
          let same : z₁ ≡ z = e₁ ∙ ap (λ (j : ℕ). overwrite z to (slice z from j)) m ∙ write-none z to in
          let n : length (slice z to (e - to)) ≡ e - to = length-slice z to (e - to) (omega (arith, r.low, r.before, r.order, r.inside)) in
          rw (u, k, same, n) (hole-part z to hole e r.low r.inside (subst (Hole z hole) g r.free))

  pub end-done : (y : List ℕ) → y ≡ bytes_of (gap (length part) []) → take (to + (e - from)) z₁ ++ (y ++ drop (e - (to + (e - from))) (drop (to + (e - from)) z₁)) ≡ run_down z to from e ++ (bytes_of (gap (from - to) []) ++ drop e z)
  end-done y ey =
      let t : take end z₁ ≡ run_down z to from e = ap (take end) e₁ ∙ take-write z to (e - from) run (omega (arith, r.low, r.before, r.order, r.inside)) run_long in
      let k : end + (e - end) ≡ e = omega (arith, r.low, r.before, r.order) in
      let d : drop (e - end) (drop end z₁) ≡ drop e z =
      drop-drop (e - end) end z₁ ∙ ap (λ (j : ℕ). drop j z₁) k ∙ ap (drop e) e₁ ∙ drop-write z to e run (omega (arith, run_long, r.low, r.before, r.order)) r.inside in
      rw (ey, part-long, t, d)
