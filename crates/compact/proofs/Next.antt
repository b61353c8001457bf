-- The walk that compacts one bay stops where the bay ends.
use mathlib.Core.Path.{◌≡◌, refl, sym, ap, ◌∙◌, subst}
use mathlib.Core.Bool.{Bool, true, false, not}
use mathlib.Core.List.{List, [], ◌++◌}
use Prim.Native.Nat.{ℕ, suc, ◌+◌, ◌-◌, ◌<◌, ◌≤◌}
use native.Mathlib.Omega.{arith}
use borrow.Author.Tests.{eq-eqb, ne_eqb, lt-ltb, le-ltb, ltb-true, ltb-false}
use lib.Dec.{ltb}
use lib.ListN.{length, drop}
use Rattle.block_type.specs.Types.{type_code}
use Rattle.block_type.specs.declared.BlockType.{BlockType}
use Rattle.block_type.specs.declared.BlockType.TheVariants.{Fixed}
use Rattle.block_type.proofs.Types.{same, fixed-test}
use Rattle.block_type.specs.Limits.{smallest_block, fixed_code, master_size}
use Rattle.format.specs.WellFormed.{type_of, size_of}
use Rattle.bay.specs.Bay.{Cell, bay_sum, gap, compact_bay}
use Rattle.bay.specs.Sound.{bytes_of, cell_at}
use Rattle.slide.specs.ZoneBay.{owner_of, settled}
use Rattle.slide.specs.run.Run.{BayAhead, run_down, RunPassed, RunEnds}
use Rattle.slide.proofs.run.Walk.{Walked, walk-ahead, walk-movable, walk-master, walk_more, walk-sum, walk_ends, walk-done}
use Rattle.compact.specs.Next.{end_from, goes_on, next_after, Ended, BayNext, BayCompacted}

-- ---- whether a bay goes on, and where the next one begins

module _ (z : List ℕ) (at : ℕ) where
  pub on-end : length z ≤ at → false ≡ goes_on z at
  unfolding goes_on
  on-end l = rw (le-ltb at (length z) l)

  pub on-past : length z ≤ at → ltb at (length z) ≡ goes_on z at
  on-past l = le-ltb at (length z) l ∙ on-end l

  pub on-fixed : (t : ℕ) → at < length z → t ≡ type_of (drop at z) → t ≡ fixed_code → false ≡ goes_on z at
  unfolding goes_on
  on-fixed t l et q = rw (lt-ltb at (length z) l, ← et, eq-eqb t fixed_code q)

  pub on-block : (k : BlockType) (t : Bool) → at < length z → type_code k ≡ type_of (drop at z) → t ≡ not (same k Fixed) → t ≡ goes_on z at
  unfolding goes_on
  on-block k t l ek e = rw (lt-ltb at (length z) l, ← ek) (e ∙ ap not (fixed-test k (same k Fixed) refl))

  pub on-cell : (t : ℕ) → at < length z → t ≡ type_of (drop at z) → (t ≡ fixed_code → ⊥) → true ≡ goes_on z at
  unfolding goes_on
  on-cell t l et q = rw (lt-ltb at (length z) l, ← et, ne_eqb t fixed_code q)

  pub after-end : length z ≤ at → at + 1 ≡ next_after z at
  unfolding next_after
  after-end l = rw (le-ltb at (length z) l)

  pub after-fixed : (n : ℕ) → at < length z → n ≡ size_of (drop at z) → at + n ≡ next_after z at
  unfolding next_after
  after-fixed n l en = rw (lt-ltb at (length z) l, ← en)

  pub ended-fits : Ended z at → at < length z → at + smallest_block ≤ length z
  ended-fits d l = omega (arith, d.block l, d.fits)

  -- the next bay is above, and the bytes hold it, or nothing is left
  record Above : Type 0 where
    up : at < next_after z at
    near : next_after z at ≤ suc (length z)

  above : Ended z at → Above
  unfolding next_after
  above d = go (ltb at (length z)) refl
    where
      go : (t : Bool) → ltb at (length z) ≡ t → Above
      go true h =
          let l = ltb-true at (length z) h in
          let e = after-fixed (size_of (drop at z)) l refl in
          record { up = omega (arith, e, d.block l); near = omega (arith, e, d.fits) }
      go false h =
          let e = after-end (ltb-false at (length z) h) in
          record { up = omega (arith, e); near = omega (arith, e, d.inside) }

-- ---- the walk

never : true ≡ false → ⊥
never q = let e : ◌≡◌ {A = ℕ} 0 1 = cc q in omega arith

module _ (z₀ : List ℕ) (a : ℕ) (b : BayNext z₀ a) (z : List ℕ) (to from hole at : ℕ) (w : Walked z₀ a (end_from z₀ a) z to from hole at) where
  abbrev e : ℕ
  e = end_from z₀ a

  -- what stands at the bay's end stays
  same-on : goes_on z (end_from z₀ a) ≡ goes_on z₀ (end_from z₀ a)
  unfolding goes_on
  same-on = rw (w.long, w.after)

  same_after : next_after z (end_from z₀ a) ≡ next_after z₀ (end_from z₀ a)
  unfolding next_after
  same_after = rw (w.long, w.after)

  module _ (t : Bool) (et : t ≡ goes_on z at) where
    inside-bay : t ≡ true → at < end_from z₀ a
    inside-bay q = go (ltb at (end_from z₀ a)) refl
      where
        go : (x : Bool) → ltb at (end_from z₀ a) ≡ x → at < end_from z₀ a
        go true h = ltb-true at (end_from z₀ a) h
        go false h =
            let p : at ≡ end_from z₀ a = omega (arith, ltb-false at (end_from z₀ a) h, w.within) in
            absurd (never (sym q ∙ et ∙ ap (goes_on z) p ∙ same-on ∙ b.stop))

    pub next-ahead : t ≡ true → BayAhead z at
    next-ahead q = walk-ahead z₀ a e z to from hole at w (inside-bay q)

    pub next-master : t ≡ true → owner_of (cell_at z at) + master_size ≤ length z
    next-master q = walk-master z₀ a e z to from hole at (size_of (drop at z)) w (inside-bay q) refl

    pub next_more : t ≡ true → (n : ℕ) → n ≡ size_of (drop at z) → (z' : List ℕ) (to' from' hole' : ℕ) → RunPassed z to from hole at n z' to' from' hole' → Walked z₀ a (end_from z₀ a) z' to' from' hole' (at + n)
    next_more q n en z' to' from' hole' p = walk_more z₀ a e z to from hole at n w (inside-bay q) en z' to' from' hole' p

    -- the bay's end
    module _ (q : t ≡ false) where
      bay-end : at ≡ end_from z₀ a
      bay-end = go (ltb at (end_from z₀ a)) refl
        where
          go : (x : Bool) → ltb at (end_from z₀ a) ≡ x → at ≡ end_from z₀ a
          go true h =
              let l = ltb-true at (end_from z₀ a) h in
              absurd (never (on-cell z at (type_of (drop at z)) (omega (arith, w.inside)) refl (walk-movable z₀ a e z to from hole at w l) ∙ sym et ∙ q))
          go false h = omega (arith, ltb-false at (end_from z₀ a) h, w.within)

      past : end_from z₀ a ≤ at
      past = omega (arith, bay-end)

      pub stop-ended : Ended z at
      stop-ended =
          let d = b.ended in
          let s : size_of (drop at z) ≡ size_of (drop (end_from z₀ a) z₀) = ap (λ (j : ℕ). size_of (drop j z)) bay-end ∙ ap size_of w.after in
          record {
            inside = omega (arith, bay-end, w.inside);
            short = w.short;
            fits = omega (arith, s, bay-end, d.fits, w.long);
            block = λ l. omega (arith, s, d.block (omega (arith, bay-end, w.long)));
          }

      pub stop-run : RunEnds z to from hole at
      stop-run = subst (RunEnds z to from hole) (sym bay-end) (walk_ends z₀ a e z to from hole at w past)

      pub stop-done : (z' : List ℕ) (end next : ℕ) → end ≡ to + (at - from) → next ≡ next_after z at → z' ≡ run_down z to from at ++ (bytes_of (gap (from - to) []) ++ drop at z) → BayCompacted z₀ a z' (at - end) next
      stop-done z' end next ee en y =
          let n : next ≡ next_after z₀ (end_from z₀ a) = en ∙ ap (next_after z) bay-end ∙ same_after in
          let u = above z₀ (end_from z₀ a) b.ended in
          record {
            bytes = walk-done z₀ a e z to from hole at w past z' (y ∙ ap (λ (j : ℕ). run_down z to from j ++ (bytes_of (gap (from - to) []) ++ drop j z)) bay-end) ∙ ap (λ (cs : List Cell). settled z₀ a (compact_bay cs)) b.cells;
            sum_is = omega (arith, walk-sum z₀ a e z to from hole at w past, ap bay_sum b.cells, w.low, w.before, w.order);
            next_is = n ∙ b.after;
            forth = omega (arith, n, u.up, bay-end, w.start, w.low, w.before, w.order);
            near = omega (arith, n, u.near);
          }
