-- The halving: the least limit that is enough stays between the two, and is found where they meet.
use Rattle.std.proofs.Common.{◌≡◌, ℕ, ◌+◌, ◌/◌, ◌<◌, ◌≤◌, Bool, true, false, ltb, List, refl, arith, ltb-false, ltb-true}
use Rattle.calls.specs.Bays.{Bays}
use Rattle.calls.specs.State.{Fixed}
use Rattle.bay.specs.Bay.{Cell}
use Rattle.turn.specs.Rank.{rank_range}
use Rattle.turn.specs.Limit.{sum_below, Weighed, Least, Between, Nearer}

module _ (ck need : ℕ) (s : Bays (List Cell) Fixed) where
  -- a limit that is enough is none below `low`, where none of those is
  from_low : (low t : ℕ) → ((u : ℕ) → u < low → sum_below ck u s < need) → need ≤ sum_below ck t s → low ≤ t
  from_low low t f e = go (ltb t low) refl
    where
      go : (b : Bool) → ltb t low ≡ b → low ≤ t
      go true q = absurd (omega (arith, f t (ltb-true t low q)))
      go false q = ltb-false t low q

  module _ (low high r under over : ℕ) (b : Between ck need low high s) (l : low < high) (w : Weighed ck ((low + high) / 2) s r under over) where
    pub halve-low : need ≤ r → Nearer ck need low high low under s
    halve-low m = record { between = record { enough = enough; less = b.less; order = from_low low under b.less enough; top = omega (arith, w.to, b.top) }; near = omega (arith, w.to) }
      where
        enough : need ≤ sum_below ck under s
        enough = omega (arith, w.sum_is, w.same)

    pub halve-high : r < need → Nearer ck need low high over high s
    halve-high m = record { between = record { enough = b.enough; less = less; order = from_low over high less b.enough; top = b.top }; near = omega (arith, w.past) }
      where
        less : (u : ℕ) → u < over → sum_below ck u s < need
        less u v = omega (arith, w.sum_is, w.next u v)

  -- from the walk with the highest limit; with the limit 0 no page goes
  pub halve-start : (r high over : ℕ) → sum_below ck 0 s < need → Weighed ck rank_range s r high over → need ≤ r → Between ck need 1 high s
  halve-start r high over l w m = record { enough = enough; less = less; order = from_low 1 high less enough; top = w.to }
    where
      enough : need ≤ sum_below ck high s
      enough = omega (arith, w.sum_is, w.same)

      less : (u : ℕ) → u < 1 → sum_below ck u s < need
      less u v = let e : u ≡ 0 = omega arith in rw e l

  pub halve-done : (low high : ℕ) → Between ck need low high s → high ≤ low → Least ck need low s
  halve-done low high b l =
      let e : high ≡ low = omega (arith, b.order) in
      record { enough = rw (← e) b.enough; less = b.less; top = omega (arith, b.top) }
