-- What each call keeps: the zone fits its buffer and the limits, and the buffer keeps its length.
use mathlib.Core.Path.{◌≡◌}
use Prim.Native.Nat.{ℕ, ◌≤◌}
use native.Mathlib.Omega.{arith}
use Rattle.bay.proofs.Each.{each_weaken}
use Rattle.block_type.specs.Limits.{longest_zone}
use Rattle.calls.specs.State.{new_item}
use Rattle.calls.specs.Pages.{new_page}
use Rattle.zone.specs.Search.{lookup, place_low, place_high, join_at, resize_in}
use Rattle.zone.proofs.Walk.{Closed, any}
use Rattle.zone.specs.Work.{Zone}

-- the zone fits its buffer
pub record Bounded (z : Zone) : Type 0 where
  pub within : z.len ≤ z.buf
  pub limit : z.len ≤ longest_zone

pub bounded_closed : Closed Bounded
bounded_closed = record {
  low = λ z h hs c lim q g. each_weaken (λ b u. record { within = g.within; limit = g.limit }) (any (place_low (new_item h c) z.bays));
  high = λ z n b lim g. each_weaken (λ r u. record { within = g.within; limit = g.limit }) (any (place_high n z.len z.bays));
  drop = λ z h g. each_weaken (λ e u. record { within = g.within; limit = g.limit }) (any (lookup h z));
  join = λ z p g. each_weaken (λ b u. record { within = g.within; limit = g.limit }) (any (join_at p z.bays));
  edit = λ z ok f y g. record { within = g.within; limit = g.limit };
  page = λ z n ck c i lim k a g. each_weaken (λ b u. record { within = g.within; limit = g.limit }) (any (place_low (new_page n ck c) z.bays));
  clear = λ z ok f g. record { within = g.within; limit = g.limit };
  step = λ z g. record { within = g.within; limit = g.limit };
  edit-fixed = λ z p f y g. record { within = g.within; limit = g.limit };
  resize = λ z h a q g. each_weaken (λ e u lim. each_weaken (λ b u. record { within = g.within; limit = g.limit }) (any (resize_in h a e z.bays))) (any (lookup h z));
  compact_bay = λ z g. record { within = g.within; limit = g.limit };
  grow = λ z n q l m g. record { within = l; limit = m };
  take_high = λ z j n q g. record { within = omega (arith, g); limit = omega (arith, g) };
}

-- no call changes the buffer's length
pub record Long (n : ℕ) (z : Zone) : Type 0 where
  pub long : z.buf ≡ n

pub long-closed : (n : ℕ) → Closed (Long n)
long-closed n = record {
  low = λ z h hs c lim q g. each_weaken (λ b u. record { long = g.long }) (any (place_low (new_item h c) z.bays));
  high = λ z n b lim g. each_weaken (λ r u. record { long = g.long }) (any (place_high n z.len z.bays));
  drop = λ z h g. each_weaken (λ e u. record { long = g.long }) (any (lookup h z));
  join = λ z p g. each_weaken (λ b u. record { long = g.long }) (any (join_at p z.bays));
  edit = λ z ok f y g. record { long = g.long };
  page = λ z n ck c i lim k a g. each_weaken (λ b u. record { long = g.long }) (any (place_low (new_page n ck c) z.bays));
  clear = λ z ok f g. record { long = g.long };
  step = λ z g. record { long = g.long };
  edit-fixed = λ z p f y g. record { long = g.long };
  resize = λ z h a q g. each_weaken (λ e u lim. each_weaken (λ b u. record { long = g.long }) (any (resize_in h a e z.bays))) (any (lookup h z));
  compact_bay = λ z g. record { long = g.long };
  grow = λ z n q l m g. record { long = g.long };
  take_high = λ z j n q g. record { long = g.long };
}
