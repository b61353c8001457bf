-- The zone in a buffer's bytes, and that a call which nothing refuses is done in it.
use Rattle.std.specs.Prelude.{◌≡◌, true, List, ℕ}
use Rattle.structure.specs.Structure.{Structure, decode_zone}
use Rattle.calls.specs.Calls.{Call, Answer}
use Rattle.calls.specs.Table.{refusal_of}
use Rattle.zone.specs.Work.{Zone, facts, work}
use Rattle.zone.specs.Call.{in_bays, in_line}

-- the zone in the bytes z, in a buffer of `buf` bytes
abbrev pub zone_at : ℕ → List ℕ → Zone
zone_at buf z = in_bays buf (decode_zone z)

-- nothing refuses the call: it answers a, and leaves the structure u
pub record Does (c : Call) (buf : ℕ) (z : List ℕ) (a : Answer) (u : Structure) : Type 0 where
  pub passed : refusal_of c (facts true (zone_at buf z)) ≡ 0
  pub answer : (work c (zone_at buf z)).answer ≡ a
  pub line : in_line (work c (zone_at buf z)).next ≡ u
