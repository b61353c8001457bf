-- What a walk from bay to bay gives.
use Rattle.std.specs.Prelude.{◌≡◌, suc, ◌-◌, ◌≤◌, length, Option, Some, None}
use Rattle.std.specs.Iterator.{Count, at_most}
use Rattle.block_type.specs.Limits.{longest_zone}
use Rattle.bays.specs.declared.Bay.{Bay}
use Rattle.bays.specs.declared.Bays.{Bays}
use Rattle.bays.specs.Read.{Read, Begins, next_in}

abbrev pub CanRead : Bays → Type 0
CanRead s = Begins s.bytes.now s.next × (length s.bytes.now ≤ longest_zone)

-- the bay b, and the walk t goes on behind it
pub record Gives (s : Bays) (b : Bay) (t : Bays) : Type 0 where
  pub here : s.next ≡ Some b.start
  pub read : Read s.bytes.now b.start b.end b.sum b.tail (next_in s.bytes.now t.next)
  pub begins : Begins s.bytes.now t.next
  pub same : t.bytes.now ≡ s.bytes.now

-- the bay that begins at s.next, or none behind the last
abbrev pub GivesBay : Bays → Option Bay → Bays → Type 0
GivesBay s None t = (s.next ≡ None) × (t ≡ s)
GivesBay s (Some b) t = Gives s b t

abbrev pub bays_left : Bays → Count
bays_left s = at_most (suc (length s.bytes.now) - next_in s.bytes.now s.next)
