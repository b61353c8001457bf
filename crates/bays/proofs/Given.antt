-- A walk from bay to bay by an iterator, in the terms of the bytes that it began with.
use Rattle.std.proofs.Common.{ℕ, ◌≡◌, ◌≤◌, List, length, drop, Option, Some, ap, ◌∙◌}
use Rattle.access.specs.row.Row.{Row}
use Rattle.bays.specs.declared.Bay.{Bay}
use Rattle.bays.specs.declared.Bays.{Bays}
use Rattle.bays.specs.Read.{Read, Begins, next_in}
use Rattle.bays.specs.Given.{Gives}

pub begins-at : (z : List ℕ) (o : Option ℕ) (p : ℕ) → o ≡ Some p → Begins z o → Row (drop p z) × (p ≤ length z)
begins-at z o p e b = rw e at b

-- a bay b of z, given from s
pub record Gave (z : List ℕ) (s t : Bays) (b : Bay) : Type 0 where
  pub at : next_in z s.next ≡ b.start
  pub inside : b.start ≤ length z
  pub read : Read z b.start b.end b.sum b.tail (next_in z t.next)
  pub same : t.bytes.now ≡ z
  pub begins : Begins z t.next

pub gave : (z : List ℕ) (s t : Bays) (b : Bay) → s.bytes.now ≡ z → Begins z s.next → Gives s b t → Gave z s t b
gave z s t b e i g =
    record {
      at = ap (next_in z) g.here;
      inside = (begins-at z s.next b.start g.here i).1;
      read = rw e at g.read;
      same = g.same ∙ e;
      begins = rw e at g.begins;
    }

-- where a walk from `first` on begins
pub begun : (z : List ℕ) (first : ℕ) (s r : Bays) → s ≡ r → r.bytes.now ≡ z → r.next ≡ Some first → (s.bytes.now ≡ z) × (s.next ≡ Some first)
begun z first s r e b a = (ap (λ (x : Bays). x.bytes.now) e ∙ b, ap (λ (x : Bays). x.next) e ∙ a)
