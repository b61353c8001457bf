-- A search that may find nothing finds nothing exactly where the table's cause holds: the lowest and the highest bay that reach a size, and the fixed
-- block that a pointer names.
use mathlib.Core.Bool.{Bool, true, false, cond, ◌&&◌, not, and_comm}
use mathlib.Core.Option.{Option, none, some}
use Prim.Native.Nat.{ℕ}
use lib.Dec.{leb}
use Rattle.calls.specs.Bays.{Bays, last, more, over, or_else, find_f, max_s}
use Rattle.calls.specs.Table.{below, is_none}
use Rattle.calls.proofs.Reach.{below-max}
use Rattle.zone.specs.PickBays.{on_low, on_high, glue, on_join}

-- whether nothing is there: a DATA type, so that its implicit arguments are found
pub data Missing {A : Type 0} : Bool → Option A → Type 0 where
  gone : Missing true none
  there : {a : A} → Missing false (some a)

pub one-missing : {A : Type 0} (t : Bool) (a : A) → Missing (not t) (cond t (some a) none)
one-missing true a = there
one-missing false a = gone

pub cond-missing : {A : Type 0} (t : Bool) {u : Bool} (a : A) {o : Option A} → Missing u o → Missing (not t && u) (cond t (some a) o)
cond-missing true a m = there
cond-missing false a m = m

pub over-missing : {A B : Type 0} (f : A → B) {t : Bool} {o : Option A} → Missing t o → Missing t (over f o)
over-missing f gone = gone
over-missing f there = there

pub else-missing : {A : Type 0} {t u : Bool} {o p : Option A} → Missing t o → Missing u p → Missing (t && u) (or_else o p)
else-missing gone q = q
else-missing there q = there

-- ---- the lowest and the highest bay that reach n, and the fixed block that a pointer names

module _ {B F : Type 0} (μ : B → ℕ) (n : ℕ) (f : B → B) where
  pub low-missing : (s : Bays B F) → Missing (below (max_s μ s) n) (on_low (λ (b : B). leb n (μ b)) f s)
  low-missing (last b) = one-missing (leb n (μ b)) _
  low-missing (more b x s) = rw (below-max (μ b) (max_s μ s) n) (cond-missing (leb n (μ b)) _ (over-missing (more b x) (low-missing s)))

  pub high-missing : (mk : ℕ → F) (e : B) (at : F → ℕ) (end : ℕ) (s : Bays B F) → Missing (below (max_s μ s) n) (on_high (λ (b : B). leb n (μ b)) f mk e at end s)
  high-missing mk e at end (last b) = one-missing (leb n (μ b)) _
  high-missing mk e at end (more b x s) =
      rw (below-max (μ b) (max_s μ s) n, and_comm (below (μ b) n) (below (max_s μ s) n))
      (else-missing (over-missing _ (high-missing mk e at end s)) (one-missing (leb n (μ b)) _))

pub join-missing : {B F X : Type 0} (g : F → X) (p : F → Bool) (j : B → F → B → B) (s : Bays B F) → Missing (is_none (over g (find_f p s))) (on_join p j s)
join-missing g p j (last b) = gone
join-missing g p j (more b x s) = go (p x) (join-missing g p j s)
  where
    go : (t : Bool) → Missing (is_none (over g (find_f p s))) (on_join p j s)
        → Missing (is_none (over g (cond t (some x) (find_f p s)))) (cond t (some (glue j b x s)) (over (more b x) (on_join p j s)))
    go true m = there
    go false m = over-missing (more b x) m
