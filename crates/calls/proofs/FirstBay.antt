-- The first bay changed: what becomes of the largest sum.
use mathlib.Core.Path.{◌≡◌, ap}
use Prim.Native.Nat.{ℕ, ◌-◌, max}
use Rattle.calls.specs.Bays.{Bays, last, more, on_first, max_s, max_less, first_s}

-- a measure of it falls by n
pub less-first : {B F : Type 0} (μ : B → ℕ) (n : ℕ) (f : B → B) (s : Bays B F) → μ (f (first_s s)) ≡ μ (first_s s) - n → max_s μ (on_first f s) ≡ max_less μ n s
less-first μ n f (last b) e = e
less-first μ n f (more b x s) e = ap (λ (k : ℕ). max k (max_s μ s)) e
