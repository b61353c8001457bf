-- What each function of Bays does to a sum over the bays.
use mathlib.Core.Path.{◌≡◌, refl, ap, ap₂}
use mathlib.Core.Bool.{Bool, true}
use mathlib.Core.Option.{Option}
use Prim.Native.Nat.{ℕ, ◌+◌, ◌≤◌}
use native.Mathlib.Omega.{arith}
use Rattle.calls.specs.Bays.{Bays, last, more, on_first, map_s, on_fixed, on_last, find_s, sum_s, first_s, last_s}
use Rattle.zone.specs.PickBays.{on_low, on_high, glue, on_join, AllS}
use Rattle.bay.proofs.Each.{Each, nothing, just, each_over, each-cond, each-or_else, each_weaken}

module _ {B F : Type 0} where
  pub on_low-sum : (μ : B → ℕ) (k : ℕ) (t : B → Bool) (f : B → B) → ((b : B) → t b ≡ true → μ (f b) ≡ k + μ b)
      → (s : Bays B F) → Each (λ (u : Bays B F). sum_s μ u ≡ k + sum_s μ s) (on_low t f s)
  on_low-sum μ k t f h (last b) = each-cond (t b) (λ e. just (h b e)) nothing
  on_low-sum μ k t f h (more b x s) =
      each-cond (t b) (λ e. just (omega (arith, h b e))) (each_over (more b x) (λ u q. omega (arith, q)) (on_low-sum μ k t f h s))

  pub on_high-sum : (μ : B → ℕ) (t : B → Bool) (f : B → B) (mk : ℕ → F) (e : B) (at : F → ℕ) (end : ℕ) → μ e ≡ 0 → ((b : B) → t b ≡ true → μ (f b) ≡ μ b)
      → (s : Bays B F) → Each (λ (r : F × Bays B F). sum_s μ r.1 ≡ sum_s μ s) (on_high t f mk e at end s)
  on_high-sum μ t f mk e at end z h (last b) = each-cond (t b) (λ q. just (omega (arith, h b q))) nothing
  on_high-sum μ t f mk e at end z h (more b x s) =
      each-or_else (each_over _ (λ r q. ap (μ b +◌) q) (on_high-sum μ t f mk e at end z h s)) (each-cond (t b) (λ q. just (omega (arith, h b q))) nothing)

  pub glue-sum : (μ : B → ℕ) (j : B → F → B → B) → ((b c : B) (x : F) → μ (j b x c) ≡ μ b + μ c) → (b : B) (x : F) (s : Bays B F) → sum_s μ (glue j b x s) ≡ μ b + sum_s μ s
  glue-sum μ j h b x (last c) = h b c x
  glue-sum μ j h b x (more c y s) = omega (arith, h b c x)

  pub on_join-sum : (μ : B → ℕ) (p : F → Bool) (j : B → F → B → B) → ((b c : B) (x : F) → μ (j b x c) ≡ μ b + μ c)
      → (s : Bays B F) → Each (λ (u : Bays B F). sum_s μ u ≡ sum_s μ s) (on_join p j s)
  on_join-sum μ p j h (last b) = nothing
  on_join-sum μ p j h (more b x s) = each-cond (p x) (λ e. just (glue-sum μ j h b x s)) (each_over (more b x) (λ u q. ap (μ b +◌) q) (on_join-sum μ p j h s))

  pub map_s-sum : (μ ν : B → ℕ) (f : B → B) → ((b : B) → μ (f b) ≡ ν b) → (s : Bays B F) → sum_s μ (map_s f s) ≡ sum_s ν s
  map_s-sum μ ν f h (last b) = h b
  map_s-sum μ ν f h (more b x s) = ap₂ ◌+◌ (h b) (map_s-sum μ ν f h s)

  pub on_fixed-sum : (μ : B → ℕ) (f : F → F) (s : Bays B F) → sum_s μ (on_fixed f s) ≡ sum_s μ s
  on_fixed-sum μ f (last b) = refl
  on_fixed-sum μ f (more b x s) = ap (μ b +◌) (on_fixed-sum μ f s)

  pub map_s-zero : (μ : B → ℕ) (f : B → B) → ((b : B) → μ (f b) ≡ 0) → (s : Bays B F) → sum_s μ (map_s f s) ≡ 0
  map_s-zero μ f h (last b) = h b
  map_s-zero μ f h (more b x s) = omega (arith, h b, map_s-zero μ f h s)

  pub on_first-sum : (μ : B → ℕ) (f : B → B) (s : Bays B F) → μ (f (first_s s)) ≡ μ (first_s s) → sum_s μ (on_first f s) ≡ sum_s μ s
  on_first-sum μ f (last b) h = h
  on_first-sum μ f (more b x s) h = ap (◌+ sum_s μ s) h

  pub on_last-sum : (μ : B → ℕ) (f : B → B) (s : Bays B F) → μ (f (last_s s)) ≡ μ (last_s s) → sum_s μ (on_last f s) ≡ sum_s μ s
  on_last-sum μ f (last b) h = h
  on_last-sum μ f (more b x s) h = ap (μ b +◌) (on_last-sum μ f s h)

  -- a sum of at most n has parts of at most n
  pub sum-parts : (μ : B → ℕ) (n : ℕ) (s : Bays B F) → sum_s μ s ≤ n → AllS (λ (b : B). μ b ≤ n) s
  sum-parts μ n (last b) h = h
  sum-parts μ n (more b x s) h = (omega arith, sum-parts μ n s (omega arith))

  pub find-each : {X : Type 0} (P : X → Type 0) (f : B → Option X) → ((b : B) → Each P (f b)) → (s : Bays B F) → Each P (find_s f s)
  find-each P f h (last b) = h b
  find-each P f h (more b x s) = each-or_else (h b) (find-each P f h s)

  -- a bay that answers counts
  pub find-sum : {X : Type 0} (f : B → Option X) (μ : B → ℕ) → ((b : B) → Each (λ (x : X). 1 ≤ μ b) (f b)) → (s : Bays B F) → Each (λ (x : X). 1 ≤ sum_s μ s) (find_s f s)
  find-sum f μ h (last b) = h b
  find-sum f μ h (more b x s) = each-or_else (each_weaken (λ y q. omega arith) (h b)) (each_weaken (λ y q. omega arith) (find-sum f μ h s))
