-- Which bay is chosen: the laws of `specs/WhichBay` hold.
use mathlib.Core.Path.{◌≡◌, refl, ap, ◌∙◌}
use mathlib.Core.Bool.{Bool, cond}
use mathlib.Core.List.{List, [], ◌∷◌}
use Prim.Native.Nat.{ℕ, ◌≤◌, ◌<◌}
use native.Mathlib.Omega.{arith}
use borrow.Author.Tests.{le-leb, lt-leb}
use Rattle.calls.specs.Bays.{Bays, last, more, on_lowest, max_s}
use Rattle.calls.specs.State.{Fixed, new_fixed, cut_high}
use Rattle.calls.specs.WhichBay.{in_front_of, NonePasses, no_bay_case, a_bay, LowestBay, HighestBay}

module _ {B F : Type 0} (t : B → Bool) (f : B → B) where
  passed_over : {ps : List (B × F)} (s : Bays B F) → NonePasses t ps → on_lowest t f (in_front_of ps s) ≡ in_front_of ps (on_lowest t f s)
  passed_over s no_bay_case = refl
  passed_over s (a_bay {p = p} q r) = rw q (ap (more p.0 p.1) (passed_over s r))

pub lowest-bay : {B : Type 0} (F : Type 0) (t : B → Bool) (f : B → B) → LowestBay F t f
lowest-bay F t f = record {
  chosen = λ ps b x s q e. passed_over t f (more b x s) q ∙ ap (λ (u : Bool). in_front_of ps (cond u (more (f b) x s) (more b x (on_lowest t f s)))) e;
  at_the_end = λ ps b q. passed_over t f (last b) q;
}

module _ {B : Type 0} (μ : B → ℕ) (f : B → B) (e : B) (n end : ℕ) where
  reaches : (ps : List (B × Fixed)) (s : Bays B Fixed) → n ≤ max_s μ s → n ≤ max_s μ (in_front_of ps s)
  reaches [] s l = l
  reaches (p ∷ ps) s l = omega (arith, reaches ps s l)

  -- by whether a bay above reaches n
  abbrev chosen : Bool → B → Fixed → Bays B Fixed → Fixed × Bays B Fixed
  chosen t b x s =
      cond t
      ((cut_high μ f e n end s).0, more b x (cut_high μ f e n end s).1)
      (new_fixed n x.place, more (f b) (new_fixed n x.place) (more e x s))

  passed-by : (ps : List (B × Fixed)) (s : Bays B Fixed) → n ≤ max_s μ s → cut_high μ f e n end (in_front_of ps s) ≡ ((cut_high μ f e n end s).0, in_front_of ps (cut_high μ f e n end s).1)
  passed-by [] s l = refl
  passed-by (p ∷ ps) s l =
      ap (λ (t : Bool). chosen t p.0 p.1 (in_front_of ps s)) (le-leb n (max_s μ (in_front_of ps s)) (reaches ps s l))
      ∙ ap (λ (r : Fixed × Bays B Fixed). (r.0, more p.0 p.1 r.1)) (passed-by ps s l)

  here : (b : B) (x : Fixed) (s : Bays B Fixed) → max_s μ s < n → cut_high μ f e n end (more b x s) ≡ (new_fixed n x.place, more (f b) (new_fixed n x.place) (more e x s))
  here b x s l = ap (λ (t : Bool). chosen t b x s) (lt-leb n (max_s μ s) l)

pub highest-bay : {B : Type 0} (μ : B → ℕ) (f : B → B) (e : B) (n end : ℕ) → HighestBay μ f e n end
highest-bay μ f e n end = record {
  chosen = λ ps b x s l m. passed-by μ f e n end ps (more b x s) (omega arith) ∙ ap (λ (r : Fixed × Bays _ Fixed). (r.0, in_front_of ps r.1)) (here μ f e n end b x s m);
  at_the_end = λ ps b l. passed-by μ f e n end ps (last b) l;
}
