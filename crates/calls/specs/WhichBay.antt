-- Laws of which bay is chosen, said of the bays in their order. (They are theorems about `Bays` and `State`: nobody has to believe them.)
use Rattle.std.specs.Prelude.{◌≡◌, Bool, true, false, List, [], ◌∷◌, ℕ, ◌≤◌, ◌<◌}
use Rattle.calls.specs.Bays.{Bays, last, more, on_lowest, max_s}
use Rattle.calls.specs.State.{Fixed, new_fixed, cut_high}

module _ {B F : Type 0} where
  -- bays, each with the fixed block behind it, in front of the others
  abbrev pub in_front_of : List (B × F) → Bays B F → Bays B F
  in_front_of [] s = s
  in_front_of (p ∷ ps) s = more p.0 p.1 (in_front_of ps s)

  -- none of them passes the test
  pub data NonePasses (t : B → Bool) : List (B × F) → Type 0 where
    no_bay_case : NonePasses t []
    a_bay : {p : B × F} {ps : List (B × F)} → t p.0 ≡ false → NonePasses t ps → NonePasses t (p ∷ ps)

-- "the lowest whose sum reaches the need": the bay that passes, where none below it does; all others stay
pub record LowestBay {B : Type 0} (F : Type 0) (t : B → Bool) (f : B → B) : Type 0 where
  pub chosen : (ps : List (B × F)) (b : B) (x : F) (s : Bays B F) → NonePasses t ps → t b ≡ true → on_lowest t f (in_front_of ps (more b x s)) ≡ in_front_of ps (more (f b) x s)
  pub at_the_end : (ps : List (B × F)) (b : B) → NonePasses t ps → on_lowest t f (in_front_of ps (last b)) ≡ in_front_of ps (last (f b))

-- "the highest bay whose sum reaches the need": where no bay above it does, the new block stands at its end; all bays below it stay
pub record HighestBay {B : Type 0} (μ : B → ℕ) (f : B → B) (e : B) (n end : ℕ) : Type 0 where
  pub chosen : (ps : List (B × Fixed)) (b : B) (x : Fixed) (s : Bays B Fixed) → n ≤ μ b → max_s μ s < n
      → cut_high μ f e n end (in_front_of ps (more b x s)) ≡ (new_fixed n x.place, in_front_of ps (more (f b) (new_fixed n x.place) (more e x s)))
  pub at_the_end : (ps : List (B × Fixed)) (b : B) → n ≤ μ b → cut_high μ f e n end (in_front_of ps (last b)) ≡ (new_fixed n end, in_front_of ps (more (f b) (new_fixed n end) (last e)))
