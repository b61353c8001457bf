-- A bay that gets free bytes at its end: its last block grows if it is free, and all others stay.
use mathlib.Core.Path.{◌≡◌, refl, sym, ap, ◌∙◌}
use mathlib.Core.Bool.{Bool, true, false, false≢true}
use mathlib.Core.List.{List, [], ◌∷◌, ◌++◌, map}
use Prim.Native.Nat.{ℕ, zero, suc, ◌+◌, ◌<◌}
use native.Mathlib.Nat.{add-zero, zero-add}
use native.Mathlib.Omega.{arith}
use Rattle.bay.proofs.Laws.{gap-one}
use Rattle.kinds.specs.Kinds.{Item}
use Rattle.bay.specs.Bay.{Cell, free, held, gap, join_bays}
use Rattle.structure.specs.Structure.{cell}
use Rattle.structure.specs.Valid.{Tiled}
use Rattle.bays.specs.Places.{end_free}
use Rattle.zone_end.specs.enlarge.Enlarge.{grow}

-- a bay without its last block, where that is free
abbrev pub solid : List Cell → List Cell
solid [] = []
solid (free n ∷ []) = []
solid (held e ∷ []) = held e ∷ []
solid (c ∷ (d ∷ cs)) = c ∷ solid (d ∷ cs)

gap-held : (n : ℕ) (e : Item) (cs : List Cell) → 0 < n → gap n (held e ∷ cs) ≡ free n ∷ held e ∷ cs
gap-held zero e cs l = absurd (omega arith)
gap-held (suc n) e cs l = refl

gap-gap : (n k : ℕ) → 0 < n → gap n (gap k []) ≡ gap (n + k) []
gap-gap zero k l = absurd (omega arith)
gap-gap (suc n) zero l = ap (λ (j : ℕ). gap j []) (sym (add-zero (suc n)))
gap-gap (suc n) (suc k) l = sym (gap-one (suc n + suc k) (omega arith))

pub solid-is : (p : Bool) (b : List Cell) → Tiled p (map cell b) → b ≡ solid b ++ gap (end_free b) []
solid-is p [] t = refl
solid-is p (free n ∷ []) t = sym (gap-one n (omega (arith, t.1)))
solid-is p (held e ∷ []) t = refl
solid-is p (free n ∷ (c ∷ cs)) t = ap (free n ∷◌) (solid-is true (c ∷ cs) t.4)
solid-is p (held e ∷ (c ∷ cs)) t = ap (held e ∷◌) (solid-is false (c ∷ cs) t.3)

pub grow-is : (k : ℕ) (p : Bool) (b : List Cell) → Tiled p (map cell b) → grow k b ≡ solid b ++ gap (end_free b + k) []
grow-is k p [] t = ap (λ (j : ℕ). gap j []) (sym (zero-add k))
grow-is k p (free n ∷ []) t = gap-gap n k (omega (arith, t.1))
grow-is k p (held e ∷ []) t = ap (λ (j : ℕ). held e ∷ gap j []) (sym (zero-add k))
grow-is k p (free n ∷ (free m ∷ cs)) t = absurd (false≢true (sym t.4.0))
grow-is k p (free n ∷ (held e ∷ cs)) t = gap-held n e (join_bays cs (gap k [])) (omega (arith, t.1)) ∙ ap (free n ∷◌) (grow-is k true (held e ∷ cs) t.4)
grow-is k p (held e ∷ (c ∷ cs)) t = ap (held e ∷◌) (grow-is k false (c ∷ cs) t.3)
