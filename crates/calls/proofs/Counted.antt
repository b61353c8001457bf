-- A test that no item passes: nothing is found, and a change of those that do changes nothing.
use mathlib.Core.Path.{◌≡◌, refl, ap}
use mathlib.Core.Bool.{Bool, true, false, cond}
use mathlib.Core.Option.{none, some}
use mathlib.Core.List.{List, [], ◌∷◌, map}
use Prim.Native.Nat.{suc}
use native.Mathlib.Omega.{arith}
use Rattle.kinds.specs.Kinds.{Item}
use Rattle.calls.specs.State.{get, alter}
use Rattle.calls.specs.Counted.{count}

pub get_none : (ok : Item → Bool) (es : List Item) → count ok es ≡ 0 → get ok es ≡ none
get_none ok [] q = refl
get_none ok (e ∷ es) q = go (ok e) q (get_none ok es)
  where
    go : (t : Bool) → cond t (suc (count ok es)) (count ok es) ≡ 0 → (count ok es ≡ 0 → get ok es ≡ none) → cond t (some e) (get ok es) ≡ none
    go true p r = absurd (omega arith)
    go false p r = r p

pub alter-none : (ok : Item → Bool) (g : Item → Item) (es : List Item) → count ok es ≡ 0 → map (alter ok g) es ≡ es
alter-none ok g [] q = refl
alter-none ok g (e ∷ es) q = go (ok e) refl q (λ k. alter-none ok g es k)
  where
    go : (t : Bool) → ok e ≡ t → cond t (suc (count ok es)) (count ok es) ≡ 0 → (count ok es ≡ 0 → map (alter ok g) es ≡ es) → map (alter ok g) (e ∷ es) ≡ e ∷ es
    go true p q r = absurd (omega arith)
    go false p q r = rw p (ap (e ∷◌) (r q))
