-- What size and view answer of a block, by its data, or by that there is none.
use mathlib.Core.Path.{◌≡◌, ap, ◌∙◌}
use mathlib.Core.Bool.{true, false, cond}
use mathlib.Core.Option.{Option, none, some, get_or}
use mathlib.Core.List.{List, [], ◌∷◌}
use Prim.Native.Nat.{ℕ, ◌+◌}
use native.Mathlib.Omega.{arith}
use lib.ListN.{length, take, drop}
use lib.Seq.{take_all}
use lib.Dec.{eqb}
use borrow.Author.Tests.{le-leb}
use Rattle.calls.specs.Calls.{Target, by_handle, by_pointer, by_name, Answer, told, shows, size, view}
use Rattle.calls.specs.Bays.{over}
use Rattle.calls.specs.State.{says, done, content}
use Rattle.calls.specs.Table.{cause, below, is_none, first, order, no_block}
use Rattle.bay.specs.Bay.{items}
use Rattle.zone.specs.Work.{Zone, facts}
use Rattle.call_laws.proofs.Outcome.{step}

module _ (z : Zone) where
  abbrev asks : ℕ → Option (List ℕ) → ℕ
  asks n o = first order (cause 1 false ∷ cause n (is_none (over length o)) ∷ [])

  abbrev size-as : ℕ → Option (List ℕ) → Answer
  size-as n o = (cond (eqb (asks n o) 0) (done (length (get_or o [])) z) (says (told (asks n o) 0) z)).answer

  pub size-there : (t : Target) {d : List ℕ} → content items t z.bays ≡ some d → (step (size t) z).answer ≡ told 0 (length d)
  size-there (by_handle h) e = ap (size-as 6) e
  size-there (by_pointer p) e = ap (size-as 7) e
  size-there (by_name n) e = ap (size-as 13) e

  pub size-gone : (t : Target) → content items t z.bays ≡ none → (step (size t) z).answer ≡ told (no_block t (facts true z)).number 0
  size-gone (by_handle h) e = ap (size-as 6) e
  size-gone (by_pointer p) e = ap (size-as 7) e
  size-gone (by_name n) e = ap (size-as 13) e

  abbrev view-as : ℕ → ℕ → Option (List ℕ) → Answer
  view-as n k o =
      (cond (eqb (first order (cause 1 false ∷ cause n (is_none (over length o)) ∷ cause 8 (below (get_or (over length o) 0) (0 + k)) ∷ [])) 0)
      (says (shows 0 (take k (drop 0 (get_or o [])))) z) (says (shows 0 []) z)).answer

  -- all of its data
  pub view-there : (t : Target) (d : List ℕ) (k : ℕ) → k ≡ length d → content items t z.bays ≡ some d → (step (view t 0 k) z).answer ≡ shows 0 d
  view-there (by_handle h) d k q e = ap (view-as 6 k) e ∙ (rw (le-leb (0 + k) (length d) (omega arith), view-as) (ap (shows 0) (take_all k d (omega arith))))
  view-there (by_name n) d k q e = ap (view-as 13 k) e ∙ (rw (le-leb (0 + k) (length d) (omega arith), view-as) (ap (shows 0) (take_all k d (omega arith))))
  view-there (by_pointer p) d k q e = ap (view-as 7 k) e ∙ (rw (le-leb (0 + k) (length d) (omega arith), view-as) (ap (shows 0) (take_all k d (omega arith))))
