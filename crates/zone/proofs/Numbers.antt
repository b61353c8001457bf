-- A call that does its work is told 0.
use mathlib.Core.Path.{◌≡◌, refl}
use mathlib.Core.Bool.{Bool, true, false, cond}
use mathlib.Core.List.{List}
use Prim.Native.Nat.{ℕ, ◌*◌, ◌/◌, min}
use lib.Dec.{eqb}
use Rattle.calls.specs.Calls.{Call, allocate_relocatable, allocate_fixed, free_handle, free_pointer, read, write, view, size, roster, check, length_of, resize, compact, sums, enlarge, shrink, on_page, create_page, use_page, mark_page, drop_page}
use Rattle.calls.specs.Bays.{last_s}
use Rattle.calls.specs.State.{Out}
use Rattle.bay.specs.Bay.{Cell, bay_sum}
use Rattle.zone.specs.Work.{Zone, work, strip}

strip-number : (n : ℕ) (z : Zone) → (strip n z).answer.number ≡ 0
strip-number n z = go (eqb n 0) _ _ refl refl
  where
    go : (t : Bool) (a b : Out (List Cell)) → a.answer.number ≡ 0 → b.answer.number ≡ 0 → (cond t a b).answer.number ≡ 0
    go true a b p q = p
    go false a b p q = q

pub work-number : (c : Call) (z : Zone) → (work c z).answer.number ≡ 0
work-number (allocate_relocatable c) z = refl
work-number (allocate_fixed c) z = refl
work-number (free_handle h) z = refl
work-number (free_pointer p) z = refl
work-number (resize h c) z = refl
work-number (size t) z = refl
work-number (read t i n second) z = refl
work-number (write t i n second) z = refl
work-number (view t i n) z = refl
work-number compact z = refl
work-number sums z = refl
work-number check z = refl
work-number length_of z = refl
work-number (enlarge k) z = refl
work-number (shrink k) z = strip-number (min (k / 4 * 4) (bay_sum (last_s z.bays))) z
work-number (roster second) z = refl
work-number (on_page n (create_page c)) z = refl
work-number (on_page n use_page) z = refl
work-number (on_page n (mark_page m)) z = refl
work-number (on_page n drop_page) z = refl
