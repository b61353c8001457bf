-- The calls that have no value: the refusal number is their whole answer ("A call for which no answer is named answers 0").
use mathlib.Core.Path.{◌≡◌, refl}
use mathlib.Core.Bool.{Bool, true, false, cond}
use mathlib.Core.List.{List}
use Prim.Native.Nat.{ℕ, zero, suc}
use lib.ListN.{length}
use lib.Dec.{eqb-suc-zero}
use Rattle.format.specs.WellFormed.{well_formed}
use Rattle.structure.specs.Structure.{decode}
use Rattle.calls.specs.Calls.{Mark, mark_page, drop_page, Call, free_handle, free_pointer, resize, enlarge, on_page, told}
use Rattle.calls.specs.Table.{Facts, refusal_value, init_refusal}
use Rattle.zone.specs.Work.{Zone, work}
use Rattle.zone.specs.Call.{result_of, outcome, zone_in, number_of, call_with, initialize_with}

pub data NoValue : Call → Type 0 where
  freed-handle : (h : ℕ) → NoValue (free_handle h)
  freed-pointer : (p : ℕ) → NoValue (free_pointer p)
  resized : (h c : ℕ) → NoValue (resize h c)
  enlarged : (k : ℕ) → NoValue (enlarge k)
  page-marked : (n : ℕ) (m : Mark) → NoValue (on_page n (mark_page m))
  page-dropped : (n : ℕ) → NoValue (on_page n drop_page)

worked : {c : Call} → NoValue c → (z : Zone) → (work c z).answer.value ≡ 0
worked (freed-handle h) z = refl
worked (freed-pointer p) z = refl
worked (resized h c) z = refl
worked (enlarged k) z = refl
worked (page-marked p m) z = refl
worked (page-dropped p) z = refl

refused : {c : Call} → NoValue c → (n : ℕ) (f : Facts) → refusal_value n c f ≡ 0
refused (freed-handle h) n f = refl
refused (freed-pointer p) n f = refl
refused (resized h c) n f = refl
refused (enlarged k) n f = refl
refused (page-marked p m) n f = refl
refused (page-dropped p) n f = refl

pub call-value : {c : Call} → NoValue c → (s : List ℕ) (n : ℕ) → (call_with n c s).answer.value ≡ 0
call-value {c} k s zero = go (well_formed s)
  where
    go : (t : Bool) → (cond t (outcome s (decode s) (work c (zone_in s))) (result_of (told 0 0) s)).answer.value ≡ 0
    go true = worked k (zone_in s)
    go false = refl
call-value k s (suc n) = rw (eqb-suc-zero n) (refused k (suc n) _)

pub initialize-value : (n m : ℕ) (s : List ℕ) (number : ℕ) → (initialize_with number n m s).answer.value ≡ 0
initialize-value n m s zero = refl
initialize-value n m s (suc k) = rw (eqb-suc-zero k)
