-- The laws of the page that is sought: what a block on the walk says of it, and what is known at the end.
use mathlib.Core.Path.{◌≡◌, refl, sym, ap, ◌∙◌}
use mathlib.Core.List.{List}
use mathlib.Core.Bool.{Bool, true, false, cond, ◌&&◌}
use Prim.Native.Nat.{ℕ, zero, suc, ◌+◌, ◌<◌, ◌≤◌}
use native.Mathlib.Omega.{arith}
use lib.Dec.{eqb}
use lib.ListN.{length, take, drop, length-take, length-drop, drop_of_length-le}
use lib.Seq.{drop-drop}
use Rattle.format.specs.WellFormed.{size_of, is_page, name_of}
use Rattle.format.specs.Steps.{Turn}
use Rattle.format.proofs.Walk.{blocks-cons, blocks-nil, is-page-take, name-take}
use Rattle.std.specs.Prelude.{Option, None, Some, unwrap_or}
use Rattle.std.proofs.lemmas.Option.{none-some}
use Rattle.std.specs.Option.{option_or}
use Rattle.zone_check.specs.Sought.{unless_zero, page_among, page_from}
use Rattle.zone_check.specs.Body.{Found}

-- an offset beyond the header is one
pub unless-some : (n : ℕ) → 0 < n → unless_zero n ≡ Some n
unless-some zero l = let e : ⊥ = omega arith in absurd e
unless-some (suc n) l = refl

pub zero-unless : (n : ℕ) → unless_zero n ≡ None → n ≡ 0
zero-unless zero e = refl
zero-unless (suc n) e = absurd (none-some (suc n) (sym e))

pub some-unless : (n m : ℕ) → unless_zero n ≡ Some m → (n ≡ m) × (0 < m)
some-unless zero m e = absurd (none-some m e)
some-unless (suc n) m e = let k : suc n ≡ m = ap (λ o. unwrap_or o 0) e in (k, omega (arith, k))

-- the first block is the page, or the page is sought behind it
pub page-cons : (x : ℕ) (z : List ℕ) (at n : ℕ) → n ≡ size_of (drop at z) → 0 < n → at + n ≤ length z
    → page_from x z at ≡ cond (is_page (take n (drop at z)) && eqb (name_of (take n (drop at z))) x) at (page_from x z (at + n))
unfolding page_among
page-cons x z at n e low fits =
    let r = drop at z in
    let d = drop-drop n at z in
    let l = length-drop at z in
    let ln : length (take n r) ≡ n = omega (arith, length-take n r) in
    rw (blocks-cons r (omega arith) (omega arith), ← e, ln, d)

pub page-end : (x : ℕ) (z : List ℕ) (at : ℕ) → length z ≤ at → page_from x z at ≡ 0
unfolding page_among
page-end x z at h = rw (drop_of_length-le z h, blocks-nil)

module _ (x : ℕ) (z : List ℕ) (first : ℕ) (prev : Bool) (at n : ℕ) (t : Turn z first prev at n) where
  here : page_from x z at ≡ cond (is_page (drop at z) && eqb (name_of (take n (drop at z))) x) at (page_from x z (at + n))
  here = rw (← is-page-take n (drop at z) t.low) (page-cons x z at n t.is_size (omega (arith, t.low)) t.fits)

  pub page-other : is_page (drop at z) ≡ false → page_from x z at ≡ page_from x z (at + n)
  page-other q = rw q at here

  pub page-named : is_page (drop at z) ≡ true → page_from x z at ≡ cond (eqb (name_of (drop at z)) x) at (page_from x z (at + n))
  page-named q = rw (← name-take n (drop at z) t.low (t.long q)) (rw q at here)

  -- the page that was met before stays; where there was none it is this one, if it has the name
  pub found-on : 0 < at → is_page (drop at z) ≡ true → (v : ℕ) (page next : Option ℕ) → v ≡ name_of (drop at z) → next ≡ option_or page (cond (eqb v x) (Some at) None) → Found x z first at page → Found x z first (at + n) next
  found-on l q v page next e f g = record { page_is = rw f (go (eqb v x) page (rw (← e) at (page-named q)) g.page_is) }
    where
      go : (a : Bool) (p : Option ℕ) → page_from x z at ≡ cond a at (page_from x z (at + n)) → option_or p (unless_zero (page_from x z at)) ≡ unless_zero (page_from x z first)
          → option_or (option_or p (cond a (Some at) None)) (unless_zero (page_from x z (at + n))) ≡ unless_zero (page_from x z first)
      go a (Some o) s i = i
      go true None s i = sym (unless-some at l) ∙ (rw s at i)
      go false None s i = rw s at i

  pub found-past : is_page (drop at z) ≡ false → (page : Option ℕ) → Found x z first at page → Found x z first (at + n) page
  found-past q page g = record { page_is = rw (page-other q) at g.page_is }

pub found-end : (x : ℕ) (z : List ℕ) (first at : ℕ) (page : Option ℕ) → length z ≤ at → Found x z first at page → page ≡ unless_zero (page_from x z first)
found-end x z first at page l g = go page (rw (page-end x z at l) at g.page_is)
  where
    go : (p : Option ℕ) → option_or p None ≡ unless_zero (page_from x z first) → p ≡ unless_zero (page_from x z first)
    go None i = i
    go (Some o) i = i
