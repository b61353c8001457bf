-- The masters' pass: block by block, each master holds its block's first data byte.
use mathlib.Core.Path.{◌≡◌, sym, ap, ◌∙◌, subst}
use mathlib.Core.List.{List, [], ◌∷◌}
use Prim.Native.Nat.{ℕ, ◌+◌, ◌≤◌}
use native.Mathlib.Omega.{arith}
use lib.ListN.{length, take, drop, length-take}
use Rattle.bigendian.proofs.Parts.{drop-take}
use Rattle.block_type.specs.Limits.{master_size}
use Rattle.bay.specs.Bay.{Cell, cell_size}
use Rattle.bay.specs.Sound.{cells_of, cell_at, Stepped}
use Rattle.bay.proofs.BayBytes.{bay-end}
use Rattle.slide.specs.ZoneBay.{owner_of, set_one, set_all, Low, IsLow, is_low}
use Rattle.slide.specs.Masters.{CellHere, Turned}
use Rattle.slide.proofs.Master.{one-drop, one-length, Here, here_in}

pub low-more : (a b : ℕ) (cs : List Cell) → a ≤ b → Low a cs → Low b cs
low-more a b [] l x = tt
low-more a b (c ∷ cs) l x = (omega (arith, x.0), low-more a b cs l x.1)

pub low-is : (lim : ℕ) (cs : List Cell) → IsLow lim cs → Low lim cs
low-is lim cs (is_low x) = x

pub all_cons : (at : ℕ) (c : Cell) (cs : List Cell) (z : List ℕ) (n : ℕ) → cell_size c ≡ n → set_all at (c ∷ cs) z ≡ set_all (at + n) cs (set_one at c z)
unfolding set_all
all_cons at c cs z n e = ap (λ (k : ℕ). set_all (at + k) cs (set_one at c z)) e

-- ---- one turn

module _ (z : List ℕ) (to at n : ℕ) (l : to ≤ length z) (lo : IsLow at (cells_of (drop at (take to z)))) (st : Stepped (take to z) at n) where
  abbrev c₀ : Cell
  c₀ = cell_at (take to z) at

  abbrev rest : List Cell
  rest = cells_of (drop (at + n) (take to z))

  here : Here z to at n
  here = here_in z to at n l st

  lows : Low at (c₀ ∷ rest)
  lows = subst (Low at) st.cells (low-is at _ lo)

  low-here : owner_of (cell_at z at) + master_size ≤ at
  low-here = rw here.same at lows.0

  pub turn-here : CellHere z at
  turn-here = here.cell

  pub turn-fits : owner_of (cell_at z at) + master_size ≤ length z
  turn-fits = omega (arith, low-here, here.fits)

  pub turned : (z' : List ℕ) → z' ≡ set_one at (cell_at z at) z → Turned z to at z' n
  turned z' e =
      let f : at ≤ length z = omega (arith, here.fits) in
      let d : drop (at + n) z' ≡ drop (at + n) z = ap (drop (at + n)) e ∙ one-drop z at at (cell_at z at) low-here f (at + n) (omega arith) in
      let d' : drop (at + n) (take to z') ≡ drop (at + n) (take to z) = rw (drop-take (at + n) to z', drop-take (at + n) to z, d) in
      record {
        low = st.low;
        fits = here.fits;
        long = ap length e ∙ one-length z at at (cell_at z at) low-here f;
        next = rw d' st.next;
        lows = rw d' (is_low (low-more at (at + n) rest (omega arith) lows.1));
        left = rw d' (sym (ap (λ (t : List Cell). set_all at t z) st.cells ∙ all_cons at c₀ rest z n st.bytes ∙ ap (λ (c : Cell). set_all (at + n) rest (set_one at c z)) here.same ∙ ap (set_all (at + n) rest) (sym e)));
      }

pub masters-step : (z z' : List ℕ) (to at n : ℕ) (w : List ℕ) → Turned z to at z' n → set_all at (cells_of (drop at (take to z))) z ≡ w → set_all (at + n) (cells_of (drop (at + n) (take to z'))) z' ≡ w
masters-step z z' to at n w k inv = k.left ∙ inv

pub masters-done : (z w : List ℕ) (to at : ℕ) → to ≤ at → set_all at (cells_of (drop at (take to z))) z ≡ w → z ≡ w
unfolding set_all
masters-done z w to at h inv =
    let l : length (take to z) ≤ at = simp length-take (omega arith) in
    rw (bay-end (take to z) at l) at inv
