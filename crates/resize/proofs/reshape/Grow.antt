-- The grown part in the place of the bay, and the masters' pass.
use mathlib.Core.Path.{◌≡◌, sym, ap, ◌∙◌, subst}
use mathlib.Core.List.{List, ◌++◌}
use Prim.Native.Nat.{ℕ, ◌-◌}
use lib.ListN.{take, drop}
use Rattle.bay.specs.Bay.{Cell}
use Rattle.bay.specs.Sound.{bytes_of, cells_of, IsBay}
use Rattle.bay.proofs.BayBytes.{cells-bytes}
use Rattle.slide.specs.ZoneBay.{set_all, IsLow, part_of, ZoneBay, settled}
use Rattle.slide.proofs.Change.{Kept, change-bay, change-low, change-done}
use Rattle.resize.specs.reshape.Grow.{grown_bytes, GrowsTo, grows_to}

module _ (z y : List ℕ) (a e low high run more : ℕ) (b : ZoneBay z a e) (g : GrowsTo z a e low high run more) (ey : y ≡ grown_bytes (part_of z a e) low high run more) where
  abbrev grown : List ℕ
  grown = grown_bytes (part_of z a e) low high run more

  abbrev cs : List Cell
  cs = cells_of grown

  kept : Kept a (e - a) cs × (grown ≡ bytes_of cs)
  kept = go g
    where
      go : GrowsTo z a e low high run more → Kept a (e - a) cs × (grown ≡ bytes_of cs)
      go (grows_to ds so sz lo q) =
          let t : cs ≡ ds = ap cells_of q ∙ cells-bytes ds so in
          (subst (Kept a (e - a)) (sym t) (record { sound = so; size = sz; low = lo }), q ∙ ap bytes_of (sym t))

  pub grown-in : IsBay (drop a (take e (take a z ++ (y ++ drop (e - a) (drop a z)))))
  grown-in = change-bay z y a e cs b kept.0 (ey ∙ kept.1)

  pub grown-low : IsLow a (cells_of (drop a (take e (take a z ++ (y ++ drop (e - a) (drop a z))))))
  grown-low = change-low z y a e cs b kept.0 (ey ∙ kept.1)

  pub grown-done : (z₂ : List ℕ) → z₂ ≡ set_all a (cells_of (drop a (take e (take a z ++ (y ++ drop (e - a) (drop a z)))))) (take a z ++ (y ++ drop (e - a) (drop a z))) → z₂ ≡ settled z a (cells_of (grown_bytes (part_of z a e) low high run more))
  grown-done z₂ q = change-done z y a e cs b kept.0 (ey ∙ kept.1) z₂ q
