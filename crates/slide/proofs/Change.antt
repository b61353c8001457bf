-- Other cells in the place of a bay: their bytes, and then the masters' pass, are `settled`.
use mathlib.Core.Path.{◌≡◌, sym, ap, ◌∙◌}
use mathlib.Core.List.{List, ◌++◌, append_assoc}
use Prim.Native.Nat.{ℕ, ◌+◌, ◌-◌}
use native.Mathlib.Omega.{arith}
use lib.ListN.{length, take, drop, length-take, length-drop}
use lib.Seq.{drop-drop, take_at, drop_at, length-take-le}
use Rattle.bigendian.specs.BigEndian.{overwrite}
use Rattle.bigendian.proofs.Parts.{drop-take}
use Rattle.bay.specs.Bay.{Cell, bay_size}
use Rattle.bay.specs.Sound.{bytes_of, cells_of, Sound, IsBay, is_bay}
use Rattle.bay.proofs.BayBytes.{cells-bytes, bay-bytes, bay-sound, bytes-long}
use Rattle.slide.specs.ZoneBay.{set_all, Low, IsLow, is_low, bay_cells, ZoneBay, settled}
use Rattle.slide.proofs.MasterLaws.{low-is}

-- ---- what each change of a bay has to keep

-- sound cells whose masters lie low, as many bytes in all as before
pub record Kept (a n : ℕ) (cs : List Cell) : Type 0 where
  pub sound : Sound cs
  pub size : bay_size cs ≡ n
  pub low : Low a cs

part-size : (z : List ℕ) (a e : ℕ) → ZoneBay z a e → bay_size (bay_cells z a e) ≡ e - a
part-size z a e b =
    sym (bytes-long (bay_cells z a e) (bay-sound _ b.bay)) ∙ ap length (bay-bytes _ b.bay) ∙ simp (length-take, length-drop) (omega (arith, b.order, b.inside))

pub kept-now : (z : List ℕ) (a e : ℕ) → ZoneBay z a e → Kept a (e - a) (bay_cells z a e)
kept-now z a e b = record { sound = bay-sound _ b.bay; size = part-size z a e b; low = low-is a _ b.low }

-- the law of all calls on a bay: y has been put in the place of the bay's bytes
module _ (z y : List ℕ) (a e : ℕ) (cs : List Cell) (b : ZoneBay z a e) (k : Kept a (e - a) cs) (ey : y ≡ bytes_of cs) where
  abbrev z₁ : List ℕ
  z₁ = take a z ++ (y ++ drop (e - a) (drop a z))

  long-y : length y ≡ e - a
  long-y = ap length ey ∙ bytes-long cs k.sound ∙ k.size

  part : drop a (take e z₁) ≡ y
  part =
      let la = length-take-le a z (omega (arith, b.order, b.inside)) in
      rw (drop-take a e z₁, drop_at (take a z) (y ++ drop (e - a) (drop a z)) a la, take_at y (drop (e - a) (drop a z)) (e - a) long-y)

  tiles : cells_of y ≡ cs
  tiles = rw ey (cells-bytes cs k.sound)

  pub change-bay : IsBay (drop a (take e z₁))
  change-bay = rw part (is_bay cs k.sound ey)

  pub change-low : IsLow a (cells_of (drop a (take e z₁)))
  change-low = rw (part, tiles) (is_low k.low)

  pub change-done : (z₂ : List ℕ) → z₂ ≡ set_all a (cells_of (drop a (take e z₁))) z₁ → z₂ ≡ settled z a cs
  unfolding settled
  change-done z₂ q =
      let w : z₁ ≡ overwrite z a (bytes_of cs) = rw (← ey, long-y, drop-drop (e - a) a z, append_assoc (take a z) y (drop (a + (e - a)) z)) in
      q ∙ (rw (part, tiles, w))
