-- What a bay keeps where bytes are taken off its end, or free ones stand behind it: it is sound, and its masters lie as low.
use mathlib.Core.Path.{◌≡◌}
use mathlib.Core.List.{List, [], ◌∷◌, ◌++◌}
use Prim.Native.Nat.{ℕ, ◌+◌, ◌-◌, ◌%◌, ◌<◌, ◌≤◌}
use native.Mathlib.Omega.{arith}
use lib.Dec.{leb}
use borrow.Author.Tests.{leb-true}
use Rattle.block_type.specs.Limits.{longest_zone, master_size}
use Rattle.bay.specs.Bay.{Cell, free, held, bay_sum, gap, trim, take_high}
use Rattle.bay.specs.Sound.{Sound}
use Rattle.bay.proofs.Each.{Each, nothing, just, each_over, each-cond, each-get_d}
use Rattle.bay.proofs.Laws.{bsize-split, bsize-gap, bsize-append, cut-less}
use Rattle.bay.proofs.SoundLaws.{gap-sound, packed-sound, sum-four}
use Rattle.slide.specs.ZoneBay.{Low}
use Rattle.slide.proofs.Change.{Kept}
use Rattle.slide.proofs.Compact.{gap-low, packed-low}

join-sound : (cs t : List Cell) → Sound cs → Sound t → Sound (cs ++ t)
join-sound [] t s u = u
join-sound (c ∷ cs) t s u = (s.0, join-sound cs t s.1 u)

join-low : (lim : ℕ) (cs t : List Cell) → Low lim cs → Low lim t → Low lim (cs ++ t)
join-low lim [] t x u = u
join-low lim (c ∷ cs) t x u = (x.0, join-low lim cs t x.1 u)

module _ (a n : ℕ) (four : n % 4 ≡ 0) where
  abbrev Fit : List Cell → Type 0
  Fit cs = Sound cs × Low a cs

  trim-fit : (cs : List Cell) → Fit cs → Each Fit (trim n cs)
  trim-fit [] f = nothing
  trim-fit (free k ∷ []) f =
      each-cond (leb n k) (λ h. just (gap-sound (k - n) [] (omega (arith, leb-true n k h, f.0.0.1)) (omega (arith, f.0.0.2)) tt, gap-low a (k - n) [] (omega (arith, f.1.0)) tt)) nothing
  trim-fit (free k ∷ (c ∷ cs)) f = each_over (free k ∷◌) (λ ds p. ((f.0.0, p.0), (f.1.0, p.1))) (trim-fit (c ∷ cs) (f.0.1, f.1.1))
  trim-fit (held e ∷ cs) f = each_over (held e ∷◌) (λ ds p. ((f.0.0, p.0), (f.1.0, p.1))) (trim-fit cs (f.0.1, f.1.1))

  some-low : (cs : List Cell) → 0 < bay_sum cs → Low a cs → master_size ≤ a
  some-low [] l x = absurd (omega arith)
  some-low (c ∷ cs) l x = omega (arith, x.0)

  pub taken-kept : (m : ℕ) (cs : List Cell) → 0 < n → n ≤ bay_sum cs → m ≤ longest_zone → Kept a m cs → Kept a (m - n) (take_high n cs)
  taken-kept m cs l fits short k =
      let f : Fit (take_high n cs) =
      each-get_d (trim-fit cs (k.sound, k.low)) (
        packed-sound cs (gap (bay_sum cs - n) []) k.sound (gap-sound (bay_sum cs - n) [] (omega (arith, sum-four cs k.sound)) (omega (arith, bsize-split cs, k.size)) tt),
        packed-low a cs (gap (bay_sum cs - n) []) k.low (gap-low a (bay_sum cs - n) [] (some-low cs (omega arith) k.low) tt),
      ) in
      record { sound = f.0; size = omega (arith, (cut-less n cs fits).size, k.size); low = f.1 }

  pub kept_free : (m : ℕ) (cs : List Cell) → master_size ≤ a → m + n ≤ longest_zone → Kept a m cs → Kept a (m + n) (cs ++ gap n [])
  kept_free m cs l short k = record {
    sound = join-sound cs (gap n []) k.sound (gap-sound n [] four (omega arith) tt);
    size = omega (arith, bsize-append cs (gap n []), bsize-gap n [], k.size);
    low = join-low a cs (gap n []) k.low (gap-low a n [] l tt);
  }
