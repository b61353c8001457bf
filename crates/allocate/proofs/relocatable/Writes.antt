-- The writes of a new block: the chain's head, its bytes, its master.
use mathlib.Core.Path.{◌≡◌, sym, ap, ◌∙◌}
use mathlib.Core.List.{List, [], ◌∷◌}
use Prim.Native.Nat.{ℕ, ◌+◌, ◌-◌, ◌≤◌}
use native.Mathlib.Omega.{arith}
use lib.ListN.{length, take}
use Rattle.block_type.specs.Limits.{reloc_header, zone_header, chain_at}
use Rattle.bigendian.specs.BigEndian.{to_be, overwrite}
use Rattle.bigendian.proofs.Laws.{length-to_be}
use Rattle.bigendian.proofs.Overwrite.{write-length, drop-write}
use Rattle.bay.specs.Bay.{held, gap}
use Rattle.bay.specs.Sound.{bytes_of}
use Rattle.slide.specs.ZoneBay.{settled}
use Rattle.slide.proofs.One.{set-one}
use Rattle.room.specs.place.Fit.{blank, Fit}

-- the chain's head lies before the block
pub carve-fit : (z z₁ : List ℕ) (at n need h next : ℕ) → Fit z at n need h → zone_header ≤ h → z₁ ≡ overwrite z chain_at (to_be 2 next) → Fit z₁ at n need h
carve-fit z z₁ at n need h next x l e =
    let b = length-to_be 2 next in
    let m : length z₁ ≡ length z = rw e (write-length z (to_be 2 next) chain_at (omega (arith, x.inside, x.below))) in
    record {
      inside = omega (arith, x.inside);
      short = omega (arith, x.short);
      below = x.below;
      size = x.size;
      fits = x.fits;
      four_n = x.four_n;
      bytes = rw e (ap (take n) (drop-write z chain_at at (to_be 2 next) (omega (arith, x.below)) (omega (arith, x.inside))) ∙ x.bytes);
    }

pub carve-done : (z z₁ z₂ z₃ : List ℕ) (at n need h next : ℕ) → zone_header ≤ h → z₁ ≡ overwrite z chain_at (to_be 2 next) → z₂ ≡ overwrite z₁ at (bytes_of (held (blank need h) ∷ gap (n - need) []))
    → z₃ ≡ overwrite z₂ h (to_be 4 (at + reloc_header)) → z₃ ≡ settled (overwrite z chain_at (to_be 2 next)) at (held (blank need h) ∷ gap (n - need) [])
carve-done z z₁ z₂ z₃ at n need h next l e₁ e₂ e₃ =
    e₃ ∙ ap (λ (y : List ℕ). overwrite y h (to_be 4 (at + reloc_header))) (e₂ ∙ ap (λ (y : List ℕ). overwrite y at (bytes_of (held (blank need h) ∷ gap (n - need) []))) e₁)
    ∙ sym (set-one (overwrite z chain_at (to_be 2 next)) at (n - need) (blank need h) (omega arith))
