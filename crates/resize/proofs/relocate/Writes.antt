-- The writes of a move, one after the other.
use mathlib.Core.Path.{◌≡◌, ap, ap₂, ◌∙◌}
use mathlib.Core.List.{List, [], ◌∷◌}
use Prim.Native.Nat.{ℕ, ◌+◌, ◌-◌}
use native.Mathlib.Omega.{arith}
use Rattle.block_type.specs.Limits.{reloc_header}
use Rattle.bigendian.specs.BigEndian.{to_be, slice, overwrite}
use Rattle.bigendian.proofs.Overwrite.{slice-low, slice-high}
use Rattle.structure.specs.Structure.{encode_block, cell}
use Rattle.bay.specs.Bay.{free, held, gap}
use Rattle.bay.specs.Sound.{bytes_of}
use Rattle.room.specs.place.Fit.{blank}
use Rattle.resize.specs.relocate.Move.{Apart, below, above, MoveAt, moved_bytes}

module _ (z : List ℕ) (h old b at n need from to : ℕ) (x : MoveAt z h old b at n need from to) (z₁ : List ℕ) (e₁ : z₁ ≡ overwrite z at (bytes_of (held (blank need h) ∷ gap (n - need) []))) where
  abbrev new : List ℕ
  new = bytes_of (held (blank need h) ∷ gap (n - need) [])

  stays : slice z₁ old b ≡ slice z old b
  stays = ap (λ (y : List ℕ). slice y old b) e₁ ∙ go x.apart
    where
      go : Apart old (old + b) at n → slice (overwrite z at new) old b ≡ slice z old b
      go (below l) = slice-low z new at old b l (omega (arith, x.fit.inside))
      go (above l) = slice-high z new at old b (omega (arith, x.long)) (omega (arith, x.data_inside))

  pub move-done : (z₂ z₃ z₄ : List ℕ) → z₂ ≡ overwrite z₁ (at + reloc_header) (slice z₁ old b) → z₃ ≡ overwrite z₂ h (to_be 4 (at + reloc_header)) → z₄ ≡ overwrite z₃ from (encode_block (cell (free (to - from))))
      → z₄ ≡ moved_bytes z h from to at n need (slice z old b)
  move-done z₂ z₃ z₄ e₂ e₃ e₄ =
      let q₂ : z₂ ≡ overwrite (overwrite z at new) (at + reloc_header) (slice z old b) = e₂ ∙ ap₂ (λ (y w : List ℕ). overwrite y (at + reloc_header) w) e₁ stays in
      e₄ ∙ ap (λ (y : List ℕ). overwrite y from (encode_block (cell (free (to - from))))) (e₃ ∙ ap (λ (y : List ℕ). overwrite y h (to_be 4 (at + reloc_header))) q₂)
