-- A block that becomes free, in a valid structure: which blocks become one free block, and what stands before and behind it.
use mathlib.Core.Path.{◌≡◌, sym, ap, ap₂, ◌∙◌, subst}
use mathlib.Core.Bool.{false}
use mathlib.Core.List.{List, [], ◌∷◌, ◌++◌, map, append_assoc, append-nil, map-append}
use Prim.Native.Nat.{ℕ, ◌+◌, ◌≤◌}
use native.Mathlib.Omega.{arith}
use Rattle.block_type.specs.Limits.{free_header}
use Rattle.bay.specs.Bay.{Cell, free, bay_size, gap}
use Rattle.bay.specs.Ends.{end_free, start_free}
use Rattle.bay.proofs.Sound as Sound
use Rattle.bay.proofs.Free.{lower, upper, lower-is, upper_is, joined_is}
use Rattle.structure.specs.Structure.{Block, cell, Structure, size, sizes, handles_of}
use Rattle.structure.specs.Valid.{Tiled, Valid}
use Rattle.structure.proofs.Append.{sizes-append, handles-append}
use Rattle.structure.proofs.Cells.{tiled-cells, gap-sizes, gap-handles}
use Rattle.access.specs.row.Row as Row
use Rattle.access.proofs.row.Laws.{low_of, sound-left, sound-right, sound-four}
use Rattle.access.proofs.row.Zone.{valid-sound}
use Rattle.settle.proofs.surgery.Sound.{tiled-right}
use Rattle.settle.proofs.Cells.{all-sizes}
use Rattle.free_block.specs.Around.{Around}

-- what stands before the block
pub lows-sizes : {bs bs' : List Block} {b : Block} (a : Around bs bs' b) → sizes (a.pre ++ map cell a.low) ≡ sizes a.pre + bay_size a.low
lows-sizes a = omega (arith, sizes-append a.pre (map cell a.low), all-sizes a.low)

module _ (s : Structure) (v : Valid s) {bs' : List Block} {b : Block} (a : Around s.blocks bs' b) where
  -- what becomes free: the block and its free neighbours
  abbrev pub amount : ℕ
  amount = end_free a.low + (size b + start_free a.high)

  abbrev pub before : List Block
  before = a.pre ++ map cell (lower a.low)

  abbrev pub inside : List Block
  inside = map cell (gap (end_free a.low) []) ++ (b ∷ map cell (gap (start_free a.high) []))

  abbrev pub after : List Block
  after = map cell (upper a.high) ++ a.post

  tiled-parts : Tiled false (a.pre ++ (map cell a.low ++ (b ∷ (map cell a.high ++ a.post))))
  tiled-parts = subst (Tiled false) a.old v.tiled

  low-sound : Sound.Sound a.low
  low-sound = tiled-cells _ a.low _ (tiled-right false a.pre _ tiled-parts)

  high-sound : Sound.Sound a.high
  high-sound =
      let t = tiled-right _ (map cell a.low) _ (tiled-right false a.pre _ tiled-parts) in
      tiled-cells _ a.high a.post (tiled-right _ (b ∷ []) (map cell a.high ++ a.post) t)

  low-cells : map cell a.low ≡ map cell (lower a.low) ++ map cell (gap (end_free a.low) [])
  low-cells = ap (map cell) (sym (lower-is low-sound)) ∙ map-append cell (lower a.low) (gap (end_free a.low) [])

  high-cells : map cell a.high ≡ map cell (gap (start_free a.high) []) ++ map cell (upper a.high)
  high-cells = ap (map cell) (sym (upper_is high-sound)) ∙ map-append cell (gap (start_free a.high) []) (upper a.high)

  pub old-parts : s.blocks ≡ before ++ (inside ++ after)
  old-parts =
      a.old
      ∙ ap₂ (λ (x y : List Block). a.pre ++ (x ++ (b ∷ (y ++ a.post)))) low-cells high-cells
      ∙ (simp append_assoc)

  pub block-low : free_header ≤ size b
  block-low = (low_of b (sound-right (map cell a.low) _ (sound-right a.pre _ (subst Row.Sound a.old (valid-sound s v)))).0).0

  pub new-parts : bs' ≡ before ++ ((cell (free amount) ∷ []) ++ after)
  new-parts =
      a.new
      ∙ ap (λ (cs : List Cell). a.pre ++ (map cell cs ++ a.post)) (joined_is (size b) a.high (omega (arith, block-low)) low-sound)
      ∙ ap (λ (x : List Block). a.pre ++ (x ++ a.post)) (map-append cell (lower a.low) (free amount ∷ upper a.high))
      ∙ (simp append_assoc)

  pub inside-sizes : sizes inside ≡ amount
  unfolding sizes
  inside-sizes =
      omega (
        arith,
        sizes-append (map cell (gap (end_free a.low) [])) (b ∷ map cell (gap (start_free a.high) [])),
        gap-sizes (end_free a.low),
        gap-sizes (start_free a.high),
      )

  pub before-sizes : sizes before + end_free a.low ≡ sizes a.pre + bay_size a.low
  before-sizes =
      omega (
        arith,
        sizes-append a.pre (map cell (lower a.low)),
        all-sizes a.low,
        ap sizes low-cells,
        sizes-append (map cell (lower a.low)) (map cell (gap (end_free a.low) [])),
        gap-sizes (end_free a.low),
      )

  pub all-sizes-are : sizes before + (amount + sizes after) ≡ sizes s.blocks
  all-sizes-are = omega (arith, ap sizes old-parts, sizes-append before (inside ++ after), sizes-append inside after, inside-sizes)

  pub inside-handles : handles_of inside ≡ handles_of (b ∷ [])
  unfolding handles_of
  inside-handles =
      handles-append (map cell (gap (end_free a.low) [])) (b ∷ map cell (gap (start_free a.high) []))
      ∙ ap₂ (λ (x y : List ℕ). x ++ y) (gap-handles (end_free a.low)) (handles-append (b ∷ []) (map cell (gap (start_free a.high) [])))
      ∙ ap (λ (x : List ℕ). handles_of (b ∷ []) ++ x) (gap-handles (start_free a.high))
      ∙ append-nil (handles_of (b ∷ []))

  pub free-sound : Row.Sound (cell (free amount) ∷ [])
  free-sound =
      let i = sound-left inside after (sound-right before (inside ++ after) (subst Row.Sound old-parts (valid-sound s v))) in
      ((omega (arith, block-low), rw (← inside-sizes) (sound-four inside i), omega (arith, all-sizes-are, v.short)), tt)
