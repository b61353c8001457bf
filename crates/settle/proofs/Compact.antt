-- A run of cells compacted in the bytes of a valid structure.
use mathlib.Core.Path.{◌≡◌, refl, sym, ap, ◌∙◌}
use mathlib.Core.List.{List, [], ◌∷◌, ◌++◌, map}
use Prim.Native.Nat.{◌+◌}
use native.Mathlib.Omega.{arith}
use Rattle.kinds.specs.Kinds.{Item}
use Rattle.bay.specs.Bay.{Cell, free, held, items, packed, compact_bay}
use Rattle.bay.proofs.Laws.{tidy-size, tidy-items}
use Rattle.bay.proofs.SoundLaws.{compact-sound}
use Rattle.structure.specs.Structure.{Block, Structure, sizes, start, encode, cell, handles_of, names_in}
use Rattle.structure.specs.Valid.{Valid}
use Rattle.kinds.specs.Kinds.{names_of}
use Rattle.calls.specs.Sort.{flat}
use Rattle.settle.proofs.surgery.Replace.{sizes-parts}
use Rattle.slide.specs.ZoneBay.{settled}
use Rattle.settle.proofs.Cells.{all-sizes, handles-items}
use Rattle.settle.proofs.Any.{settle}
use Rattle.settle.proofs.Bay.{cells-sound}

pub compact-handles : (cs : List Cell) → handles_of (map cell (compact_bay cs)) ≡ handles_of (map cell cs)
compact-handles cs = handles-items (compact_bay cs) ∙ ap (λ (es : List Item). handles_of (map cell (packed es []))) (tidy-items cs) ∙ sym (handles-items cs)

-- the names of a bay's pages, by its items
names-items : (cs : List Cell) → names_in (map cell cs) ≡ flat names_of (items cs)
unfolding names_in
names-items [] = refl
names-items (free n ∷ cs) = names-items cs
names-items (held e ∷ cs) = ap (names_of e ++◌) (names-items cs)

pub compact-names : (cs : List Cell) → names_in (map cell (compact_bay cs)) ≡ names_in (map cell cs)
compact-names cs = names-items (compact_bay cs) ∙ ap (flat names_of) (tidy-items cs) ∙ sym (names-items cs)

pub compact-settled : (s : Structure) → Valid s → (pre post : List Block) (cs : List Cell) → s.blocks ≡ pre ++ (map cell cs ++ post)
    → settled (encode s) (start s + sizes pre) (compact_bay cs) ≡ encode (record { clock = s.clock; chain = s.chain; blocks = pre ++ (map cell (compact_bay cs) ++ post) })
compact-settled s v pre post cs e =
    settle s v pre post cs (compact_bay cs) e
    (compact-sound cs (omega (arith, v.short, ap sizes e, sizes-parts pre (map cell cs) post, all-sizes cs)) (cells-sound s v pre post cs e))
    (tidy-size cs)
    (compact-handles cs)
