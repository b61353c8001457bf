-- The block of a handle among the blocks of the bays, and the bays without it.
use mathlib.Core.Path.{◌≡◌, refl, ap, ap₂, ◌∙◌}
use mathlib.Core.Bool.{Bool, true}
use mathlib.Core.Option.{Option, none, some}
use mathlib.Core.List.{List, [], ◌∷◌, map, append_assoc, ◌++◌, map-append}
use Prim.Native.Nat.{◌≤◌}
use native.Mathlib.Omega.{arith}
use Rattle.structure.specs.Structure.{Block, fixed, cell}
use Rattle.kinds.specs.Kinds.{Item}
use Rattle.calls.specs.Bays.{Bays, last, more, map_s, or_else}
use Rattle.calls.specs.State.{get, Fixed}
use Rattle.bay.specs.Bay.{Cell, held, items, release}
use Rattle.bay.specs.Counted.{count}
use Rattle.bay.proofs.Sound.{Sound}
use Rattle.bay.proofs.Free.{release-none, Released, released}
use Rattle.zone.specs.PickBays.{AllS}
use Rattle.zone.specs.Group.{flat_bay, flatten}
use Rattle.zone.proofs.Once.{often, count-get, block_by}
use Rattle.zone.proofs.HowMany.{many}
use Rattle.free_block.specs.Around.{first_part, Around}
use Rattle.free_block.proofs.Around.{around_here, around-same, around-later}

-- bays without such a block stay as they are
pub none-released : (ok : Item → Bool) (s : Bays (List Cell) Fixed) → AllS Sound s → many ok s ≡ 0 → map_s (release ok) s ≡ s
none-released ok (last b) d l = ap last (release-none ok d l)
none-released ok (more b x s) d l = ap₂ (λ (c : List Cell) (t : Bays (List Cell) Fixed). more c x t) (release-none ok d.0 (omega arith)) (none-released ok s d.1 (omega arith))

-- the block in the first bay, whatever stands behind that
abbrev pub around-own : (ok : Item → Bool) (e : Item) (b : List Cell) (r : List Block) → first_part r ≡ 0 → Released ok e b → Around (flat_bay b r) (flat_bay (release ok b) r) (cell (held e))
around-own ok e b r q d =
    around-same
    (ap (λ (c : List Cell). flat_bay c r) d.parts ∙ ap (◌++ r) (map-append cell d.low (held e ∷ d.high)) ∙ append_assoc (map cell d.low) (map cell (held e ∷ d.high)) r)
    (ap (λ (c : List Cell). flat_bay c r) d.left)
    (around_here d.low d.high (cell (held e)) r q)

pub own_block : (ok : Item → Bool) (e : Item) (s : Bays (List Cell) Fixed) → AllS Sound s → many ok s ≤ 1 → block_by ok s ≡ some e
    → Around (flatten s) (flatten (map_s (release ok) s)) (cell (held e)) × (ok e ≡ true)
own_block ok e (last b) d l f = let r = released ok e d f l in (around-own ok e b [] refl r, r.its)
own_block ok e (more b x s) d l f = go (get ok (items b)) refl f (count-get ok (items b) (omega arith)) (λ k f. own_block ok e s d.1 k f)
  where
    go : (o : Option Item) → get ok (items b) ≡ o → or_else o (block_by ok s) ≡ some e → count ok (items b) ≡ often o
        → (many ok s ≤ 1 → block_by ok s ≡ some e → Around (flatten s) (flatten (map_s (release ok) s)) (cell (held e)) × (ok e ≡ true))
        → Around (flatten (more b x s)) (flatten (map_s (release ok) (more b x s))) (cell (held e)) × (ok e ≡ true)
    go none g f q k =
        let r = k (omega arith) f in
        (around-same refl (ap (λ (c : List Cell). flat_bay c (fixed x.bytes ∷ flatten (map_s (release ok) s))) (release-none ok d.0 q)) (around-later b x.bytes r.0), r.1)
    go (some i) g f q k =
        let r = released ok e d.0 (g ∙ f) (omega arith) in
        (around-same refl (ap (λ (t : Bays (List Cell) Fixed). flat_bay (release ok b) (fixed x.bytes ∷ flatten t)) (none-released ok s d.1 (omega arith))) (around-own ok e b (fixed x.bytes ∷ flatten s) refl r), r.its)
