-- Grouping and flattening undo each other.
use mathlib.Core.Path.{◌≡◌, refl, ap, sym, ◌∙◌, ap₂}
use mathlib.Core.List.{List, [], ◌∷◌, ◌++◌, append-nil}
use Prim.Native.Nat.{ℕ, ◌+◌}
use native.Mathlib.Nat.{add-zero, add_assoc}
use lib.ListN.{length}
use Rattle.block_type.specs.Limits.{fixed_header}
use Rattle.structure.specs.Structure.{Block, fixed, cell}
use Rattle.calls.specs.Bays.{Bays, last, more}
use Rattle.kinds.specs.Kinds.{item_size}
use Rattle.calls.specs.State.{Fixed}
use Rattle.bay.specs.Bay.{Cell, free, held, bay_size}
use Rattle.zone.proofs.Places.{Tiled, tile-last, tile-more}
use Rattle.zone.specs.Group.{in_front, group, flat_bay, flatten}

flatten_front : (c : Cell) (s : Bays (List Cell) Fixed) → flatten (in_front c s) ≡ cell c ∷ flatten s
flatten_front c (last b) = refl
flatten_front c (more b x s) = refl

pub flatten-group : (p : ℕ) (bs : List Block) → flatten (group p bs) ≡ bs
flatten-group p [] = refl
flatten-group p (cell (free n) ∷ bs) = flatten_front (free n) (group (p + n) bs) ∙ ap (cell (free n) ∷◌) (flatten-group (p + n) bs)
flatten-group p (cell (held e) ∷ bs) = flatten_front (held e) (group (p + item_size e) bs) ∙ ap (cell (held e) ∷◌) (flatten-group (p + item_size e) bs)
flatten-group p (fixed d ∷ bs) = ap (fixed d ∷◌) (flatten-group (p + (fixed_header + length d)) bs)

-- cells in front of the first bay
abbrev pub front : List Cell → Bays (List Cell) Fixed → Bays (List Cell) Fixed
front a (last b) = last (a ++ b)
front a (more b x s) = more (a ++ b) x s

pub front-nil : (s : Bays (List Cell) Fixed) → front [] s ≡ s
front-nil (last b) = refl
front-nil (more b x s) = refl

front-cons : (c : Cell) (cs : List Cell) (s : Bays (List Cell) Fixed) → in_front c (front cs s) ≡ front (c ∷ cs) s
front-cons c cs (last b) = refl
front-cons c cs (more b x s) = refl

group-bay : (p : ℕ) (cs : List Cell) (r : List Block) → group p (flat_bay cs r) ≡ front cs (group (p + bay_size cs) r)
group-bay p [] r = ap (λ (q : ℕ). group q r) (sym (add-zero p)) ∙ sym (front-nil (group (p + 0) r))
group-bay p (free n ∷ cs) r = ap (in_front (free n)) (group-bay (p + n) cs r ∙ ap (λ (q : ℕ). front cs (group q r)) (add_assoc p n (bay_size cs))) ∙ front-cons (free n) cs (group (p + (n + bay_size cs)) r)
group-bay p (held e ∷ cs) r = ap (in_front (held e)) (group-bay (p + item_size e) cs r ∙ ap (λ (q : ℕ). front cs (group q r)) (add_assoc p (item_size e) (bay_size cs))) ∙ front-cons (held e) cs (group (p + (item_size e + bay_size cs)) r)

-- where each fixed block's place is its offset
pub group-flatten : {p end : ℕ} {s : Bays (List Cell) Fixed} → Tiled p s end → group p (flatten s) ≡ s
group-flatten (tile-last {p = p} {b = b} e) = group-bay p b [] ∙ ap last (append-nil b)
group-flatten (tile-more {p = p} {b = b} {x = x} {s = s} e t) =
    group-bay p b (fixed x.bytes ∷ flatten s)
    ∙ ap (λ (q : ℕ). front b (more [] (record { place = q; bytes = x.bytes }) (group (q + (fixed_header + length x.bytes)) (flatten s)))) e
    ∙ ap₂ (λ (c : List Cell) (u : Bays (List Cell) Fixed). more c x u) (append-nil b) (group-flatten t)
