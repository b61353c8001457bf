-- After an accepted compaction each bay has at most one free block, at its end, and compacting again changes nothing.
use mathlib.Core.Path.{◌≡◌, refl, sym, subst, ap, ap₂}
use mathlib.Core.List.{List, [], ◌∷◌}
use Prim.Native.Nat.{ℕ, zero, suc}
use native.Mathlib.Omega.{arith}
use Rattle.bigendian.specs.BigEndian.{Bytes}
use Rattle.structure.specs.Structure.{start, decode}
use Rattle.calls.specs.Calls.{compact}
use Rattle.calls.specs.Bays.{Bays, last, more, map_s}
use Rattle.zone.specs.PickBays.{AllS}
use Rattle.kinds.specs.Kinds.{Item}
use Rattle.calls.specs.State.{Fixed, total}
use Rattle.bay.specs.Bay.{Cell, items, bay_sum, gap, packed, compact_bay}
use Rattle.bay.proofs.Laws.{bsize-split, tidy-size, tidy-items}
use Rattle.zone.specs.Group.{group}
use Rattle.zone.specs.Call.{call}
use Rattle.call_laws.proofs.Outcome.{after-bays}
use Rattle.call_laws.proofs.Accepted.{Accepted, accepted}
use Rattle.compact.specs.Packed.{Packed, none, rest, then}

gap-packed : (n : ℕ) → Packed (gap n [])
gap-packed zero = none
gap-packed (suc n) = rest

items-packed : (es : List Item) {t : List Cell} → Packed t → Packed (packed es t)
items-packed [] p = p
items-packed (e ∷ es) p = then (items-packed es p)

all-packed : (s : Bays (List Cell) Fixed) → AllS Packed (map_s compact_bay s)
all-packed (last b) = items-packed (items b) (gap-packed (bay_sum b))
all-packed (more b x s) = (items-packed (items b) (gap-packed (bay_sum b)), all-packed s)

-- the bays of the bytes that compact leaves
pub compact-packed : (s : List ℕ) → Bytes s → (call compact s).answer.number ≡ 0
    → AllS Packed (group (start (decode (call compact s).bytes)) (decode (call compact s).bytes).blocks)
compact-packed s y e =
    let a : Accepted compact s = accepted compact s (λ n v. refl) refl e in
    subst (AllS Packed) (sym (after-bays s y a.well compact tt)) (all-packed (group (start (decode s)) (decode s).blocks))

-- ---- once more

compact-sum : (cs : List Cell) → bay_sum (compact_bay cs) ≡ bay_sum cs
compact-sum cs = omega (arith, bsize-split (compact_bay cs), bsize-split cs, tidy-size cs, ap total (tidy-items cs))

compact-twice : (cs : List Cell) → compact_bay (compact_bay cs) ≡ compact_bay cs
compact-twice cs = ap₂ (λ (es : List Item) (n : ℕ). packed es (gap n [])) (tidy-items cs) (compact-sum cs)

all-compact : (s : Bays (List Cell) Fixed) → AllS (λ (b : List Cell). compact_bay b ≡ b) (map_s compact_bay s)
all-compact (last b) = compact-twice b
all-compact (more b x s) = (compact-twice b, all-compact s)

pub compact-again : (s : List ℕ) → Bytes s → (call compact s).answer.number ≡ 0
    → AllS (λ (b : List Cell). compact_bay b ≡ b) (group (start (decode (call compact s).bytes)) (decode (call compact s).bytes).blocks)
compact-again s y e =
    let a : Accepted compact s = accepted compact s (λ n v. refl) refl e in
    subst (AllS (λ (b : List Cell). compact_bay b ≡ b)) (sym (after-bays s y a.well compact tt)) (all-compact (group (start (decode s)) (decode s).blocks))
