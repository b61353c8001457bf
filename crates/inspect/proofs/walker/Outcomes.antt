-- What a step of the walker says, and where a walker that starts at the first block comes.
use mathlib.Core.Path.{◌≡◌, refl, ap, ap₂, sym, ◌∙◌, subst}
use mathlib.Core.Bool.{Bool, true, false, cond}
use mathlib.Core.List.{List, [], ◌∷◌, ◌++◌, append_assoc}
use Prim.Native.Nat.{ℕ, zero, suc, ◌+◌, ◌<◌}
use native.Mathlib.Omega.{arith}
use lib.Dec.{eqb}
use borrow.Author.Tests.{eqb-true, eq-eqb, ne_eqb}
use lib.ListN.{length}
use Rattle.kinds.proofs.KindLaws.{facts}
use Rattle.bigendian.specs.BigEndian.{Bytes}
use Rattle.format.specs.WellFormed.{well_formed, length_field, zone_of}
use Rattle.structure.specs.Structure.{Block, fixed, size, sizes, start, decode, cell, code}
use Rattle.bay.specs.Bay.{free, held}
use Rattle.structure.specs.Valid.{Tiled}
use Rattle.structure.proofs.Sound.{valid}
use Rattle.structure.proofs.Table.{start_is, whole}
use Rattle.structure.proofs.Append.{sizes-append}
use Rattle.zone.specs.Walker.{Described, describe, start_of_walk, walk_step}
use Rattle.access.proofs.Checked.{first_of, length-is}

describe-at : (at p : ℕ) (bs : List Block) → 0 < (describe at p bs).size → (describe at p bs).offset ≡ at
unfolding describe
describe-at at p [] l = let x : ⊥ = omega arith in absurd x
describe-at at p (b ∷ bs) l = go (eqb at p) refl l (describe-at at (p + size b) bs)
  where
    go : (t : Bool) → eqb at p ≡ t → 0 < (cond t (record { kind = code b; offset = p; size = size b }) (describe at (p + size b) bs)).size
        → (0 < (describe at (p + size b) bs).size → (describe at (p + size b) bs).offset ≡ at)
        → (cond t (record { kind = code b; offset = p; size = size b }) (describe at (p + size b) bs)).offset ≡ at
    go true e l f = sym (eqb-true at p e)
    go false e l f = f l

-- a step that answers a block answers the one at the walker's offset, and the next position is the block's end
pub moves : (s : List ℕ) (at : ℕ) → 0 < (walk_step s at).block.size
    → ((walk_step s at).block.offset ≡ at) × ((walk_step s at).position ≡ (walk_step s at).block.offset + (walk_step s at).block.size)
moves s at l = go (well_formed s) refl
  where
    go : (t : Bool) → well_formed s ≡ t → ((walk_step s at).block.offset ≡ at) × ((walk_step s at).position ≡ (walk_step s at).block.offset + (walk_step s at).block.size)
    go true h = let e = describe-at at (start (decode s)) (decode s).blocks (rw h at l) in (rw h e, rw (h, e))
    go false h = let x : ⊥ = omega (arith, rw h at l) in absurd x

-- any other step stays
pub stays : (s : List ℕ) (at : ℕ) → (walk_step s at).block.size ≡ 0 → (walk_step s at).position ≡ at
stays s at e = go (well_formed s) refl
  where
    go : (t : Bool) → well_formed s ≡ t → (walk_step s at).position ≡ at
    go true h = rw h (omega (arith, rw h at e))
    go false h = rw h

-- ---- a whole walk

-- what n steps answer, and where they end
unfoldable pub answers_of : List ℕ → ℕ → ℕ → List Described
answers_of s zero at = []
answers_of s (suc n) at = (walk_step s at).block ∷ answers_of s n (walk_step s at).position

unfoldable pub end_of : List ℕ → ℕ → ℕ → ℕ
end_of s zero at = at
end_of s (suc n) at = end_of s n (walk_step s at).position

-- the blocks described in address order, the first at offset p
unfoldable pub descriptions : ℕ → List Block → List Described
descriptions p [] = []
descriptions p (b ∷ bs) = record { kind = code b; offset = p; size = size b } ∷ descriptions (p + size b) bs

-- every block has bytes
abbrev Sized : List Block → Type 0
Sized [] = Unit {0}
Sized (b ∷ bs) = (0 < size b) × Sized bs

sized : (prev : Bool) (bs : List Block) → Tiled prev bs → Sized bs
sized prev [] t = tt
sized prev (cell (free n) ∷ bs) t = (omega (arith, t.1), sized true bs t.4)
sized prev (fixed d ∷ bs) t = (omega arith, sized false bs t.3)
sized prev (cell (held it) ∷ bs) t = (omega (arith, (facts it).low), sized false bs t.3)

-- the block behind those of a list is found at the end of them
behind : (p : ℕ) (b : Block) (bs pre : List Block) → Sized (pre ++ b ∷ bs) → describe (p + sizes pre) p (pre ++ b ∷ bs) ≡ record { kind = code b; offset = p + sizes pre; size = size b }
unfolding describe sizes
behind p b bs [] z = let e : p + 0 ≡ p = omega arith in rw (e, eq-eqb p p refl)
behind p b bs (c ∷ pre) z =
    let q : p + sizes (c ∷ pre) ≡ p + size c + sizes pre = omega arith in
    let r : describe (p + sizes (c ∷ pre)) (p + size c) (pre ++ b ∷ bs) ≡ record { kind = code b; offset = p + size c + sizes pre; size = size b } =
    subst (λ (o : ℕ). describe o (p + size c) (pre ++ b ∷ bs) ≡ record { kind = code b; offset = p + size c + sizes pre; size = size b }) (sym q) (behind (p + size c) b bs pre z.1) in
    rw (q, ne_eqb (p + size c + sizes pre) p (λ x. omega (arith, z.0))) r

module _ (s : List ℕ) (h : well_formed s ≡ true) where
  -- from the end of the blocks pre on, a step for each block behind them
  along : (pre bs : List Block) → (decode s).blocks ≡ pre ++ bs → Sized (decode s).blocks
      → (answers_of s (length bs) (start (decode s) + sizes pre) ≡ descriptions (start (decode s) + sizes pre) bs)
      × (end_of s (length bs) (start (decode s) + sizes pre) ≡ start (decode s) + sizes pre + sizes bs)
  unfolding answers_of end_of descriptions sizes
  along pre [] e z = (refl, omega arith)
  along pre (b ∷ bs) e z =
      let p : ℕ = start (decode s) in
      let e' : (decode s).blocks ≡ (pre ++ b ∷ []) ++ bs = e ∙ sym (append_assoc pre (b ∷ []) bs) in
      let f : describe (p + sizes pre) p (decode s).blocks ≡ record { kind = code b; offset = p + sizes pre; size = size b } =
      (rw e) ∙ behind p b bs pre (rw e at z) in
      let k : p + sizes (pre ++ b ∷ []) ≡ p + sizes pre + size b = omega (arith, sizes-append pre (b ∷ [])) in
      let r = along (pre ++ b ∷ []) bs e' z in
      let r₀ = rw k at r.0 in
      let r₁ = rw k at r.1 in
      let g₀ : (walk_step s (p + sizes pre)).block ≡ record { kind = code b; offset = p + sizes pre; size = size b } = rw (h, f) in
      let g₁ : (walk_step s (p + sizes pre)).position ≡ p + sizes pre + size b = rw (h, f) in
      (ap₂ ◌∷◌ g₀ (ap (answers_of s (length bs)) g₁ ∙ r₀), ap (end_of s (length bs)) g₁ ∙ r₁ ∙ omega arith)

none : sizes [] ≡ 0
unfolding sizes
none = refl

begins : (s : List ℕ) → Bytes s → well_formed s ≡ true → start_of_walk s ≡ start (decode s) + sizes []
unfolding decode
begins s y h = rw h (omega (arith, none, first_of s h, start_is (zone_of s) (whole s y h)))

-- from the first block on, as many steps as there are blocks answer each of them once, in address order, and the walker is then at
-- the zone's end
pub whole-walk : (s : List ℕ) → Bytes s → well_formed s ≡ true
    → (answers_of s (length (decode s).blocks) (start_of_walk s) ≡ descriptions (start_of_walk s) (decode s).blocks)
    × (end_of s (length (decode s).blocks) (start_of_walk s) ≡ length_field s)
whole-walk s y h =
    let v = valid s y h in
    let a : start_of_walk s ≡ start (decode s) + sizes [] = begins s y h in
    let r = along s h [] (decode s).blocks refl (sized false (decode s).blocks v.tiled) in
    (rw a r.0, rw a (r.1 ∙ omega (arith, length-is s y h, none)))
