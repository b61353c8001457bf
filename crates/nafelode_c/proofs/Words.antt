-- What the calls answer fits a C number.
use mathlib.Core.Path.{◌≡◌, refl, ap}
use mathlib.Core.Bool.{Bool, true, false, cond}
use mathlib.Core.List.{List, [], ◌∷◌}
use Prim.Native.Nat.{ℕ, ◌+◌, ◌≤◌, max}
use native.Mathlib.Omega.{arith}
use lib.Dec.{eqb}
use borrow.Author.Tests.{eqb-true}
use mir.Val.{Fits}
use mir.Syntax.{w32}
use Rattle.block_type.specs.Types.{type_code}
use Rattle.block_type.specs.Limits.{longest_zone}
use Rattle.bigendian.specs.BigEndian.{Bytes}
use Rattle.format.specs.WellFormed.{well_formed}
use Rattle.structure.specs.Structure.{Block, size, sizes, start, decode, code}
use Rattle.bay.specs.Bay.{Cell, bay_sum}
use Rattle.bay.proofs.Laws.{bsize-split}
use Rattle.structure.proofs.Sound.{valid}
use Rattle.calls.specs.Bays.{Bays, sum_s}
use Rattle.calls.specs.State.{Fixed}
use Rattle.calls.specs.Calls.{sums, check, told_two}
use Rattle.zone.specs.Call.{Result, call}
use Rattle.zone.specs.Promise.{Promise}
use Rattle.zone.proofs.Places.{Tiled, tile-last, tile-more}
use Rattle.zone.proofs.Run.{well-whole}
use Rattle.std.specs.Prelude.{Option, Some, Ok}
use Rattle.std.specs.Prelude.{Result as CodeResult}
use Rattle.calls.specs.declared.Refusal.{Refusal}
use Rattle.inspect.specs.walker.Told.{walked_by}
use Rattle.inspect.specs.declared.walker.Described.{Described as CodeDescribed}
use Rattle.zone.specs.Walker.{Described, Walked, describe, walked, start_of_walk, walk_step}
use Rattle.access.proofs.Checked.{fields-of}
use Rattle.tell.proofs.Outcomes.{largest-total, check-few}

-- ---- the sums

tiled-sum : {p end : ℕ} {s : Bays (List Cell) Fixed} → Tiled p s end → p + sum_s bay_sum s ≤ end
tiled-sum (tile-last {b = b} e) = omega (arith, bsize-split b)
tiled-sum (tile-more {b = b} e t) = omega (arith, bsize-split b, tiled-sum t)

pub total-small : (s : List ℕ) → Bytes s → (call sums s).answer.value ≤ longest_zone
total-small s y = go (well_formed s) refl
  where
    go : (t : Bool) → well_formed s ≡ t → (call sums s).answer.value ≤ longest_zone
    go true h = rw h (omega (arith, tiled-sum (well-whole s y h).placed.tiled, (valid s y h).short))
    go false h = rw h (omega arith)

module _ (s : List ℕ) (y : Bytes s) where
  module _ (n total largest : ℕ) (p : Promise sums s (told_two n total largest) s) where
    pub total-word : Fits w32 total
    total-word = record { fits = omega (arith, ap (λ (r : Result). r.answer.value) p, total-small s y) }

    pub largest-word : Fits w32 largest
    largest-word = record { fits = omega (arith, ap (λ (r : Result). r.answer.second) p, largest-total s, total-small s y) }

  pub count_word : (b n : ℕ) → Promise check s (told_two 0 b n) s → Fits w32 n
  count_word b n p = record { fits = omega (arith, ap (λ (r : Result). r.answer.second) p, check-few s y) }

-- ---- the walker

pub start_word : (s : List ℕ) (v : ℕ) → v ≡ start_of_walk s → Fits w32 v
start_word s v e = record { fits = omega (arith, go (well_formed s) refl) }
  where
    go : (t : Bool) → well_formed s ≡ t → v ≤ longest_zone
    go true h = let q = rw h at e in let f = fields-of s h in omega arith
    go false h = let q = rw h at e in omega arith

-- a block that is described ends by the end of the blocks, and so does a step to its end
record Within (at end : ℕ) (d : Described) : Type 0 where
  pub block : d.offset + d.size ≤ end
  pub step : at + d.size ≤ max at end

within : (at p : ℕ) (bs : List Block) → Within at (p + sizes bs) (describe at p bs)
unfolding describe sizes
within at p [] = record { block = omega arith; step = omega arith }
within at p (b ∷ bs) = go (eqb at p) refl (within at (p + size b) bs)
  where
    go : (t : Bool) → eqb at p ≡ t → Within at (p + size b + sizes bs) (describe at (p + size b) bs)
        → Within at (p + (size b + sizes bs)) (cond t (record { kind = code b; offset = p; size = size b }) (describe at (p + size b) bs))
    go true e w = record { block = omega arith; step = omega (arith, eqb-true at p e) }
    go false e w = record { block = omega (arith, w.block); step = omega (arith, w.step) }

step-within : (s : List ℕ) (at : ℕ) → Bytes s → ((walk_step s at).block.offset + (walk_step s at).block.size ≤ longest_zone) × ((walk_step s at).position ≤ max at longest_zone)
step-within s at y = go (well_formed s) refl
  where
    go : (t : Bool) → well_formed s ≡ t → ((walk_step s at).block.offset + (walk_step s at).block.size ≤ longest_zone) × ((walk_step s at).position ≤ max at longest_zone)
    go true h =
        let w = within at (start (decode s)) (decode s).blocks in
        let v = (valid s y h).short in
        (rw h (omega (arith, w.block)), rw h (omega (arith, w.step)))
    go false h = (rw h (omega arith), rw h (omega arith))

module _ (s : List ℕ) (y : Bytes s) (at next : ℕ) (r : CodeResult (Option CodeDescribed) Refusal) (e : walked_by r next ≡ walk_step s at) where
  pub next_word : Fits w32 at → Fits w32 next
  next_word f = record { fits = omega (arith, f.fits, ap (λ (w : Walked). w.position) e, (step-within s at y).1) }

  module _ (o : Option CodeDescribed) (d : CodeDescribed) (q : r ≡ Ok o) (k : o ≡ Some d) where
    there : walked 0 (type_code d.kind) d.offset d.size next ≡ walk_step s at
    there = rw (q, k) at e

    pub offset_word : Fits w32 d.offset
    offset_word = record { fits = omega (arith, ap (λ (w : Walked). w.block.offset) there, (step-within s at y).0) }

    pub size_word : Fits w32 d.size
    size_word = record { fits = omega (arith, ap (λ (w : Walked). w.block.size) there, (step-within s at y).0) }
