-- A handle that is found among a zone's bays has a place and data.
use mathlib.Core.Path.{◌≡◌, sym, ap, ◌∙◌}
use mathlib.Core.Option.{some}
use mathlib.Core.List.{List}
use Prim.Native.Nat.{ℕ}
use native.Mathlib.Omega.{arith}
use Rattle.kinds.specs.Kinds.{Item}
use Rattle.structure.specs.Structure.{decode_zone}
use Rattle.zone.proofs.Once.{block_of}
use Rattle.access.specs.Edit.{place_in, data_in}
use Rattle.bays.specs.Places.{bays_of}
use Rattle.access.proofs.locate.Live.{place-gone, place-live}

-- the data of a handle that is found, and that it has a place
pub its-data : (z : List ℕ) (h : ℕ) (e : Item) → block_of h (bays_of (decode_zone z)) ≡ some e → (place_in z h ≡ 0 → ⊥) × (data_in z h ≡ e.bytes)
unfolding place_in data_in
its-data z h e f =
    let ne : (place_in z h ≡ 0 → ⊥) = λ q. (let y = sym f ∙ place-gone h (decode_zone z) q in let x : ◌≡◌ {A = ℕ} 0 1 = cc in omega arith) in
    let l = place-live h (decode_zone z) ne in
    let q : l.0 ≡ e = (let y = sym l.1 ∙ f in cc) in
    (ne, sym l.2 ∙ ap (λ (i : Item). i.bytes) q)
