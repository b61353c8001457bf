-- The call on bays, seen in the zone's bytes: a handle names a block where it has a place.
use mathlib.Core.Path.{◌≡◌, refl, ap}
use mathlib.Core.Bool.{false}
use mathlib.Core.Option.{Option}
use mathlib.Core.List.{List, [], ◌∷◌}
use Prim.Native.Nat.{ℕ}
use lib.ListN.{length}
use Rattle.structure.specs.Structure.{decode_zone}
use Rattle.access.specs.Edit.{place_in}
use Rattle.kinds.specs.Kinds.{Item}
use Rattle.calls.specs.Calls.{told, free_handle}
use Rattle.calls.specs.Bays.{over}
use Rattle.calls.specs.Table.{cause, is_none, first, order}
use Rattle.access.proofs.locate.Live.{place-gone}
use Rattle.free_block.specs.Freed.{freed}
use Rattle.free_block.proofs.Live.{free-passed}
use Rattle.calls.specs.declared.Refusal.TheVariants.{HandleNotLive}
use Rattle.call_laws.specs.Frame.{Does}
use Rattle.call_laws.specs.Refused.{Refuses}
use Rattle.structure.specs.IsZone.{IsZone}

module _ (z : List ℕ) (h : ℕ) where
  -- the refusal, by what is found
  abbrev number : Option Item → ℕ
  number o = first order (cause 1 false ∷ cause 6 (is_none (over length (over (λ (e : Item). e.bytes) o))) ∷ [])

  pub no_block : place_in z h ≡ 0 → Refuses (free_handle h) z HandleNotLive
  unfolding place_in
  no_block e = record { number_is = λ buf. ap number (place-gone h (decode_zone z) e); beside_is = λ buf. refl }

  pub frees : IsZone z → (place_in z h ≡ 0 → ⊥) → (buf : ℕ) → Does (free_handle h) buf z (told 0 0) (freed h (decode_zone z))
  frees i ne buf = record { passed = free-passed z i h ne buf; answer = refl; line = refl }
