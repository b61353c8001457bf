-- Each way may be gone, and leaves what the definition says.
use mathlib.Core.Path.{◌≡◌, sym, ap, ◌∙◌}
use mathlib.Core.Bool.{Bool, true, false, cond}
use mathlib.Core.List.{List}
use Prim.Native.Nat.{ℕ, ◌-◌}
use native.Mathlib.Omega.{arith}
use borrow.Author.Tests.{lt-leb}
use lib.ListN.{length}
use lib.Dec.{leb}
use Rattle.structure.specs.Structure.{Structure, encode, decode_zone}
use Rattle.access.specs.Edit.{data_in, data_of}
use Rattle.calls.specs.Bays.{map_s, on_lowest}
use Rattle.calls.specs.State.{sized, own_sum}
use Rattle.kinds.specs.Kinds.{item, is}
use Rattle.bay.specs.Bay.{bay_sum, items, release, reshape}
use Rattle.zone.specs.Group.{flatten}
use Rattle.zone.specs.Work.{has, place_low}
use Rattle.bays.specs.Places.{bays_of}
use Rattle.resize.specs.reshape.Own.{reshaped}
use Rattle.resize.specs.reshape.Here.{Here}
use Rattle.resize.specs.reshape.Grow.{Laid}
use Rattle.resize.proofs.reshape.Plan.{here-reached, laid-reached}
use Rattle.resize.specs.relocate.Relocate.{relocated, RelocateIn, relocate_of}
use Rattle.resize.specs.Ready.{resized_to}

-- by whether the sum of its own bay reaches the growth
module _ (z : List ℕ) (h a : ℕ) where
  abbrev s : Structure
  s = decode_zone z

  abbrev reach : Bool
  reach = leb (a - length (data_in z h)) (own_sum items bay_sum h (bays_of s))

  by : Bool → Structure
  by t = record {
    clock = s.clock;
    chain = s.chain;
    blocks = flatten (cond t (on_lowest (has h) (reshape h a) (bays_of s)) (place_low (item h (sized a (data_of h s.blocks))) (map_s (release (is h)) (bays_of s))));
  }

  stays : reach ≡ true → resized_to h a s ≡ reshaped h a s
  unfolding data_in by
  stays q = ap by q

  moves : reach ≡ false → resized_to h a s ≡ relocated h a s
  unfolding data_in by
  moves q = ap by q

module _ (z : List ℕ) (h b a : ℕ) (y : List ℕ) where
  pub here-done : (at f : ℕ) → Here z h at b f a → y ≡ encode (reshaped h a (decode_zone z)) → y ≡ encode (resized_to h a (decode_zone z))
  here-done at f x ey = ey ∙ ap encode (sym (stays z h a (here-reached z h at b f a x)))

  pub own-done : (st e sum : ℕ) → Laid z h st e sum b a → y ≡ encode (reshaped h a (decode_zone z)) → y ≡ encode (resized_to h a (decode_zone z))
  own-done st e sum x ey = ey ∙ ap encode (sym (stays z h a (laid-reached z h st e sum b a x)))

  pub other-done : (st e at n : ℕ) (t : Bool) → RelocateIn z h b a st e at n t → y ≡ encode (relocated h a (decode_zone z)) → y ≡ encode (resized_to h a (decode_zone z))
  other-done st e at n t x ey =
      let r = relocate_of x in
      ey ∙ ap encode (sym (moves z h a (lt-leb (a - length (data_in z h)) (own_sum items bay_sum h (bays_of (decode_zone z))) (omega (arith, r.lacking, r.grows.is_b)))))
