-- The plan in the room that has been found.
use mathlib.Core.Path.{◌≡◌, refl, ap, ◌∙◌}
use mathlib.Core.Bool.{Bool}
use mathlib.Core.List.{List}
use Prim.Native.Nat.{ℕ, suc, ◌+◌, ◌≤◌}
use native.Mathlib.Omega.{arith}
use borrow.Author.Tests.{eq-eqb}
use lib.ListN.{length}
use Rattle.format.specs.Occurs.{occurs}
use Rattle.block_type.specs.Limits.{zone_header, master_size}
use Rattle.bigendian.specs.BigEndian.{from_be, slice}
use Rattle.format.specs.WellFormed.{first_field}
use Rattle.format.proofs.Count.{one_same}
use Rattle.format.proofs.Masters.{Master}
use Rattle.structure.specs.Structure.{Structure, count, start, head_of, next_of, decode_zone}
use Rattle.structure.proofs.Table.{value_is, start_is}
use Rattle.structure.proofs.Round.{offset-is, place_none}
use Rattle.settle.proofs.surgery.Sound.{handle-once}
use Rattle.allocate.specs.relocatable.Ready.{RoomIn, GoingIn}
use Rattle.allocate.proofs.relocatable.Placed.{whole, valid, master}

module _ (z : List ℕ) (need h a e at n : ℕ) (t : Bool) (x : RoomIn z need h a e at n t) where
  abbrev s : Structure
  s = decode_zone z

  pub ask-master : h + master_size ≤ length z
  ask-master = let w = whole x in omega (arith, (master x).1, start_is z w, w.within)

  in-chain : occurs h s.chain ≡ suc (occurs h x.ks)
  unfolding occurs
  in-chain = ap (occurs h) x.is_chain ∙ omega (arith, one_same h h refl)

  is-master : Master (first_field z) h
  is-master =
      let v = valid x in
      let r = offset-is h zone_header (count s) (omega (arith, v.owned h, in-chain)) in
      record { low = r.0; fits = omega (arith, r.1, start_is z (whole x)); four = r.2 }

  next_is : (next : ℕ) → next ≡ from_be (slice z h 4) → next ≡ head_of x.ks
  unfolding next_of
  next_is next en =
      let n : next_of h s.chain ≡ head_of x.ks = ap (next_of h) x.is_chain ∙ (rw (eq-eqb h h refl)) in
      omega (arith, en, value_is z (whole x) h is-master, place_none h (start s) s.blocks (omega (arith, handle-once s (valid x) h, in-chain)), n)

  pub going : (next : ℕ) → next ≡ from_be (slice z h 4) → GoingIn z need h next a e at n t
  going next en = record { room_in = x; is_next = next_is next en }
