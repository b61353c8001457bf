-- The search for the place that a live handle's block has: each step may be done.
use mathlib.Core.Path.{◌≡◌, refl, sym, ◌∙◌}
use mathlib.Core.Bool.{Bool, true, false}
use mathlib.Core.List.{List}
use Prim.Native.Nat.{ℕ, ◌+◌, ◌-◌, ◌≤◌}
use mir.Val.{Fits}
use mir.Syntax.{w64}
use borrow.Author.Tests.{leb-true, leb-false}
use lib.Dec.{leb}
use lib.ListN.{length}
use Rattle.block_type.specs.Limits.{reloc_header, master_size}
use Rattle.bigendian.specs.BigEndian.{from_be, slice}
use Rattle.format.specs.WellFormed.{first_field, is_master}
use Rattle.access.specs.Edit.{place_in, data_in}
use Rattle.access.proofs.PlaceLaws.{place-no, place-low, place-yes, handle-fits}
use Rattle.free_block.specs.Extends.{BlockIn}
use Rattle.free_block.proofs.Live.{data-low, end-word, block-in}
use Rattle.resize.specs.relocate.Relocate.{LiveIn, live_in}
use Rattle.structure.specs.IsZone.{IsZone}

module _ (z : List ℕ) (h b : ℕ) (x : LiveIn z h b) where
  pub old-zone : IsZone z
  old-zone = go x
    where
      go : LiveIn z h b → IsZone z
      go (live_in i l n e) = i

  live : place_in z h ≡ 0 → ⊥
  live = go x
    where
      go : LiveIn z h b → place_in z h ≡ 0 → ⊥
      go (live_in i l n e) = n

  is_b : b ≡ length (data_in z h)
  is_b = go x
    where
      go : LiveIn z h b → b ≡ length (data_in z h)
      go (live_in i l n e) = e

  is-live : is_master (first_field z) h ≡ true
  is-live = go (is_master (first_field z) h) refl
    where
      go : (t : Bool) → is_master (first_field z) h ≡ t → t ≡ true
      go true q = refl
      go false q = absurd (live (sym (place-no z old-zone h (first_field z) false refl (sym q) refl)))

  -- its master is there, and says where its data lie
  pub old-master : h + master_size ≤ length z
  old-master = handle-fits z old-zone h (first_field z) true refl (sym is-live) refl

  pub old-place : (place : ℕ) → place ≡ from_be (slice z h 4) → place ≡ place_in z h
  old-place place e = go (leb (first_field z) place) refl
    where
      go : (t : Bool) → leb (first_field z) place ≡ t → place ≡ place_in z h
      go true q = place-yes z old-zone h (first_field z) true refl (sym is-live) place refl e (leb-true _ _ q)
      go false q = absurd (live (sym (place-low z old-zone h (first_field z) true refl (sym is-live) place e (leb-false _ _ q))))

  module _ (place : ℕ) (e : place ≡ place_in z h) where
    ne : place ≡ 0 → ⊥
    ne q = live (sym e ∙ q)

    pub old-low : reloc_header ≤ place
    old-low = data-low z old-zone h place e ne

    pub old-end : Fits w64 (place + b)
    old-end = end-word z old-zone h place e ne b is_b

    pub old_in : BlockIn z (place - reloc_header) (place + b)
    old_in = block-in z old-zone h place e ne b is_b
