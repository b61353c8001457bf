-- The data of a handle, by its master and its block's header.
use mathlib.Core.Path.{◌≡◌, refl, sym}
use mathlib.Core.Bool.{Bool, true, false}
use mathlib.Core.List.{List}
use Prim.Native.Nat.{ℕ, ◌+◌, ◌-◌, ◌<◌, ◌≤◌}
use native.Mathlib.Omega.{arith}
use lib.ListN.{length, drop}
use Rattle.block_type.specs.Limits.{reloc_header, master_size, smallest_block}
use Rattle.bigendian.specs.BigEndian.{from_be, slice}
use Rattle.format.specs.WellFormed.{is_master, size_of}
use Rattle.structure.specs.IsZone.{IsZone}
use Rattle.access.specs.Edit.{place_in}
use Rattle.access.specs.row.Begins.{Begins}
use Rattle.access.specs.locate.Found.{NoData, IsData}
use Rattle.access.proofs.PlaceLaws.{place-no, place-low, place-yes, handle-fits}
use Rattle.access.proofs.Size.{size_none, size_low, size_fits, size-four, size-data}

module _ (z : List ℕ) (i : IsZone z) (h first : ℕ) (b : Begins z first) (t : Bool) (et : t ≡ is_master first h) where
  none : 0 ≡ place_in z h → NoData z h
  none e = record { place_is = sym e; size_is = sym (size_none z h 0 e refl) }

  pub no-master : t ≡ false → NoData z h
  no-master q = none (place-no z i h first t b.first_is et q)

  pub master_fits : t ≡ true → h + master_size ≤ length z
  master_fits q = handle-fits z i h first t b.first_is et q

  module _ (q : t ≡ true) (at : ℕ) (ea : at ≡ from_be (slice z h 4)) where
    pub free-master : at < first → NoData z h
    free-master l = none (place-low z i h first t b.first_is et at ea l)

    module _ (l : first ≤ at) where
      place_is : at ≡ place_in z h
      place_is = place-yes z i h first t b.first_is et at q ea l

      some : at ≡ 0 → ⊥
      some k = omega (arith, b.header, l, k)

      pub live-low : reloc_header ≤ at
      live-low = size_low z i h at place_is some

      pub live-fits : at - reloc_header + smallest_block ≤ length z
      live-fits = omega (arith, size_fits z i h at place_is some)

      pub live_header : (n : ℕ) → n ≡ size_of (drop (at - reloc_header) z) → reloc_header ≤ n
      live_header n e = omega (arith, size-four z i h at place_is some n e)

      pub live-data : (n : ℕ) → n ≡ size_of (drop (at - reloc_header) z) → IsData z h (record { at = at; size = n - reloc_header })
      live-data n e = record { at_is = place_is; some = some; size_is = size-data z i h at place_is some n e }
