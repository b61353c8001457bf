-- The bytes of a zone at the place of the named block are its data.
use mathlib.Core.Path.{◌≡◌, sym, ap, ◌∙◌}
use mathlib.Core.Bool.{true}
use mathlib.Core.Option.{none, some}
use mathlib.Core.List.{List}
use Prim.Native.Nat.{ℕ, ◌+◌, ◌-◌, ◌≤◌}
use native.Mathlib.Omega.{arith}
use lib.ListN.{length, take, drop, length-take}
use lib.Seq.{take-take, drop-drop}
use borrow.Author.Tests.{ne_eqb}
use Rattle.block_type.specs.Limits.{longest_zone}
use Rattle.bigendian.specs.BigEndian.{slice, Bytes}
use Rattle.bigendian.proofs.Parts.{drop-take}
use Rattle.format.specs.WellFormed.{well_formed, zone_of, length_field}
use Rattle.structure.specs.Structure.{start, decode_zone, decode}
use Rattle.structure.proofs.Round.{rest-is}
use Rattle.structure.proofs.Table.{Whole, whole, len_is, encode-zone}
use Rattle.structure.proofs.Sound.{valid-zone}
use Rattle.access.specs.row.Row.{bytes_of}
use Rattle.access.proofs.row.Zone.{valid-sound}
use Rattle.access.proofs.Checked.{fields-of}
use Rattle.calls.specs.Calls.{Target}
use Rattle.calls.specs.State.{content}
use Rattle.bay.specs.Bay.{items}
use Rattle.zone.specs.Group.{group}
use Rattle.access.specs.Named.{place_among, data_among}
use Rattle.access.proofs.Named.{among-low, among-fits, among-bytes}
use Rattle.access.specs.locate.Locate.{target_place, target_data}
use Rattle.access.specs.locate.Found.{IsFound}
use Rattle.access.specs.declared.locate.Span.{Span}
use Rattle.access.proofs.locate.Among.{content-among}

-- ---- in a zone, and in a buffer

module _ (s : List ℕ) (y : Bytes s) (wf : well_formed s ≡ true) (t : Target) (live : target_place t (zone_of s) ≡ 0 → ⊥) where
  abbrev z : List ℕ
  z = zone_of s

  w : Whole z
  w = whole s y wf

  pub target_fits : target_place t z + length (target_data t z) ≤ length_field s
  unfolding target_place target_data
  target_fits = omega (arith, among-fits t (start (decode_zone z)) (decode_zone z).blocks live, len_is z w, w.all, length-take (length_field s) s)

  pub target_room : length_field s ≤ length s
  target_room = omega (arith, (fields-of s wf).room)

  pub target_small : length_field s ≤ longest_zone
  target_small = omega (arith, (fields-of s wf).limit)

  target-bytes : slice z (target_place t z) (length (target_data t z)) ≡ target_data t z
  unfolding target_place target_data
  target-bytes =
      let a = start (decode_zone z) in
      let bs = (decode_zone z).blocks in
      let p = place_among t a bs in
      let e : a + (p - a) ≡ p = omega (arith, among-low t a bs live) in
      let r : drop a z ≡ bytes_of bs = ap (drop a) (sym (encode-zone z w)) ∙ rest-is (decode_zone z) (valid-zone z w) in
      ap (take (length (data_among t a bs))) (ap (λ (k : ℕ). drop k z) (sym e) ∙ sym (drop-drop (p - a) a z) ∙ ap (drop (p - a)) r)
      ∙ among-bytes t a bs live (valid-sound (decode_zone z) (valid-zone z w))

  -- n bytes from offset i of the data
  pub target-part : (i n : ℕ) → i + n ≤ length (target_data t z) → slice s (target_place t z + i) n ≡ take n (drop i (target_data t z))
  target-part i n l =
      let p = target_place t z in
      let k = length (target_data t z) in
      let L = length_field s in
      let a : take n (drop i (take k (drop p z))) ≡ take n (drop (p + i) z) = rw (drop-take i k (drop p z), take-take n (k - i) (drop i (drop p z)) (omega arith), drop-drop i p z) in
      let b : take n (drop (p + i) z) ≡ take n (drop (p + i) s) = rw (drop-take (p + i) L s, take-take n (L - (p + i)) (drop (p + i) s) (omega (arith, target_fits))) in
      sym (ap (λ (x : List ℕ). take n (drop i x)) (sym target-bytes) ∙ a ∙ b)

-- ---- what is found is small, and in the bays

pub found-small : (s : List ℕ) (t : Target) (k : Span) → IsFound s t k → (k.at ≤ longest_zone) × (k.size ≤ longest_zone)
found-small s t k f =
    let live : target_place t (zone_of s) ≡ 0 → ⊥ = λ e. f.some (f.at_is ∙ e) in
    (omega (arith, f.at_is, target_fits s f.bytes f.well t live, target_small s f.bytes f.well t live), omega (arith, f.size_is, target_fits s f.bytes f.well t live, target_small s f.bytes f.well t live))

pub content-none : (t : Target) (s : List ℕ) → target_place t (zone_of s) ≡ 0 → content items t (group (start (decode s)) (decode s).blocks) ≡ none
unfolding target_place decode
content-none t s e = content-among t (start (decode s)) (decode s).blocks ∙ (rw e)

pub content-some : (t : Target) (s : List ℕ) → (target_place t (zone_of s) ≡ 0 → ⊥) → content items t (group (start (decode s)) (decode s).blocks) ≡ some (target_data t (zone_of s))
unfolding target_place target_data decode
content-some t s l = content-among t (start (decode s)) (decode s).blocks ∙ (rw (ne_eqb (place_among t (start (decode s)) (decode s).blocks) 0 l))
