-- What the test of a header says, and what is read of the header with and without the bytes beyond the zone.
use mathlib.Core.Path.{◌≡◌, refl, ap}
use mathlib.Core.List.{List}
use mathlib.Core.Bool.{true, ◌&&◌}
use Prim.Native.Nat.{ℕ, ◌+◌, ◌*◌, ◌%◌}
use native.Mathlib.Omega.{arith}
use lib.Dec.{eqb, leb}
use borrow.Author.Tests.{leb-true, eqb-true}
use lib.ListN.{length, get_or}
use Rattle.bigendian.specs.BigEndian.{from_be}
use Rattle.bigendian.proofs.Parts.{slice-take}
use Rattle.block_type.specs.Limits.{longest_zone, master_size, most_masters, zone_header, zero_at, first_at}
use Rattle.format.proofs.Bool.{and_left, and_right}
pub use Rattle.format.specs.Steps.{Fields}
use Rattle.format.specs.WellFormed.{header_ok, length_field, first_field, masters_field, chain_field, zone_of, well_formed}

pub header-facts : (s : List ℕ) → header_ok s ≡ true → Fields s (length_field s) (first_field s) (masters_field s) (chain_field s)
unfolding header_ok
header-facts s h =
    let t₁ = eqb (get_or s zero_at 0) 0 in
    let t₂ = t₁ && eqb (length_field s % 4) 0 in
    let t₃ = t₂ && leb (length_field s) (length s) in
    let t₄ = t₃ && leb (length_field s) longest_zone in
    let t₅ = t₄ && leb (masters_field s) most_masters in
    let t₆ = t₅ && eqb (first_field s) (zone_header + master_size * masters_field s) in
    let h₇ = and_right (leb zone_header (length s)) _ h in
    let h₆ = and_left t₆ _ h₇ in
    let h₅ = and_left t₅ _ h₆ in
    let h₄ = and_left t₄ _ h₅ in
    let h₃ = and_left t₃ _ h₄ in
    let h₂ = and_left t₂ _ h₃ in
    let h₁ = and_left t₁ _ h₂ in
    record {
      is_len = refl;
      is_first = refl;
      is_masters = refl;
      is_chain = refl;
      long = leb-true zone_header (length s) (and_left _ _ h);
      zero = eqb-true (get_or s zero_at 0) 0 h₁;
      four = eqb-true (length_field s % 4) 0 (and_right t₁ _ h₂);
      room = leb-true (length_field s) (length s) (and_right t₂ _ h₃);
      limit = leb-true (length_field s) longest_zone (and_right t₃ _ h₄);
      few = leb-true (masters_field s) most_masters (and_right t₄ _ h₅);
      start = eqb-true (first_field s) (zone_header + master_size * masters_field s) (and_right t₅ _ h₆);
      within = leb-true (first_field s) (length_field s) (and_right t₆ _ h₇);
    }

pub fields-of : (s : List ℕ) → well_formed s ≡ true → Fields s (length_field s) (first_field s) (masters_field s) (chain_field s)
unfolding well_formed
fields-of s h = header-facts s (and_left _ _ h)

-- bkFst is read alike in the zone and in the buffer
pub first_of : (s : List ℕ) → well_formed s ≡ true → first_field (zone_of s) ≡ first_field s
first_of s h = let f = fields-of s h in ap from_be (slice-take s (length_field s) first_at 4 (omega arith))
