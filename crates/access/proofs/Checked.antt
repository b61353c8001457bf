-- What is known of a buffer that the check has passed: its header is there, and the bytes up to its length are a zone.
use mathlib.Core.Path.{◌≡◌, sym, ap, subst, ◌∙◌}
use mathlib.Core.List.{List}
use mathlib.Core.Bool.{Bool, true, false, not}
use Prim.Native.Nat.{ℕ, ◌+◌, ◌<◌, ◌≤◌}
use native.Mathlib.Omega.{arith}
use mir.Val.{Fits}
use mir.Syntax.{w8}
use borrow.Author.Tests.{not-false}
use lib.ListN.{length, get_or, take, length-take}
use Rattle.bigendian.specs.BigEndian.{Bytes}
use Rattle.block_type.specs.Limits.{length_at, first_at, masters_at, chain_at, clock_at}
use Rattle.format.specs.WellFormed.{well_formed, zone_of, length_field}
pub use Rattle.format.proofs.Header.{fields-of, first_of}
use Rattle.std.specs.Prelude.{Option}
use Rattle.zone_check.specs.Sought.{unless_zero, page_in, page_of}
use Rattle.zone_check.specs.Checked.{IsChecked}
use Rattle.zone_check.specs.declared.Checked.{Checked}
use Rattle.access.specs.Checked.{HasZone, HasPage, OpenedFor}
use Rattle.access.specs.declared.opened.Zone.{Zone}
use Rattle.structure.specs.Structure.{decode, len}
use Rattle.structure.proofs.Table.{whole, len_is}
use Rattle.structure.specs.IsZone.{IsZone, is_zone}
use Rattle.structure.proofs.IsZone.{whole_of}

-- ---- slices

-- what is known of a slice, in the form that a search finds it in
pub bytes_of : (s : List ℕ) → ((i : ℕ) → Fits w8 (get_or s i 0)) → Bytes s
bytes_of s f i = (f i).fits

pub take_len : (l : ℕ) (s : List ℕ) → l ≤ length s → l ≡ length (take l s)
take_len l s h = omega (arith, length-take l s)

-- ---- the buffer

-- the length of the structure is the length in the header
pub length-is : (s : List ℕ) → Bytes s → well_formed s ≡ true → len (decode s) ≡ length_field s
unfolding decode
length-is s y h =
    let w = whole s y h in
    omega (arith, len_is (zone_of s) w, w.all, length-take (length_field s) s, (fields-of s h).room)

module _ (s : List ℕ) (ok : Bool) (e : ok ≡ well_formed s) (q : not ok ≡ false) where
  pub is-well : well_formed s ≡ true
  is-well = sym e ∙ not-false ok q

  pub has-length : length_at + 4 ≤ length s
  has-length = omega (arith, (fields-of s is-well).long)

  pub has_first : first_at + 4 ≤ length s
  has_first = omega (arith, (fields-of s is-well).long)

  module _ (l : ℕ) (el : l ≡ length_field s) where
    pub has-zone : l ≤ length s
    has-zone = omega (arith, (fields-of s is-well).room)

    pub has-whole : Bytes s → IsZone (take l s)
    has-whole y = is_zone s y is-well (ap (λ (k : ℕ). take k s) (sym el))

    pub has-page : (name : ℕ) (page : Option ℕ) → page ≡ unless_zero (page_of name s) → page ≡ unless_zero (page_in name (take l s))
    unfolding page_of
    has-page name page ep = rw (ep, is-well, el)

-- what the check says
pub has-checked : (s : List ℕ) (name : ℕ) (k : Checked) → Bytes s → IsChecked name s k → HasPage name s k
unfolding page_of
has-checked s name k y i =
    record {
      has_zone = record { well = i.well; is_len = i.is_len; within = i.within; zone = is_zone s y i.well (ap (λ (l : ℕ). take l s) (sym i.is_len)) };
      page_is = rw (i.page_is, i.well, i.is_len);
    }

-- the zone z of the bytes that the check has passed
pub opened-for : (s : List ℕ) (name : ℕ) (z : Zone) (k : Checked) → z.bytes.now ≡ take k.len s → HasPage name s k → OpenedFor name s (record { zone = z; page = k.page })
opened-for s name z k e p =
    let n : k.len ≡ length z.bytes.now = rw e (take_len k.len s p.has_zone.within) in
    record {
      opened = record { has_zone = subst (HasZone s) n p.has_zone; there = ap (λ (l : ℕ). take l s) (sym n) ∙ sym e };
      page_is = rw e p.page_is;
    }

-- ---- the zone

pub zone-14 : (z : List ℕ) → IsZone z → chain_at + 2 ≤ length z
zone-14 z i = omega (arith, (whole_of z i).long)

pub zone-clock : (z : List ℕ) → IsZone z → clock_at < length z
zone-clock z i = omega (arith, (whole_of z i).long)

pub zone-12 : (z : List ℕ) → IsZone z → masters_at + 4 ≤ length z
zone-12 z i = omega (arith, (whole_of z i).long)

pub zone-8 : (z : List ℕ) → IsZone z → first_at + 4 ≤ length z
zone-8 z i = omega (arith, (whole_of z i).long)

-- ---- a zone by its type

pub by_type : (z : Zone) → IsZone z.bytes.now
by_type z = is_zone z.bytes.now z.fits z.well_formed z.whole
