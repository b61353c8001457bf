-- What the search for a block in a buffer answers.
use Rattle.std.specs.Prelude.{◌≡◌, true, List, ℕ, length}
use Rattle.bigendian.specs.BigEndian.{Bytes}
use Rattle.format.specs.WellFormed.{well_formed, zone_of}
use Rattle.calls.specs.Calls.{Target, by_handle, by_pointer, by_name}
use Rattle.calls.specs.declared.Refusal.{Refusal}
use Rattle.calls.specs.declared.Refusal.TheVariants.{HandleNotLive, PointerNotFixed, NameAbsent}
use Rattle.access.specs.Checked.{IsIll}
use Rattle.access.specs.Edit.{place_in, data_in}
use Rattle.access.specs.locate.Locate.{target_place, target_data}
use Rattle.access.specs.declared.locate.Span.{Span}

-- the refusal where no block is so named
abbrev pub absence : Target → Refusal
absence (by_handle h) = HandleNotLive
absence (by_pointer p) = PointerNotFixed
absence (by_name n) = NameAbsent

-- handle h is not live in the zone z, or its data lie there
pub record NoData (z : List ℕ) (h : ℕ) : Type 0 where
  pub place_is : place_in z h ≡ 0
  pub size_is : length (data_in z h) ≡ 0

pub record IsData (z : List ℕ) (h : ℕ) (k : Span) : Type 0 where
  pub at_is : k.at ≡ place_in z h
  pub some : k.at ≡ 0 → ⊥
  pub size_is : k.size ≡ length (data_in z h)

-- no block is so named in the zone z, or the named block's data lie there
pub record NoSpan (z : List ℕ) (t : Target) : Type 0 where
  pub place_is : target_place t z ≡ 0
  pub size_is : length (target_data t z) ≡ 0

pub record IsSpan (z : List ℕ) (t : Target) (k : Span) : Type 0 where
  pub at_is : k.at ≡ target_place t z
  pub some : k.at ≡ 0 → ⊥
  pub size_is : k.size ≡ length (target_data t z)

-- the same in the buffer s
pub record IsFound (s : List ℕ) (t : Target) (k : Span) : Type 0 where
  pub bytes : Bytes s
  pub well : well_formed s ≡ true
  pub at_is : k.at ≡ target_place t (zone_of s)
  pub some : k.at ≡ 0 → ⊥
  pub size_is : k.size ≡ length (target_data t (zone_of s))

-- there is no zone, or no block is so named in it
pub data IsLost (s : List ℕ) (t : Target) (e : Refusal) : Type 0 where
  ill_formed : Bytes s → IsIll s e → IsLost s t e
  absent : Bytes s → well_formed s ≡ true → target_place t (zone_of s) ≡ 0 → e ≡ absence t → IsLost s t e
