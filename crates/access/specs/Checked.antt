-- What a call knows of its buffer: a well-formed zone stands at its start, or none does.
use Rattle.std.specs.Prelude.{◌≡◌, true, false, List, ℕ, ◌≤◌, length, take}
use Rattle.format.specs.WellFormed.{well_formed, length_field}
use Rattle.structure.specs.IsZone.{IsZone}
use Rattle.zone_check.specs.Sought.{unless_zero, page_in}
use Rattle.zone_check.specs.declared.Checked.{Checked}
use Rattle.access.specs.declared.opened.Zone.{Zone}
use Rattle.access.specs.declared.opened.Sought.{Sought}
use Rattle.calls.specs.declared.Refusal.{Refusal}
use Rattle.calls.specs.declared.Refusal.TheVariants.{NotWellFormed}

-- a zone of l bytes
pub record HasZone (s : List ℕ) (l : ℕ) : Type 0 where
  pub well : well_formed s ≡ true
  pub is_len : l ≡ length_field s
  pub within : l ≤ length s
  pub zone : IsZone (take l s)

-- and in it the page of that name, if there is one
pub record HasPage (name : ℕ) (s : List ℕ) (k : Checked) : Type 0 where
  pub has_zone : HasZone s k.len
  pub page_is : k.page ≡ unless_zero (page_in name (take k.len s))

-- there is no zone, and so the call is refused
pub record IsIll (s : List ℕ) (e : Refusal) : Type 0 where
  pub ill : well_formed s ≡ false
  pub refusal_is : e ≡ NotWellFormed

-- z is the zone in it
pub record Opened (s : List ℕ) (z : Zone) : Type 0 where
  pub has_zone : HasZone s (length z.bytes.now)
  pub there : take (length z.bytes.now) s ≡ z.bytes.now

-- and in it the page of that name, if there is one
pub record OpenedFor (name : ℕ) (s : List ℕ) (k : Sought) : Type 0 where
  pub opened : Opened s k.zone
  pub page_is : k.page ≡ unless_zero (page_in name k.zone.bytes.now)
