-- What is told of a stretch: where it lies, or why it is refused.
use Rattle.std.specs.Prelude.{◌≡◌, List, ℕ, ◌+◌, ◌<◌, ◌≤◌}
use Rattle.bigendian.specs.BigEndian.{Bytes}
use Rattle.format.specs.WellFormed.{zone_of}
use Rattle.calls.specs.Calls.{Target}
use Rattle.calls.specs.Refusals.{code_of}
use Rattle.calls.specs.declared.Refusal.{Refusal}
use Rattle.calls.specs.declared.Refusal.TheVariants.{PastBlockEnd, ShortBuffer}
use Rattle.access.specs.locate.Locate.{target_place}
use Rattle.access.specs.declared.locate.Span.{Span}
use Rattle.stretch.specs.Stretch.{stretch_number}
use Rattle.std.specs.declared.ops.Range.{Range}

-- n bytes from offset i of the data k, for a second buffer of `have` bytes
pub record Reaches (k : Span) (i n have : ℕ) (p : Range ℕ) : Type 0 where
  pub size : i + n ≤ k.size
  pub long : n ≤ have
  pub start_is : p.start ≡ k.at + i
  pub end_is : p.end ≡ k.at + i + n

-- they are not there, or do not go into it
pub data IsShort (k : Span) (i n have : ℕ) (e : Refusal) : Type 0 where
  past_end : k.size < i + n → e ≡ PastBlockEnd → IsShort k i n have e
  short : i + n ≤ k.size → have < n → e ≡ ShortBuffer → IsShort k i n have e

-- the same in a buffer
pub record IsGranted (s : List ℕ) (t : Target) (i n have : ℕ) (p : Range ℕ) : Type 0 where
  pub bytes : Bytes s
  pub passed : stretch_number t i n have s ≡ 0
  pub start_is : p.start ≡ target_place t (zone_of s) + i
  pub end_is : p.end ≡ p.start + n

pub record IsRefused (s : List ℕ) (t : Target) (i n have : ℕ) (e : Refusal) : Type 0 where
  pub bytes : Bytes s
  pub number_is : stretch_number t i n have s ≡ code_of e
  pub some : code_of e ≡ 0 → ⊥

-- a view: the part, or that there is none
pub data Shows (s : List ℕ) (t : Target) (i n : ℕ) (p : Range ℕ) : Type 0 where
  part : IsGranted s t i n n p → Shows s t i n p
  none : (stretch_number t i n n s ≡ 0 → ⊥) → p.start ≡ 0 → p.end ≡ 0 → Shows s t i n p
