-- Sampling hardware writes to a fixed block past every call: it stores bytes from the block's pointer on. Wherever a write by that
-- pointer is accepted, the hardware leaves the very bytes that the write leaves, so a list of calls with such stores between
-- them is a list of calls, and what is shown of lists holds of it.
use Rattle.std.specs.Prelude.{◌≡◌, List, ℕ, ◌+◌, ◌%◌, length}
use Rattle.bigendian.specs.BigEndian.{Bytes, overwrite}
use Rattle.calls.specs.Calls.{by_pointer, Call, size, write}
use Rattle.zone.specs.Call.{call}

-- the write of all of w to the fixed block of pointer p, from offset i on
abbrev pub store : ℕ → ℕ → List ℕ → Call
store p i w = write (by_pointer p) i (length w) w

abbrev pub HardwareWrites : Type 0
HardwareWrites = (p i : ℕ) (w zone : List ℕ) → Bytes zone → (call (store p i w) zone).answer.number ≡ 0 → (call (store p i w) zone).bytes ≡ overwrite zone (p + i) w

-- document 02, U6: "The new converter chip refuses pointers that aren't multiples of 4". A pointer that names a block is one, whatever the buffer holds
abbrev pub PointersOnLines : Type 0
PointersOnLines = (p : ℕ) (zone : List ℕ) → Bytes zone → (call (size (by_pointer p)) zone).answer.number ≡ 0 → p % 4 ≡ 0
