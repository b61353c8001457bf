-- A page's status word changed: what a function of the word is to give, and what the zone is then.
use Rattle.std.specs.Prelude.{◌≡◌, List, ℕ, ◌-◌, ◌<◌}
use Rattle.bigendian.specs.BigEndian.{from_be, slice}
use Rattle.block_type.specs.Limits.{page_header, status_at, stamp_range}
use Rattle.kinds.specs.Kinds.{Status, status_word, has_name, on_status}
use Rattle.calls.specs.Calls.{Mark, set_dirty, clear_dirty, set_lock, clear_lock}
use Rattle.calls.specs.Bays.{map_s}
use Rattle.bay.specs.Bay.{edit}
use Rattle.structure.specs.Structure.{Structure, start}
use Rattle.zone.specs.Group.{group, flatten}
use Rattle.pages.specs.declared.status.Mark.{Mark as CodeMark}
use Rattle.pages.specs.declared.status.Mark.TheVariants.{SetDirty, ClearDirty, SetLock, ClearLock}

-- what the code's name of a mark means
abbrev pub mark_of : CodeMark → Mark
mark_of SetDirty = set_dirty
mark_of ClearDirty = clear_dirty
mark_of SetLock = set_lock
mark_of ClearLock = clear_lock

-- the status word ends a page's header: as many bytes as it has, it lies before the data
abbrev pub status_length : ℕ
status_length = page_header - status_at

-- the status word of the page whose data lie at `place`
abbrev pub word_before : List ℕ → ℕ → ℕ
word_before z place = from_be (slice z (place - status_length) 2)

-- where w is the word of a status, r is that of the status changed by g
pub record Reworded (g : Status → Status) (w r : ℕ) : Type 0 where
  pub is : (s : Status) → s.stamp < stamp_range → w ≡ status_word s → r ≡ status_word (g s)

-- the structure with the status of the page of name n changed by g
abbrev pub restatus : ℕ → (Status → Status) → Structure → Structure
restatus n g s = record { clock = s.clock; chain = s.chain; blocks = flatten (map_s (edit (has_name n) (on_status g)) (group (start s) s.blocks)) }

-- the structure with another clock
abbrev pub clocked : ℕ → Structure → Structure
clocked ck s = record { clock = ck; chain = s.chain; blocks = s.blocks }
