-- The status word: its flags and its stamp, and what each function of the word gives.
use Rattle.std.proofs.Common.{◌≡◌, ℕ, ◌+◌, ◌*◌, ◌/◌, ◌%◌, ◌<◌, Bool, true, false, cond, refl, arith}
use Rattle.block_type.specs.Limits.{dirty_bit, lock_bit, stamp_range, handle_range}
use Rattle.kinds.specs.Kinds.{Status, status_word}
use Rattle.calls.specs.Calls.{Mark, set_dirty, clear_dirty, set_lock, clear_lock}
use Rattle.calls.specs.Pages.{stamped, marked}
use Rattle.pages.specs.declared.status.Mark.{Mark as CodeMark}
use Rattle.pages.specs.declared.status.Mark.TheVariants.{SetDirty, ClearDirty, SetLock, ClearLock}
use Rattle.pages.specs.status.Status.{mark_of, Reworded}

-- the parts of the word of a status
record Parts (s : Status) (w : ℕ) : Type 0 where
  dirty : w / dirty_bit * dirty_bit ≡ cond s.dirty dirty_bit 0
  rest : w % dirty_bit ≡ cond s.lock lock_bit 0 + s.stamp
  flags : w / lock_bit * lock_bit ≡ cond s.dirty dirty_bit 0 + cond s.lock lock_bit 0
  low : w % lock_bit ≡ s.stamp
  small : w < handle_range

parts : (s : Status) (w : ℕ) → s.stamp < stamp_range → w ≡ status_word s → Parts s w
parts s w l = go s.dirty s.lock
  where
    go : (d k : Bool) → w ≡ cond d dirty_bit 0 + (cond k lock_bit 0 + s.stamp) → Parts (record { dirty = d; lock = k; stamp = s.stamp }) w
    go true true e = record { dirty = omega arith; rest = omega arith; flags = omega arith; low = omega arith; small = omega arith }
    go true false e = record { dirty = omega arith; rest = omega arith; flags = omega arith; low = omega arith; small = omega arith }
    go false true e = record { dirty = omega arith; rest = omega arith; flags = omega arith; low = omega arith; small = omega arith }
    go false false e = record { dirty = omega arith; rest = omega arith; flags = omega arith; low = omega arith; small = omega arith }

pub word_small : (s : Status) → s.stamp < stamp_range → status_word s < handle_range
word_small s l = (parts s (status_word s) l refl).small

-- ---- the marks

module _ (m : CodeMark) (w : ℕ) where
  pub dirty-set : m ≡ SetDirty → Reworded (marked (mark_of m)) w (dirty_bit + w % dirty_bit)
  dirty-set q = rw q (record { is = λ s l e. omega (arith, (parts s w l e).rest) })

  pub dirty-cleared : m ≡ ClearDirty → Reworded (marked (mark_of m)) w (w % dirty_bit)
  dirty-cleared q = rw q (record { is = λ s l e. omega (arith, (parts s w l e).rest) })

  pub lock-set : m ≡ SetLock → Reworded (marked (mark_of m)) w (w / dirty_bit * dirty_bit + (lock_bit + w % lock_bit))
  lock-set q = rw q (record { is = λ s l e. omega (arith, (parts s w l e).dirty, (parts s w l e).low) })

  pub lock-cleared : m ≡ ClearLock → Reworded (marked (mark_of m)) w (w / dirty_bit * dirty_bit + w % lock_bit)
  lock-cleared q = rw q (record { is = λ s l e. omega (arith, (parts s w l e).dirty, (parts s w l e).low) })

-- a mark leaves the stamp
pub mark-stamp : (m : Mark) (s : Status) → s.stamp < stamp_range → (marked m s).stamp < stamp_range
mark-stamp set_dirty s l = l
mark-stamp clear_dirty s l = l
mark-stamp set_lock s l = l
mark-stamp clear_lock s l = l

-- ---- the stamp

pub stamp-set : (w clock stamp : ℕ) → stamp ≡ clock → Reworded (stamped clock) w (w / lock_bit * lock_bit + stamp)
stamp-set w clock stamp q = record { is = λ s l e. omega (arith, (parts s w l e).flags) }
