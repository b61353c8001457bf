use Rattle.pages.proofs.status.Words.{dirty-set, dirty-cleared, lock-set, lock-cleared}
use Rattle.pages.proofs.status.marked_word.Goals as goal

pub returns-in-SetDirty : goal.returns-in-SetDirty
returns-in-SetDirty c = search dirty-set

pub returns-in-ClearDirty : goal.returns-in-ClearDirty
returns-in-ClearDirty c = search dirty-cleared

pub returns-in-SetLock : goal.returns-in-SetLock
returns-in-SetLock c = search lock-set

pub returns-in-ClearLock : goal.returns-in-ClearLock
returns-in-ClearLock c = search lock-cleared
