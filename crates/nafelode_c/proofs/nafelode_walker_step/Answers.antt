use Rattle.access.proofs.Checked.{bytes_of}
use Rattle.nafelode_c.proofs.Words.{next_word, offset_word, size_word}
use Rattle.nafelode_c.proofs.nafelode_walker_step.Goals as goal

pub overflow_cast-next : goal.overflow_cast-next
overflow_cast-next c = search (next_word, bytes_of)

pub overflow_cast-offset : goal.overflow_cast-offset
overflow_cast-offset c = offset_word _ (bytes_of _ c.type_inv.zone) _ _ _ c.go-m.ensures.walks _ c.in-Ok-Some.block c.in-Ok-Some.is (rw c.in-Ok-Some.is at c.in-Ok-Some.field-0-is)

pub overflow_cast-size : goal.overflow_cast-size
overflow_cast-size c = size_word _ (bytes_of _ c.type_inv.zone) _ _ _ c.go-m.ensures.walks _ c.in-Ok-Some.block c.in-Ok-Some.is (rw c.in-Ok-Some.is at c.in-Ok-Some.field-0-is)
