use Rattle.access.proofs.Checked.{bytes_of}
use Rattle.nafelode_c.proofs.Words.{total-word, largest-word}
use Rattle.nafelode_c.proofs.nafelode_sum.Goals as goal

pub overflow_cast-total : goal.overflow_cast-total
overflow_cast-total c = search (total-word, bytes_of, c.in-Ok.ensures)

pub overflow_cast-largest : goal.overflow_cast-largest
overflow_cast-largest c = search (largest-word, bytes_of, c.in-Ok.ensures)
