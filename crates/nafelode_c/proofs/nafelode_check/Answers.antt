use Rattle.access.proofs.Checked.{bytes_of}
use Rattle.nafelode_c.proofs.Words.{count_word}
use Rattle.nafelode_c.proofs.nafelode_check.Goals as goal

pub overflow_cast-live : goal.overflow_cast-live
overflow_cast-live c = search (count_word, bytes_of, c.in-Some.ensures)
