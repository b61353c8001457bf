use Rattle.nafelode_c.proofs.Words.{start_word}
use Rattle.nafelode_c.proofs.nafelode_walker_start.Goals as goal

pub overflow_cast-result : goal.overflow_cast-result
overflow_cast-result c = search start_word
