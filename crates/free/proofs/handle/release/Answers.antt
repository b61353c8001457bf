use Rattle.free.proofs.handle.Laws.{write-between, write_word, write-head, write-master, written}
use Rattle.free.proofs.handle.release.Goals as goal

pub write_free-requires : goal.write_free-requires
write_free-requires c = search write-between

pub overflow_cast-h : goal.overflow_cast-h
overflow_cast-h c = search write_word

pub put2-requires : goal.put2-requires
put2-requires c = search write-head

pub put4-requires : goal.put4-requires
put4-requires c = search write-master

pub returns : goal.returns
returns c = search written
