use Rattle.access.proofs.Checked.{by_type}
use Rattle.tell.proofs.roster.Entries.{enter-none, enter-room, enter_one, size_word}
use Rattle.tell.proofs.roster.enter.Goals as goal

pub overflow_cast-span : goal.overflow_cast-span
overflow_cast-span c = search (size_word, by_type, c.in-Some.ensures)

pub put_record-requires : goal.put_record-requires
put_record-requires c = search (enter-room, c.in-Some.ensures)

pub returns-in-Some : goal.returns-in-Some
returns-in-Some c = search (enter_one, c.in-Some.ensures)

pub returns-in-None : goal.returns-in-None
returns-in-None c = search (enter-none, c.in-None.ensures)
