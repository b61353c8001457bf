use Rattle.records.proofs.Printing.{skip-room, numbers-room, skip-line, numbers-line}
use Rattle.records.proofs.print_line.Goals as goal

pub put_skip-requires : goal.put_skip-requires
put_skip-requires c = search skip-room

pub returns-in-Skip : goal.returns-in-Skip
returns-in-Skip c = search skip-line

pub put_numbers-requires : goal.put_numbers-requires
put_numbers-requires c = search numbers-room

pub returns-in-Said : goal.returns-in-Said
returns-in-Said c = search numbers-line
