use Rattle.records.proofs.Chunk.{line-room, stepped}
use Rattle.records.proofs.run_one.Goals as goal

pub print_line-requires : goal.print_line-requires
print_line-requires c = search line-room

pub returns : goal.returns
returns c = search stepped
