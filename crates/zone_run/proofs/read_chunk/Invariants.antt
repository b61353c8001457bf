-- What was read stands at the start of the chunk.
use Rattle.std.proofs.Common.{length, ◌-◌, ◌≡◌, ◌≤◌, take}
use Rattle.std.specs.Io.KnownBytes.{Consumes}
use Rattle.zone_run.specs.Loop.{chunk_size}
use Rattle.zone_run.proofs.read_chunk.Given as goal

abbrev pub invariant-loop-got : goal.invariant-loop-got
invariant-loop-got g l = record {
  size : length l.chunk ≡ chunk_size;
  within : l.got ≤ chunk_size;
  taken : Consumes (g.R.Read.remaining l.initial.reader) (g.R.Read.remaining l.reader) (take l.got l.chunk);
}

abbrev pub decreases-loop-got : goal.decreases-loop-got
decreases-loop-got g l = chunk_size - l.got
