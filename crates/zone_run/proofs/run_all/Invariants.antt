-- Full chunks were run, as many as are counted, and their lines were written. The measure is how many more can be counted.
use Rattle.std.proofs.Common.{◌≡◌, ◌+◌, ◌*◌, ◌-◌, ◌≤◌, length, true}
use Rattle.zone_run.specs.Loop.{chunk_size, most_chunks, Served}
use Rattle.zone_run.proofs.run_all.Given as goal

abbrev pub invariant-loop-last : goal.invariant-loop-last
invariant-loop-last g l = record {
  served : Served (g.R.Read.remaining l.initial.reader) (g.R.Read.remaining l.reader) (g.W.Write.contents l.initial.writer) (g.W.Write.contents l.writer)
      (l.full * chunk_size) l.zone true;
  counted : l.full ≤ most_chunks;
  chunk_len : length l.chunk ≡ chunk_size;
  out_len : length l.out ≡ chunk_size + chunk_size;
}

abbrev pub decreases-loop-last : goal.decreases-loop-last
decreases-loop-last g l = most_chunks - l.full
