use Rattle.zone_run.proofs.Loop.{continues}
use Rattle.zone_run.proofs.run_some.Goals as goal

pub write_lines-written-requires : goal.write_lines-written-requires
write_lines-written-requires g c = continues _ _ _ _ _ _ c.requires.seen c.run_chunk-printed.ensures
