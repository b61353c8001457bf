use Rattle.std.proofs.Common.{◌∙◌}
use Rattle.bigendian.proofs.Laws.{le4-std}
use Rattle.bigendian.proofs.get4.Goals as goal

pub returns : goal.returns
returns c = c.from_le_bytes.ensures ∙ le4-std c.args.s.now c.args.at c.requires
