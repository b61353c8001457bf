use Rattle.std.proofs.Common.{◌∙◌}
use Rattle.bigendian.proofs.Laws.{be4-std}
use Rattle.bigendian.proofs.load4.Goals as goal

pub returns : goal.returns
returns c = c.from_be_bytes.ensures ∙ be4-std c.args.s.now c.args.at c.requires
