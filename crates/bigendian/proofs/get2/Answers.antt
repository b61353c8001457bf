use Rattle.std.proofs.Common.{◌∙◌}
use Rattle.bigendian.proofs.Laws.{be2-std}
use Rattle.bigendian.proofs.get2.Goals as goal

pub returns : goal.returns
returns c = c.from.ensures ∙ c.from_be_bytes.ensures ∙ be2-std c.args.s.now c.args.at c.requires
