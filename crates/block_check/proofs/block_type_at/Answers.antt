use mathlib.Core.Path.{◌∙◌}
use Rattle.block_check.proofs.Leaves.{kind-law}
use Rattle.block_check.proofs.block_type_at.Goals as goal

pub returns : goal.returns
returns c = c.of_byte.ensures ∙ search kind-law
