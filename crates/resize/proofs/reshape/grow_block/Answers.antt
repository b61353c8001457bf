use native.Mathlib.Omega.{arith}
use Rattle.resize.proofs.reshape.Grow.{grown-in, grown-low, grown-done}
use Rattle.resize.proofs.reshape.grow_block.Goals as goal

pub set_masters-requires : goal.set_masters-requires
set_masters-requires c = (omega arith, omega arith, omega arith, search grown-in, search grown-low)

pub returns : goal.returns
returns c = search grown-done
