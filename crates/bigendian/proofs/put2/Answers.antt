use native.Mathlib.Omega.{arith}
use lib.ListN.{length-set}
use Rattle.bigendian.proofs.Laws.{put2-law}
use Rattle.bigendian.proofs.put2.Goals as goal

pub bounds-s-at-2 : goal.bounds-s-at-2
bounds-s-at-2 c = simp length-set (omega arith)

pub returns : goal.returns
returns c = search put2-law
