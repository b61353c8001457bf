use Rattle.std.proofs.Common.{arith}
use Rattle.bays.proofs.Given.{begins-at}
use Rattle.bays.proofs.find_own.Goals as goal

pub read_bay-read-requires-in-Some : goal.read_bay-read-requires-in-Some
read_bay-read-requires-in-Some c = let b = begins-at _ _ _ c.in-Some.is c.loop-read.invariant.2 in (b.0, b.1, omega arith)
