use Rattle.std.proofs.Common.{arith}
use Rattle.bays.proofs.Given.{begins-at}
use Rattle.bays.proofs.BaysIterator.next.Goals as goal

pub read_bay-read-requires : goal.read_bay-read-requires
read_bay-read-requires c = let b = begins-at _ _ _ c.in_ok-start.was c.requires.0 in (b.0, b.1, c.requires.1)

pub returns-clause-goes : goal.returns-clause-goes
returns-clause-goes c =
    let r = c.read_bay-read.ensures in
    let b = begins-at _ _ _ c.in_ok-start.was c.requires.0 in
    let l = r.read.between.forth in
    record { on = λ _. ((r.begins, c.requires.1), tt, rw c.in_ok-start.was (omega (arith, b.1))); keeps = (r.begins, c.requires.1); rests = λ _. tt }
