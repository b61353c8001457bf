use Rattle.std.proofs.Common.{arith}
use Rattle.access.proofs.rows.RowsIterator.next.Goals as goal

pub returns-then-at-self-clause-goes : goal.returns-then-at-self-clause-goes
returns-then-at-self-clause-goes c =
    let s = c.step-size.ensures in
    record { on = λ _. (s.next, tt, omega (arith, s.low, s.fits)); keeps = s.next; rests = λ _. tt }
