use lib.ListN.{get_or}
use Rattle.records.specs.Code.{MeansNothing}
use Rattle.records.proofs.Acts.{record-other, record-runs, record-marked, record-unknown}
use Rattle.records.proofs.run_record.Goals as goal

pub returns-then-bytes-ne-RECORD_LENGTH : goal.returns-then-bytes-ne-RECORD_LENGTH
returns-then-bytes-ne-RECORD_LENGTH c = search record-other

pub returns-then-not-all_zero : goal.returns-then-not-all_zero
returns-then-not-all_zero c = search record-marked

pub returns-in_default : goal.returns-in_default
returns-in_default c = let n : MeansNothing (get_or c.args.bytes.now 0 0) = rw c.in_default.is at c.try_from.ensures in search record-unknown

pub returns : goal.returns
returns c = search record-runs
