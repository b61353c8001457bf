use Rattle.std.proofs.Common.{◌-◌}
use Rattle.structure.specs.Structure.{decode_zone}
use Rattle.bays.specs.Places.{bays_of}
use Rattle.turn.specs.Limit.{Between}
use Rattle.turn.proofs.search.least_limit.Given as goal

abbrev pub invariant-loop-between : goal.invariant-loop-between
invariant-loop-between l = Between l.clock l.need l.between.low l.between.high (bays_of (decode_zone l.zone.bytes.now))

abbrev pub decreases-loop-between : goal.decreases-loop-between
decreases-loop-between l = l.between.high - l.between.low
