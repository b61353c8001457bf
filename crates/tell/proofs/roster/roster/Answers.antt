use Rattle.structure.proofs.IsZone.{is_well, is_whole, bytes-zone}
use Rattle.tell.proofs.roster.Laws.{count_word, roster-short, roster-zone, roster-room, roster-done}
use Rattle.tell.proofs.roster.roster.Goals as goal

pub returns-then-out-k : goal.returns-then-out-k
returns-then-out-k c = search (roster-short, c.in-Some.ensures)

pub invariant_of-z : goal.invariant_of-z
invariant_of-z c =
    let z = roster-zone c.args.zone.now c.in-Some.k c.in-Some.ensures c.type_inv.zone in
    record { fits = bytes-zone _ z; well_formed = is_well _ z; whole = is_whole _ z }

pub fill-requires : goal.fill-requires
fill-requires c = search (roster-room, c.in-Some.ensures)

pub overflow_cast-result : goal.overflow_cast-result
overflow_cast-result c = search (count_word, c.in-Some.ensures)

pub returns : goal.returns
returns c = search (roster-done, c.in-Some.ensures)
