use Rattle.std.proofs.Common.{◌≡◌, ◌+◌, ◌*◌, ◌≤◌, length}
use Rattle.block_type.specs.Limits.{most_masters, record_size}
use Rattle.bigendian.specs.BigEndian.{overwrite}
use Rattle.calls.specs.Roster.{card_bytes}
use Rattle.tell.specs.roster.Listed.{live_cards, all_cards}
use Rattle.tell.proofs.roster.Entries.{from}
use Rattle.tell.proofs.roster.fill.Given as goal

abbrev pub invariant-loop-i : goal.invariant-loop-i
invariant-loop-i l =
    (l.masters ≤ most_masters)
    × (length l.out ≡ length l.initial.out)
    × (l.at + record_size * length (live_cards l.z.bytes.now (from l.i l.masters)) ≤ length l.out)
    × (overwrite l.out l.at (card_bytes (live_cards l.z.bytes.now (from l.i l.masters))) ≡ overwrite l.initial.out 0 (card_bytes (all_cards l.z.bytes.now)))
