use Rattle.zone_check.proofs.Zone.{body-tiles, body-many, body-chain, body-walks, body-certain, body-yes, body-no}
use Rattle.zone_check.proofs.body.Goals as goal
use Rattle.zone_check.proofs.body.Goals.{else-t-h-via-then-t-h+then-chain_ok+else-names_ok, else-t-h-via-then-t-h+else-chain_ok, else-t-h-via-else-t-h}

pub returns-in_err-t : goal.returns-in_err-t
returns-in_err-t c = rw c.from_residual.ensures (search (body-tiles, c.in_err-t.ensures))

pub names_ok-requires : goal.names_ok-requires
names_ok-requires c = (search (body-walks, c.in_ok-t.ensures), search (body-certain, c.in_ok-t.ensures))

pub returns-then-names_ok : goal.returns-then-names_ok
returns-then-names_ok c = search (body-yes, c.in_ok-t.ensures)

pub returns : goal.returns
returns c =
    elim c.else-t-h.branch [
      | else-t-h-via-then-t-h+then-chain_ok+else-names_ok w ↦ search (body-no, c.in_ok-t.ensures)
      | else-t-h-via-then-t-h+else-chain_ok w ↦ search (body-chain, c.in_ok-t.ensures)
      | else-t-h-via-else-t-h w ↦ search (body-many, c.in_ok-t.ensures)
    ]
