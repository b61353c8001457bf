use Rattle.std.proofs.Common.{refl}
use Rattle.structure.proofs.IsZone.{is_well, is_whole, bytes-zone}
use Rattle.access.proofs.Checked.{bytes_of, has-checked, opened-for}
use Rattle.access.proofs.opened.Zone.open_for.Goals as goal

pub invariant_of-result : goal.invariant_of-result
invariant_of-result c =
    let p = has-checked _ _ c.in-Some.k (bytes_of _ c.type_inv.buffer) c.in-Some.ensures in
    let z = p.has_zone.zone in
    record { fits = bytes-zone _ z; well_formed = is_well _ z; whole = is_whole _ z }

pub returns-clause-ok : goal.returns-clause-ok
returns-clause-ok c = opened-for _ _ _ c.in-Some.k refl (has-checked _ _ c.in-Some.k (bytes_of _ c.type_inv.buffer) c.in-Some.ensures)
