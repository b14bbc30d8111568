use Rattle.bh_moved.proofs.Owned.{version_body, marker_body, part_body}
use Rattle.bh_moved.proofs.tables.find_body.Goals as goal

pub returns-in_ok-number_at-in-Versions-2-clause-body : goal.returns-in_ok-number_at-in-Versions-2-clause-body
returns-in_ok-number_at-in-Versions-2-clause-body c =
    version_body c.args.row.now c.args.table c.in_ok-number_at-in-Versions.field-0 c.in_ok-number_at-in-Versions-2.field-0 c.in-Versions.is c.in_ok-number_at-in-Versions.ensures.same c.in_ok-number_at-in-Versions-2.ensures.same c.if-branch-eq0.true

pub returns-else-branch-eq0-clause-body : goal.returns-else-branch-eq0-clause-body
returns-else-branch-eq0-clause-body c = marker_body c.args.row.now c.args.table c.in_ok-number_at-in-Versions.field-0 c.in-Versions.is c.in_ok-number_at-in-Versions.ensures.same c.if-branch-eq0.false

pub returns-in_ok-number_at-in-Parts-clause-body : goal.returns-in_ok-number_at-in-Parts-clause-body
returns-in_ok-number_at-in-Parts-clause-body c = part_body c.args.row.now c.args.table c.in_ok-number_at-in-Parts.field-0 c.in-Parts.is c.in_ok-number_at-in-Parts.ensures.same
