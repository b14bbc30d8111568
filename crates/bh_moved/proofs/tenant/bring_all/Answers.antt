use Rattle.std.proofs.Common.{◌≡◌, max, sym, ap, ap₂, ◌∙◌, subst, is_some, None}
use Rattle.bh_base.specs.Connections.{state}
use Rattle.bh_tables.specs.Typed.{Tables}
use Rattle.bh_schema.specs.Working.{tables_at}
use Rattle.bh_tables.specs.Shown.{is_tenant}
use Rattle.bh_view.specs.View.{view, latest_of, with_latest}
use Rattle.bh_view.proofs.FilterLemmas.{single}
use Rattle.bh_view.proofs.FindLemmas.{first_find}
use Rattle.bh_schema.proofs.TenantSteps.{none_of, view_found}
use Rattle.bh_blocks.proofs.Keeping.{resolved_at}
use Rattle.bh_tenant_rows.specs.Brought.{IsBrought}
use Rattle.bh_tenant_rows.proofs.Moving.{tenant_brought, all_latest}
use Rattle.bh_moved.specs.Rows.{tenant_row}
use Rattle.bh_moved.proofs.Calling.{read_inside, read_tables}
use Rattle.bh_moved.proofs.Chains.{none_there}
use Rattle.bh_moved.proofs.tenant.bring_all.Goals as goal

pub stamp_later-requires-clause-reading : goal.stamp_later-requires-clause-reading
stamp_later-requires-clause-reading g c = read_inside c.in_ok-bring_rows.ensures.reads c.requires.reading

pub returns-clause-brought : goal.returns-clause-brought
returns-clause-brought g c reading clean found absent other given host =
    let rows = c.in_ok-bring_rows.ensures in
    let stamp = c.in_ok-stamp_later.ensures in
    let clean_r = stamp.writes.within.follows.clean clean in
    let reading_r = stamp.reads.within.follows.clean reading in
    let moving = c.args.moving.now in
    let t = moving.tenant.now in
    let digest = g.D.Digester.digest_of in
    let size = moving.block_size in
    let from : Tables = tables_at (state g.S.Store g.P.Shelf c.args.from.now) in
    let old : Tables = tables_at (state g.T.Store g.Q.Shelf c.args.to.now) in
    let two : tables_at (state g.S.Store g.P.Shelf c.bring_rows.new.from) ≡ from = read_tables rows.reads reading_r in
    let vacant : view old t ≡ None = none_of _ (view_found old t ∙ ap is_some absent) in
    let own = single _ (given.sound.tenants t).tenants.one (tenant_row t moving.numbers) (first_find (is_tenant t) from.tenants ∙ found) in
    let all = (rows.brought reading_r given.bodies (none_there t old.tenants absent) own clean_r).is in
    let latest = all_latest digest other size moving.positive t from old given host (resolved_at (state g.T.Store g.Q.Shelf c.args.to.now)) vacant in
    let is = (stamp.stamped reading clean).is ∙ ap₂ (λ m n. with_latest (max m n) (tables_at (state g.T.Store g.Q.Shelf c.bring_rows.new.to))) (ap latest_of all ∙ latest) (ap latest_of two) ∙ ap (with_latest (max (latest_of old) (latest_of from))) all in
    subst (IsBrought digest t from old) (sym is) (tenant_brought digest other size moving.positive t from old given host (resolved_at (state g.T.Store g.Q.Shelf c.args.to.now)) vacant)
