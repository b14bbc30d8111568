use Rattle.bh_schema.proofs.Asking.{failed_if, no_value, first}
use Rattle.bh_schema.proofs.Finds.{first_shown}
use Rattle.bh_schema.proofs.VersionCalls.{selected_first}
use Rattle.bh_base.specs.Connections.{tables}
use Rattle.bh_schema.specs.Rows.{seen_head, newest_at}
use Rattle.bh_schema.specs.Views.{head_seen}
use Rattle.bh_tables.proofs.VersionTexts.{newest_shown}
use Rattle.bh_tables.specs.Shown.{shown_head}
use Rattle.bh_tables.specs.Typed.{VersionRow}
use Rattle.sqlite.specs.Held.{state}
use Rattle.sqlite.specs.Order.{Row}
use Rattle.std.proofs.Common.{List, Ok, Err, ap, slice_get, ◌∙◌}
use Rattle.std.specs.Str.{IsUtf8}
use Rattle.bh_base.specs.Connections.{backing}
use Rattle.bh_schema.proofs.rows.versions.newest_version.Goals as goal

pub returns-in_err-rows : goal.returns-in_err-rows
returns-in_err-rows g c =
    let h = rw (c.to_sql.ensures, c.to_sql-2.ensures, c.to_sql-3.ensures) at c.in_err-rows.ensures in
    let old = c.args.connection.now in
    let new = c.query_all.new.self in
    let q = selected_first (backing g.P.Shelf old.packs) (state g.S.Store old.database) (state g.S.Store new) c.requires.inside (λ (l : List Row). l) (Err c.in_err-rows.field-0.0) (newest_shown c.args.tenant.now c.args.bucket.now c.args.okey.now) h.ok h.err h.survives in
    let f = failed_if g.S.Store g.P.Shelf old (record old { database = new }) c.from_residual.result _ c.from_residual.ensures _ q in
    record { reads = f.reads; found = no_value _ _ _ c.from_residual.ensures; trouble = f.trouble }

pub returns : goal.returns
returns g c =
    let h = rw (c.to_sql.ensures, c.to_sql-2.ensures, c.to_sql-3.ensures) at c.in_ok-rows.ensures in
    let old = c.args.connection.now in
    let new = c.query_all.new.self in
    let q = selected_first (backing g.P.Shelf old.packs) (state g.S.Store old.database) (state g.S.Store new) c.requires.inside (λ (l : List Row). l) (Ok c.in_ok-rows.rows.items) (newest_shown c.args.tenant.now c.args.bucket.now c.args.okey.now) h.ok h.err h.survives in
    let a = first g.S.Store g.P.Shelf old (record old { database = new }) c.first_of.result _ shown_head (λ v. v) head_seen seen_head (λ (v : VersionRow). IsUtf8 v.checksum) c.first_of.ensures.found c.first_of.ensures.trouble q (newest_at c.args.tenant.now c.args.bucket.now c.args.okey.now (tables g.S.Store g.P.Shelf old).versions)
    (λ clean. ap (λ l. slice_get l 0) c.deref.ensures.value ∙ first_shown shown_head _ _ (q.rows clean)) in
    record { reads = a.reads; found = a.found; trouble = a.trouble }
