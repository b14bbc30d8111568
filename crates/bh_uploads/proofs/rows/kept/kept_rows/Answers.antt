use Rattle.sqlite.specs.Held.{state}
use Rattle.bh_tables.specs.Typed.{totals_of, tables}
use Rattle.bh_tables.proofs.Places.{uploads}
use Rattle.bh_tables.proofs.UsedTexts.{kept_shown}
use Rattle.bh_base.specs.Layer.{standing}
use Rattle.bh_base.proofs.Calls.{selected}
use Rattle.bh_base.specs.Connections.{backing}
use Rattle.bh_base.specs.Shown.{shown}
use Rattle.bh_base.proofs.Apart.{uploads_apart}
use Rattle.bh_uploads.proofs.rows.kept.kept_rows.Goals as goal

pub returns : goal.returns
unfolding standing
returns g c =
    let h = rw (c.to_sql.ensures, c.number.ensures) at c.query_all.ensures in
    let old = state g.S.Store c.args.connection.now.database in
    let a = backing g.P.Shelf c.args.connection.now.packs in
    let q = selected uploads (λ _. uploads_apart) a old (state g.S.Store c.query_all.new.self) c.requires.inside (λ v. v.items) c.query_all.result (kept_shown (totals_of (tables (shown a old))) c.args.tenant.now c.args.upload) h.ok h.err h.survives in
    record { reads = record { within = q.within; opens = q.opens; same = q.same }; rows = q.rows; trouble = q.trouble }
