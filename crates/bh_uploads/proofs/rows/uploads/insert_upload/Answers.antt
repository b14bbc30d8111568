use Rattle.sqlite.specs.Held.{state}
use Rattle.bh_tables.specs.Typed.{totals_of, tables}
use Rattle.bh_tables.proofs.UsedTexts.{upload_inserted}
use Rattle.bh_tables.proofs.UploadTexts.{new_upload}
use Rattle.bh_base.specs.Layer.{standing}
use Rattle.bh_schema.proofs.KeptCalls.{upload_added}
use Rattle.bh_uploads.specs.Rows.{stored_upload}
use Rattle.bh_base.specs.Connections.{backing}
use Rattle.bh_base.specs.Shown.{shown}
use Rattle.bh_base.proofs.Apart.{stored_upload_may}
use Rattle.bh_uploads.proofs.rows.uploads.insert_upload.Goals as goal

pub returns : goal.returns
unfolding standing
returns g c =
    let u = stored_upload c.args.upload.now in
    let h = rw (c.to_sql.ensures, c.number.ensures, c.to_sql-2.ensures, c.to_sql-3.ensures, c.number-2.ensures) at c.write.ensures in
    let old = state g.S.Store c.args.connection.now.database in
    let a = backing g.P.Shelf c.args.connection.now.packs in
    let w = upload_added a old (state g.S.Store c.write.new.connection) c.requires.inside c.write.result h.live u (upload_inserted u) (λ packs db. stored_upload_may packs db _) (λ clean is. new_upload (totals_of (tables (shown a old))) (standing (shown a old)).now (c.requires.inside clean).host u is.free is.owned) h.runs h.survives in
    record { writes = record { within = w.within; opens = w.opens; inside = w.inside }; holds = w.holds; trouble = w.trouble }
