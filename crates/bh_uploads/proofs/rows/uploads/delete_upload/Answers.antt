use Rattle.std.proofs.Common.{refl}
use Rattle.sqlite.specs.Held.{state}
use Rattle.bh_tables.specs.Typed.{totals_of, tables}
use Rattle.bh_tables.proofs.Places.{uploads}
use Rattle.bh_tables.proofs.UploadTexts.{upload_deleted, upload_goes}
use Rattle.bh_base.specs.Layer.{standing}
use Rattle.bh_base.proofs.Calls.{removed}
use Rattle.bh_base.specs.Connections.{backing}
use Rattle.bh_base.specs.Shown.{shown}
use Rattle.bh_base.proofs.Apart.{uploads_apart, upload_goes as goes_bare}
use Rattle.bh_uploads.proofs.rows.uploads.delete_upload.Goals as goal

pub returns : goal.returns
unfolding standing
returns g c =
    let h = rw (c.to_sql.ensures, c.number.ensures) at c.write.ensures in
    let old = state g.S.Store c.args.connection.now.database in
    let a = backing g.P.Shelf c.args.connection.now.packs in
    let w = removed uploads (λ _. uploads_apart) a old (state g.S.Store c.write.new.connection) c.requires.inside (λ t l. refl) c.write.result h.live (upload_deleted (totals_of (tables (shown a old))) c.args.tenant.now c.args.upload) (λ packs db. goes_bare (totals_of (tables (shown a old))) packs db _) (λ clean empty. upload_goes (totals_of (tables (shown a old))) (standing (shown a old)).now (c.requires.inside clean).host c.args.tenant.now c.args.upload empty) h.runs h.survives in
    record { writes = record { within = w.within; opens = w.opens; inside = w.inside }; holds = w.holds; trouble = w.trouble }
