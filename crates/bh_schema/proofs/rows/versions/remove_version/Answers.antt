use Rattle.sqlite.specs.Held.{state}
use Rattle.bh_tables.proofs.VersionTexts.{version_deleted}
use Rattle.bh_schema.proofs.VersionCalls.{goes}
use Rattle.bh_base.specs.Connections.{backing}
use Rattle.bh_schema.proofs.rows.versions.remove_version.Goals as goal

pub returns : goal.returns
returns g c =
    let h = rw (c.to_sql.ensures, c.to_sql-2.ensures, c.to_sql-3.ensures, c.number.ensures) at c.write.ensures in
    let old = state g.S.Store c.args.connection.now.database in
    let a = backing g.P.Shelf c.args.connection.now.packs in
    let w = goes a old (state g.S.Store c.write.new.connection) c.requires.midst c.write.result h.live (version_deleted c.args.tenant.now c.args.bucket.now c.args.okey.now c.args.id) h.runs h.survives in
    record { writes = record { within = w.within; opens = w.opens; midst = w.midst }; rewrites = w.rewrites }
