use Rattle.sqlite.specs.Held.{state}
use Rattle.bh_tables.proofs.VersionTexts.{version_inserted}
use Rattle.bh_schema.proofs.VersionCalls.{comes}
use Rattle.bh_base.specs.Connections.{backing}
use Rattle.bh_schema.proofs.rows.versions.insert_version.Goals as goal

pub returns : goal.returns
returns g c =
    let v = c.args.version.now in
    let h = rw (c.to_sql.ensures, c.number.ensures, c.to_sql-2.ensures, c.to_sql-3.ensures, c.number-2.ensures, c.number-3.ensures, c.number-4.ensures, c.to_sql-4.ensures) at c.write.ensures in
    let old = state g.S.Store c.args.connection.now.database in
    let a = backing g.P.Shelf c.args.connection.now.packs in
    let w = comes a old (state g.S.Store c.write.new.connection) c.requires.midst c.write.result h.live (version_inserted v.tenant.now v.bucket.now v.okey.now v.checksum.now v.seq v.id v.stamp v.size) h.runs h.survives in
    record { writes = record { within = w.within; opens = w.opens; midst = w.midst }; rewrites = w.rewrites }
