use Rattle.std.proofs.Common.{refl}
use Rattle.bh_base.specs.Layer.{standing}
use Rattle.sqlite.specs.Held.{state}
use Rattle.bh_tables.proofs.VersionTexts.{marker_inserted, new_version}
use Rattle.bh_schema.proofs.VersionCalls.{comes, comes_trouble}
use Rattle.bh_base.specs.Connections.{backing}
use Rattle.bh_base.specs.Shown.{shown}
use Rattle.bh_schema.proofs.rows.versions.insert_marker_row.Goals as goal

pub returns : goal.returns
returns g c =
    let v = c.args.marker.now in
    let h = rw (c.to_sql.ensures, c.number.ensures, c.to_sql-2.ensures, c.to_sql-3.ensures, c.number-2.ensures, c.number-3.ensures) at c.write.ensures in
    let old = state g.S.Store c.args.connection.now.database in
    let a = backing g.P.Shelf c.args.connection.now.packs in
    let new = state g.S.Store c.write.new.connection in
    let it = marker_inserted v.tenant.now v.bucket.now v.okey.now v.seq v.id v.stamp in
    let w = comes a old new c.requires.midst c.write.result h.live it h.runs h.survives in
    record {
      writes = record { within = w.within; opens = w.opens; midst = w.midst };
      rewrites = w.rewrites;
      trouble = comes_trouble a old new c.requires.midst c.write.result h.live it (λ clean is. new_version (standing (shown a old)).now (c.requires.midst clean).by.host _ refl (is clean).unnumbered (is clean).free (is clean).owned) h.runs h.survives;
    }
