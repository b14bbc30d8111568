use Rattle.sqlite.specs.Held.{state}
use Rattle.bh_tables.proofs.PartTexts.{parts_deleted}
use Rattle.bh_schema.proofs.PartCalls.{goes, goes_trouble}
use Rattle.bh_uploads.proofs.Keeping.{alone}
use Rattle.bh_base.specs.Connections.{backing}
use Rattle.bh_base.specs.Shown.{shown}
use Rattle.bh_uploads.proofs.rows.parts.delete_parts.Goals as goal

pub returns : goal.returns
returns g c =
    let h = rw (c.to_sql.ensures, c.number.ensures) at c.write.ensures in
    let old = state g.S.Store c.args.connection.now.database in
    let a = backing g.P.Shelf c.args.connection.now.packs in
    let new = state g.S.Store c.write.new.connection in
    let live = h.live in
    let w = goes a old new c.requires.midst c.write.result live (parts_deleted c.args.tenant.now c.args.upload) h.runs h.survives in
    record { writes = record { within = w.within; opens = w.opens; midst = w.midst }; rewrites = w.rewrites; trouble = alone (shown a old) (shown a new) c.write.result (goes_trouble a old new c.requires.midst c.write.result live (parts_deleted c.args.tenant.now c.args.upload) h.runs h.survives) }
