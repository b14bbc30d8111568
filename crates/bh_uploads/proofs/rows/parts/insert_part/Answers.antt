use Rattle.sqlite.specs.Held.{state}
use Rattle.bh_tables.proofs.PartTexts.{part_inserted}
use Rattle.bh_schema.proofs.PartCalls.{comes}
use Rattle.bh_uploads.specs.Rows.{stored_part}
use Rattle.bh_base.specs.Connections.{backing}
use Rattle.bh_uploads.proofs.rows.parts.insert_part.Goals as goal

pub returns : goal.returns
returns g c =
    let h = rw (c.to_sql.ensures, c.number.ensures, c.number-2.ensures, c.number-3.ensures, c.to_sql-2.ensures, c.number-4.ensures, c.number-5.ensures) at c.write.ensures in
    let w = comes (backing g.P.Shelf c.args.connection.now.packs) (state g.S.Store c.args.connection.now.database) (state g.S.Store c.write.new.connection) c.requires.midst c.write.result h.live (part_inserted (stored_part c.args.part.now)) h.runs h.survives in
    record { writes = record { within = w.within; opens = w.opens; midst = w.midst }; rewrites = w.rewrites }
