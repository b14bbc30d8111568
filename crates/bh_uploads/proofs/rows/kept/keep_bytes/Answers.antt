use Rattle.sqlite.specs.Held.{state}
use Rattle.bh_tables.proofs.UsedTexts.{kept_set}
use Rattle.bh_schema.proofs.KeptCalls.{changed_uploads}
use Rattle.bh_base.specs.Connections.{backing}
use Rattle.bh_uploads.proofs.rows.kept.keep_bytes.Goals as goal

pub returns : goal.returns
returns g c =
    let h = rw (c.to_sql.ensures, c.number.ensures, c.number-2.ensures, c.number-3.ensures) at c.write.ensures in
    let w = changed_uploads (backing g.P.Shelf c.args.connection.now.packs) (state g.S.Store c.args.connection.now.database) (state g.S.Store c.write.new.connection) c.requires.midst c.write.result h.live c.args.tenant.now c.args.upload c.args.more c.args.less (kept_set c.args.tenant.now c.args.upload c.args.more c.args.less c.requires.more c.requires.less) h.runs h.survives in
    record { writes = record { within = w.within; opens = w.opens; midst = w.midst }; rewrites = w.rewrites }
