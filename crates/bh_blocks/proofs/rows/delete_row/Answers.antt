use Rattle.sqlite.specs.Held.{state}
use Rattle.bh_tables.specs.Shown.{Name}
use Rattle.bh_tables.proofs.BlockTexts.{block_deleted}
use Rattle.bh_base.specs.Connections.{backing}
use Rattle.bh_base.proofs.Blocks.{block_goes_out}
use Rattle.bh_blocks.proofs.UseCalls.{block_goes_trouble}
use Rattle.bh_blocks.proofs.rows.delete_row.Goals as goal

pub returns : goal.returns
returns g c =
    let h = rw (c.to_sql.ensures, c.number.ensures) at c.execute.ensures in
    let old = state g.S.Store c.args.connection.now.database in
    let a = backing g.P.Shelf c.args.connection.now.packs in
    let new = state g.S.Store c.execute.new.self in
    let live = c.schema-schema.ensures.live in
    let q : Name = (c.args.digest.now, c.args.ord) in
    let w = block_goes_out a old new c.requires.midst c.execute.result live h.runs h.survives q (block_deleted q) in
    record {
      writes = record { within = w.turn.within; opens = w.turn.opens; midst = w.turn.midst };
      rewrites = w.turn.rewrites;
      trouble = block_goes_trouble a old new c.requires.midst c.execute.result live q (block_deleted q) h.runs h.survives;
    }
