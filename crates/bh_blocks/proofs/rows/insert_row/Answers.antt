use Rattle.std.proofs.lemmas.Result.{on_ok_weaker}
use Rattle.sqlite.specs.Held.{state}
use Rattle.bh_tables.specs.Typed.{BlockRow}
use Rattle.bh_tables.proofs.BlockTexts.{block_inserted}
use Rattle.bh_base.specs.Connections.{backing}
use Rattle.bh_base.proofs.Blocks.{block_comes_in, blocks_after}
use Rattle.bh_blocks.proofs.UseCalls.{block_fresh}
use Rattle.bh_blocks.proofs.rows.insert_row.Goals as goal

pub returns : goal.returns
returns g c =
    let h = rw (c.to_sql.ensures, c.number.ensures, c.to_sql-2.ensures) at c.execute.ensures in
    let old = state g.S.Store c.args.connection.now.database in
    let a = backing g.P.Shelf c.args.connection.now.packs in
    let new = state g.S.Store c.execute.new.self in
    let live = c.schema-schema.ensures.live in
    let b : BlockRow = record { digest = c.args.digest.now; ord = c.args.ord; bytes = c.args.bytes.now } in
    let w = block_comes_in a old new c.requires.midst c.execute.result live h.runs h.survives (block_inserted b) in
    record {
      writes = record { within = w.turn.within; opens = w.turn.opens; midst = w.turn.midst };
      rewrites = w.turn.rewrites;
      fresh = on_ok_weaker c.execute.result (λ leaves clean. block_fresh a old new c.requires.midst live b (w.turn.within.follows.clean clean) (leaves clean).0) w.leaves;
      still = on_ok_weaker c.execute.result (λ after clean. let it = after clean in record { places = it.places; packs = it.rows; contents = it.named }) (blocks_after a old new c.requires.midst c.execute.result w);
    }
