use Rattle.sqlite.specs.Held.{state}
use Rattle.bh_tables.specs.Typed.{RefRow}
use Rattle.bh_tables.proofs.RefTexts.{ref_inserted}
use Rattle.bh_blocks.specs.Named.{placed_at}
use Rattle.bh_blocks.proofs.UseCalls.{ref_comes, ref_comes_trouble}
use Rattle.bh_base.specs.Connections.{backing}
use Rattle.bh_blocks.proofs.refs.insert_ref.Goals as goal

pub returns : goal.returns
returns g c =
    let h = rw (c.to_sql.ensures, c.number.ensures, c.number-2.ensures, c.to_sql-2.ensures, c.number-3.ensures, c.number-4.ensures) at c.execute.ensures in
    let old = state g.S.Store c.args.connection.now.database in
    let a = backing g.P.Shelf c.args.connection.now.packs in
    let new = state g.S.Store c.execute.new.self in
    let live = c.schema-schema.ensures.live in
    let r : RefRow = placed_at c.args.at.now c.args.digest.now c.args.ord c.args.size in
    let w = ref_comes a old new c.requires.midst c.execute.result live (ref_inserted r) h.runs h.survives in
    record { writes = record { within = w.within; opens = w.opens; midst = w.midst }; rewrites = w.rewrites; trouble = ref_comes_trouble a old new c.requires.midst c.execute.result live r (ref_inserted r) h.runs h.survives }
