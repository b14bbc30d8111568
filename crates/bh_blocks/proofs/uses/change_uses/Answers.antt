use Rattle.sqlite.specs.Held.{state}
use Rattle.bh_tables.specs.Shown.{Name}
use Rattle.bh_blocks.proofs.UseCalls.{turns, turns_trouble}
use Rattle.bh_base.specs.Connections.{backing}
use Rattle.bh_blocks.proofs.uses.change_uses.Goals as goal

pub returns : goal.returns
returns g c =
    let h = rw (c.to_sql.ensures, c.number.ensures) at c.execute.ensures in
    let old = state g.S.Store c.args.connection.now.database in
    let a = backing g.P.Shelf c.args.connection.now.packs in
    let new = state g.S.Store c.execute.new.self in
    let live = c.schema-schema.ensures.live in
    let q : Name = (c.args.digest.now, c.args.ord) in
    let w = turns a old new c.requires.midst c.execute.result live _ q c.args.change c.text_of.ensures h.runs h.survives in
    record {
      writes = record { within = w.within; opens = w.opens; midst = w.midst };
      rewrites = w.rewrites;
      trouble = turns_trouble a old new c.requires.midst c.execute.result live _ q c.args.change c.text_of.ensures h.runs h.survives;
    }
