use Rattle.std.proofs.lemmas.Result.{on_ok_weaker}
use Rattle.sqlite.specs.Held.{state}
use Rattle.bh_tables.specs.Schema.{packs_table, at}
use Rattle.bh_tables.specs.Rows.{pack_form}
use Rattle.bh_tables.proofs.Places.{packs_is}
use Rattle.bh_tables.proofs.PlaceTexts.{pack_deleted}
use Rattle.bh_base.specs.Connections.{backing}
use Rattle.bh_base.proofs.Beneath as beneath
use Rattle.bh_base.proofs.Blocks.{packs_after}
use Rattle.bh_base.proofs.Removing.{NoneIn, pack_goes_out, trouble_unless, none_after}
use Rattle.bh_base.proofs.removal.delete_pack.Goals as goal

pub returns : goal.returns
returns g c =
    let h = rw c.number.ensures at c.execute-deleted.ensures in
    let old = state g.S.Store c.args.connection.now.database in
    let a = backing g.P.Shelf c.args.connection.now.packs in
    let new = state g.S.Store c.execute-deleted.new.self in
    let r = c.execute-deleted.result in
    let live = c.schema-before.ensures.live in
    let then = c.schema-after.ensures.live in
    let text = pack_deleted c.args.pack in
    let w = pack_goes_out a old new c.requires.midst r live then h.runs h.survives c.args.pack text in
    record {
      writes = record { within = w.turn.within; opens = w.turn.opens; midst = w.turn.midst };
      rewrites = w.turn.rewrites;
      deleted = on_ok_weaker r (λ after clean. let it = after clean in record { packs = it.rows; places = it.places; contents = it.named }) (packs_after a old new c.requires.midst r w);
      unnamed = none_after a old new c.requires.midst r c.args.pack w;
      trouble = beneath.drops_trouble pack_form 13 (at 32 packs_table) packs_is (λ sums db h. h.held.packs) a old new c.requires.midst r live h.runs h.survives {A = NoneIn c.args.pack old.now.trees} text
          (trouble_unless a old new c.requires.midst r live then h.runs h.survives c.args.pack text);
    }
