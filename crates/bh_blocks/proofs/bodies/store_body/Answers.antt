use Rattle.std.proofs.Common.{List, ap, sym, ◌∙◌}
use Rattle.std.proofs.lemmas.Result.{on_ok_weaker}
use Rattle.bh_base.specs.Connections.{state}
use Rattle.bh_tables.specs.Schema.{Octets}
use Rattle.bh_view.specs.Bodies.{body_stored}
use Rattle.bh_schema.specs.Working.{tables_at}
use Rattle.bh_blocks.proofs.Keeping.{stored_adds}
use Rattle.bh_blocks.proofs.bodies.store_body.Goals as goal

pub returns-then-is_one_piece-clause-stored : goal.returns-then-is_one_piece-clause-stored
returns-then-is_one_piece-clause-stored g c = on_ok_weaker c.store_whole.result (λ holds clean.
    record {
      within = (holds clean).within;
      is = (holds clean).is ∙ ap (λ (cs : List Octets). body_stored g.D.Digester.digest_of (c.args.tenant.now, c.args.body) 0 cs (tables_at (state g.S.Store g.P.Shelf c.args.connection.now))) (sym (c.is_one_piece.ensures c.if-is_one_piece.true));
    }) c.store_whole.ensures.stored

pub returns-then-is_one_piece-clause-adds : goal.returns-then-is_one_piece-clause-adds
returns-then-is_one_piece-clause-adds g c = on_ok_weaker c.store_whole.result (λ holds clean digests fresh.
    stored_adds g.D.Digester.digest_of (c.args.tenant.now, c.args.body) c.args.block_size c.args.bytes.now (state g.S.Store g.P.Shelf c.args.connection.now) (state g.S.Store g.P.Shelf c.store_whole.new.connection) c.requires.size digests fresh
    ((holds clean).is ∙ ap (λ (cs : List Octets). body_stored g.D.Digester.digest_of (c.args.tenant.now, c.args.body) 0 cs (tables_at (state g.S.Store g.P.Shelf c.args.connection.now))) (sym (c.is_one_piece.ensures c.if-is_one_piece.true)))) c.store_whole.ensures.stored

pub returns-clause-adds : goal.returns-clause-adds
returns-clause-adds g c = on_ok_weaker c.store_pieces.result (λ holds clean digests fresh.
    stored_adds g.D.Digester.digest_of (c.args.tenant.now, c.args.body) c.args.block_size c.args.bytes.now (state g.S.Store g.P.Shelf c.args.connection.now) (state g.S.Store g.P.Shelf c.store_pieces.new.connection) c.requires.size digests fresh (holds clean).is) c.store_pieces.ensures.stored
