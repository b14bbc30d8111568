use Rattle.std.proofs.Common.{refl}
use Rattle.bh_base.specs.Connections.{state}
use Rattle.bh_base.specs.Layer.{IsIntact, IsOpen}
use Rattle.bh_schema.proofs.Storing.{AreBoth, both, parts, keeps}
use Rattle.bh_dispatch.proofs.Piecing.{read_host, read_agrees, seen_after, gives_seen, ends_seen}
use Rattle.bh_dispatch.proofs.Storing.{opened_ok}
use Rattle.bh_dispatch.proofs.host.next_piece.Goals as goal

pub next_piece-requires-clause-host : goal.next_piece-requires-clause-host
next_piece-requires-clause-host g c clean = read_host c.args.host.now.cache c.args.host.now.limits (state g.S.Store g.P.Shelf c.args.host.now.connection) (c.requires (parts clean))

pub next_piece-requires-clause-agrees : goal.next_piece-requires-clause-agrees
next_piece-requires-clause-agrees g c clean = read_agrees c.args.host.now.cache c.args.host.now.limits (state g.S.Store g.P.Shelf c.args.host.now.connection) (c.requires (parts clean))

pub returns : goal.returns
returns g c =
    let l = c.args.host.now.limits in
    let k = c.args.host.now.cache in
    let old = state g.S.Store g.P.Shelf c.args.host.now.connection in
    let new = state g.S.Store g.P.Shelf c.next_piece.new.connection in
    let h = c.next_piece.ensures in
    let was = λ (clean : AreBoth new). parts (h.reads.within.follows.clean (both clean)) in
    record {
      within = keeps g.S.Store g.P.Shelf c.args.host.now _ refl h.reads.within;
      opens = opened_ok (IsIntact new) (IsOpen old) (IsOpen new) c.next_piece.result h.reads.opens;
      same = seen_after k l old new c.requires was c.next_piece.new.cache c.next_piece.result h.reads.same h.agrees;
      gives = gives_seen k l old new c.requires was c.next_piece.result c.args.plan.now c.next_piece.new.plan h.gives;
      ends = ends_seen k l old new c.requires was c.next_piece.result c.args.plan.now h.ends;
      some = h.some;
      falls = h.falls;
      kept = h.kept;
    }
