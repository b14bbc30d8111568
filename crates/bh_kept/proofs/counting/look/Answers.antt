use Rattle.std.proofs.Common.{ap, ◌∙◌}
use Rattle.bh_base.specs.Connections.{state}
use Rattle.bh_tables.specs.Typed.{tables_in}
use Rattle.bh_base.specs.Connections.{stands}
use Rattle.bh_schema.specs.Garbage.{garbage_in}
use Rattle.bh_base.specs.Layer.{Standing}
use Rattle.bh_schema.proofs.Storing.{within_then}
use Rattle.bh_kept.proofs.Looking.{begun_inside, if_ok}
use Rattle.bh_kept.proofs.counting.look.Goals as goal

pub garbage_bytes-requires : goal.garbage_bytes-requires
garbage_bytes-requires g c = record {
  inside = λ clean. begun_inside (stands g.S.Store g.P.Shelf c.args.connection.now) (stands g.S.Store g.P.Shelf c.begin.new.self) (c.requires (c.begin.ensures.within.follows.clean clean)) (c.in-Ok.ensures.begins clean.intact);
}

pub returns-in-Ok-clause-within : goal.returns-in-Ok-clause-within
returns-in-Ok-clause-within g c =
    within_then (state g.S.Store g.P.Shelf c.args.connection.now) (state g.S.Store g.P.Shelf c.begin.new.self) (state g.S.Store g.P.Shelf c.garbage_bytes.new.connection) (λ intact up. (c.in-Ok.ensures.opens intact).1) c.begin.ensures.within
    c.garbage_bytes.ensures.reads.within

pub returns-in-Ok-clause-survives : goal.returns-in-Ok-clause-survives
returns-in-Ok-clause-survives g c intact db may =
    let read = c.garbage_bytes.ensures.reads.within in
    let before = read.follows.intact intact in
    c.begin.ensures.survives before db (read.survives (c.in-Ok.ensures.opens before).1 intact db may)

pub returns-in-Ok-clause-counted : goal.returns-in-Ok-clause-counted
returns-in-Ok-clause-counted g c =
    let read = c.garbage_bytes.ensures.reads.within in
    if_ok c.garbage_bytes.result c.ok.result c.ok.ensures.value
    (λ n is clean. is clean ∙ ap (λ (x : Standing). garbage_in (tables_in x.now)) (c.in-Ok.ensures.begins (read.follows.intact clean.intact))) c.garbage_bytes.ensures.is
