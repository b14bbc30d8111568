use Rattle.std.proofs.lemmas.Result.{on_ok_weaker}
use Rattle.bh_base.specs.Connections.{state}
use Rattle.bh_tables.specs.Typed.{totals_of, tables_in}
use Rattle.bh_tables.proofs.RemovalLemmas.{rows_gone}
use Rattle.bh_base.specs.Layer.{standing}
use Rattle.bh_schema.specs.Removal.{without_tally, without_contents, without_names}
use Rattle.bh_base.proofs.Calls.{in_midst}
use Rattle.bh_schema.proofs.Storing.{within_then}
use Rattle.bh_schema.proofs.VersionSteps.{then_turned}
use Rattle.bh_schema.proofs.rows.removal.delete_rows.Goals as goal

pub returns-clause-holds : goal.returns-clause-holds
returns-clause-holds g c = on_ok_weaker c.delete_names.result (λ rewrites clean.
    let t = c.args.tenant.now in
    let a = state g.S.Store g.P.Shelf c.args.connection.now in
    let b = state g.S.Store g.P.Shelf c.delete_contents.new.connection in
    let e = state g.S.Store g.P.Shelf c.delete_names.new.connection in
    let one = c.in_ok-delete_contents.ensures in
    let two = c.delete_names.ensures.writes in
    let inside = c.requires.inside (one.writes.within.follows.clean (two.within.follows.clean clean)) in
    let old = tables_in (standing a).now in
    let it = then_turned a b e (λ s. s) (without_tally t) (without_contents t) (without_names t) two.within.follows.clean one.rewrites rewrites clean (totals_of old) inside in
    record { within = record { inside = it.within.inside; host = rows_gone t old (standing e).now it.within.host it.is }; is = it.is }) c.delete_names.ensures.rewrites

pub returns-clause-writes : goal.returns-clause-writes
returns-clause-writes g c =
    let a = state g.S.Store g.P.Shelf c.args.connection.now in
    let b = state g.S.Store g.P.Shelf c.delete_contents.new.connection in
    let e = state g.S.Store g.P.Shelf c.delete_names.new.connection in
    let one = c.in_ok-delete_contents.ensures.writes in
    let two = c.delete_names.ensures.writes in
    record {
      within = within_then a b e one.opens one.within two.within;
      opens = on_ok_weaker c.delete_names.result (λ stays intact up. stays intact (one.opens (two.within.follows.intact intact) up)) two.opens;
      inside = on_ok_weaker c.delete_names.result (λ holds clean. (holds clean).within) (returns-clause-holds g c);
    }

pub delete_contents-requires : goal.delete_contents-requires
delete_contents-requires g c = record { midst = λ clean. in_midst (standing (state g.S.Store g.P.Shelf c.args.connection.now)) (c.requires.inside clean) }
