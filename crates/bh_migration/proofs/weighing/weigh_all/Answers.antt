use Rattle.std.proofs.Common.{[], ◌∷◌, ap, sym, subst, ◌∙◌}
use Rattle.std.proofs.lemmas.Result.{on_ok_weaker}
use Rattle.sqlite.specs.Held.{state}
use Rattle.bh_tables.specs.Bodies.{unneeded}
use Rattle.bh_tables.specs.Typed.{Tables, totals_of, unweighed, weight}
use Rattle.bh_base.specs.Layer.{standing}
use Rattle.bh_base.proofs.Calls.{whole_again}
use Rattle.bh_migration.specs.Tallying.{HoldsUnweighed}
use Rattle.bh_migration.proofs.Tallied.{carried}
use Rattle.bh_migration.proofs.weighing.weigh_all.Goals as goal

pub insert-requires-clause-schema : goal.insert-requires-clause-schema
insert-requires-clause-schema g c clean = carried (state g.S.Store c.args.connection.now) (state g.S.Store c.unneeded_bytes.new.connection) c.unneeded_bytes.ensures.reads.within.follows c.requires c.in_ok-bytes.ensures.reads.same clean

pub returns-clause-holds : goal.returns-clause-holds
returns-clause-holds g c = on_ok_weaker c.insert.result (λ adds clean t holds.
    let before = c.insert.ensures.within.follows.clean clean in
    let is = c.in_ok-bytes.ensures.sums before (unweighed (totals_of t)) holds.within.host ∙ ap (λ (x : Tables). unneeded x.refs x.blocks) holds.is in
    whole_again _ t (standing (state g.S.Store c.insert.new.connection)) (adds clean t (subst (HoldsUnweighed t) (sym (c.in_ok-bytes.ensures.reads.same before.intact)) holds)) (ap (λ n. record (totals_of t) { garbage = weight n ∷ [] }) is)) c.insert.ensures.adds
