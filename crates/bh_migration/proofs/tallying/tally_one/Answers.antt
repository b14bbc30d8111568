use Rattle.std.proofs.Common.{[], ◌∷◌, ◌++◌, ap, sym, subst, ◌∙◌}
use Rattle.std.proofs.lemmas.Result.{on_ok_weaker}
use Rattle.sqlite.specs.Held.{state}
use Rattle.sqlite.specs.Order.{column}
use Rattle.bh_tables.specs.Typed.{totals_of, unweighed, tally}
use Rattle.bh_base.specs.Layer.{standing}
use Rattle.bh_schema.specs.declared.rows.tallies.Tally.{Tally}
use Rattle.bh_migration.specs.Tallying.{counted, HoldsTallies}
use Rattle.bh_migration.proofs.Tallied.{carried}
use Rattle.bh_migration.proofs.tallying.tally_one.Goals as goal

pub insert-requires-clause-schema : goal.insert-requires-clause-schema
insert-requires-clause-schema g c clean = carried (state g.S.Store c.args.connection.now) (state g.S.Store c.count_all.new.connection) c.count_all.ensures.reads.within.follows c.requires c.in_ok-tally.ensures.reads.same clean

pub returns-clause-adds : goal.returns-clause-adds
returns-clause-adds g c = on_ok_weaker c.insert.result (λ adds clean t done holds x shown.
    let before = c.insert.ensures.within.follows.clean clean in
    let named = c.in_ok-tenant.ensures.ok.1 ∙ ap (λ r. column r 0) shown in
    let is = c.in_ok-tally.ensures.counts before (record (unweighed (totals_of t)) { tallies = done }) holds.within.host x.tenant named ∙ ap (counted x.tenant) holds.is in
    subst (λ (y : Tally). HoldsTallies t (done ++ tally x.tenant y.versions y.markers y.objects ∷ []) (standing (state g.S.Store c.insert.new.connection))) is
    (adds clean t done (subst (HoldsTallies t done) (sym (c.in_ok-tally.ensures.reads.same before.intact)) holds) x.tenant named)) c.insert.ensures.adds
