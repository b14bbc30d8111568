use Rattle.std.proofs.Common.{◌∙◌, sym}
use Rattle.bh_base.specs.Connections.{state}
use Rattle.bh_tables.specs.Typed.{tables_in}
use Rattle.bh_base.specs.Layer.{standing}
use Rattle.bh_schema.proofs.TallySteps.{own_tally}
use Rattle.bh_usage.proofs.counts.entry_counts.Goals as goal

pub returns-in-Some-clause-counts : goal.returns-in-Some-clause-counts
returns-in-Some-clause-counts g c = λ clean.
    let own = own_tally (tables_in (standing (state g.S.Store g.P.Shelf c.args.connection.now)).now) c.args.tenant.now c.in-Some.tally (sym c.in-Some.is ∙ c.in_ok-found.ensures.found clean) in
    λ i. record { markers = own.markers i; objects = own.objects i; versions = own.versions i }
