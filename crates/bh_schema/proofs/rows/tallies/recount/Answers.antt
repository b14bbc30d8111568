use Rattle.std.proofs.Common.{ap, sym, subst, ◌∙◌, ◌+◌}
use Rattle.bh_base.specs.Connections.{state}
use Rattle.bh_tables.specs.Typed.{totals_of, tables_in}
use Rattle.bh_base.specs.Layer.{Standing, standing, IsInsideBy}
use Rattle.bh_schema.proofs.TallySteps.{own_tally, recounts}
use Rattle.bh_schema.proofs.rows.tallies.recount.Goals as goal

pub returns-clause-enters : goal.returns-clause-enters
returns-clause-enters g c = λ clean.
    let a = standing (state g.S.Store g.P.Shelf c.args.connection.now) in
    let one = c.in_ok-tally.ensures in
    let two = c.in_ok-set_tally.ensures in
    let middle = two.writes.within.follows.clean clean in
    let same = one.reads.same middle.intact in
    let inside = c.requires.inside (one.reads.within.follows.clean middle) in
    let sums = totals_of (tables_in a.now) in
    let it = two.rewrites clean sums (subst (IsInsideBy sums) (sym same) inside) in
    let y = c.in-Some.tally in
    let own = own_tally (tables_in a.now) c.args.tenant.now y (sym c.in-Some.is ∙ one.found middle) in
    let law = recounts (tables_in a.now) c.args.tenant.now y c.args.change c.in_ok-versions.versions c.in_ok-markers.markers c.in_ok-objects.objects own
    (ap (λ n. c.in_ok-versions.versions + n) (sym c.one_if-2.ensures.is) ∙ c.in_ok-versions.ensures.counted ∙ ap (λ n. y.versions + n) c.one_if.ensures.is)
    (ap (λ n. c.in_ok-markers.markers + n) (sym c.one_if-4.ensures.is) ∙ c.in_ok-markers.ensures.counted ∙ ap (λ n. y.markers + n) c.one_if-3.ensures.is)
    (ap (λ n. c.in_ok-objects.objects + n) (sym c.one_if-6.ensures.is) ∙ c.in_ok-objects.ensures.counted ∙ ap (λ n. y.objects + n) c.one_if-5.ensures.is) in
    record { within = subst (λ s. IsInsideBy s (standing (state g.S.Store g.P.Shelf c.set_tally.new.connection))) law it.within; is = it.is ∙ ap (λ (x : Standing). tables_in x.now) same }
