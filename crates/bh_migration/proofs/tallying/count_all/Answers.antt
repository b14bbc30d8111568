use Rattle.std.proofs.Common.{◌≡◌, ◌∙◌, subst}
use Rattle.sqlite.specs.Held.{state}
use Rattle.bh_tables.specs.Typed.{IsHostBy, tables_in}
use Rattle.bh_base.specs.Layer.{Standing, standing}
use Rattle.bh_migration.specs.Tallying.{how_many}
use Rattle.bh_migration.specs.declared.tallying.Count.TheVariants as count
use Rattle.bh_migration.proofs.Tallied.{carried}
use Rattle.bh_migration.proofs.tallying.count_all.Goals as goal

pub count_of-requires-2 : goal.count_of-requires-2
count_of-requires-2 g c clean = carried (state g.S.Store c.args.connection.now) (state g.S.Store c.count_of.new.connection) c.count_of.ensures.reads.within.follows c.requires c.in_ok-versions.ensures.reads.same clean

pub count_of-requires-3 : goal.count_of-requires-3
count_of-requires-3 g c clean =
    let one = carried (state g.S.Store c.args.connection.now) (state g.S.Store c.count_of.new.connection) c.count_of.ensures.reads.within.follows c.requires c.in_ok-versions.ensures.reads.same in
    carried (state g.S.Store c.count_of.new.connection) (state g.S.Store c.count_of-2.new.connection) c.count_of-2.ensures.reads.within.follows one c.in_ok-markers.ensures.reads.same clean

pub returns-clause-counts : goal.returns-clause-counts
returns-clause-counts g c clean sums host name named =
    let old = standing (state g.S.Store c.args.connection.now) in
    let two = c.count_of-3.ensures.reads.within.follows.clean clean in
    let one = c.count_of-2.ensures.reads.within.follows.clean two in
    let same = c.in_ok-versions.ensures.reads.same one.intact in
    let again = c.in_ok-markers.ensures.reads.same two.intact ∙ same in
    let versions = c.in_ok-versions.ensures.counts one sums host name named in
    let markers = subst (λ (x : Standing). IsHostBy sums x.now → c.in_ok-markers.markers ≡ how_many count.Markers name (tables_in x.now)) same (λ h. c.in_ok-markers.ensures.counts two sums h name named) host in
    let objects = subst (λ (x : Standing). IsHostBy sums x.now → c.in_ok-objects.objects ≡ how_many count.Objects name (tables_in x.now)) again (λ h. c.in_ok-objects.ensures.counts clean sums h name named) host in
    λ i. record { versions = versions i; markers = markers i; objects = objects i }

pub returns-clause-small : goal.returns-clause-small
returns-clause-small g c = record { versions = c.in_ok-versions.ensures.small; markers = c.in_ok-markers.ensures.small; objects = c.in_ok-objects.ensures.small }
