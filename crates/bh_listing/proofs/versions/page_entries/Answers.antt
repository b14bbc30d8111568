use Rattle.std.proofs.Common.{map, ◌∙◌}
use Rattle.bh_base.specs.Connections.{state}
use Rattle.bh_schema.specs.Working.{tables_at}
use Rattle.bh_schema.proofs.Storing.{within_then}
use Rattle.bh_objects.proofs.Working.{same_tables, asked_working, works_on, on_ok_then}
use Rattle.bh_pages.specs.Versions.{seen_entry}
use Rattle.bh_listing.specs.Versions.{seen_start}
use Rattle.bh_listing.proofs.VersionLooping.{if_ok_then}
use Rattle.bh_listing.proofs.VersionStarting.{gathered_from}
use Rattle.bh_listing.proofs.versions.page_entries.Goals as goal

pub gather_versions-requires-clause-working : goal.gather_versions-requires-clause-working
gather_versions-requires-clause-working g c clean =
    let old = state g.S.Store g.P.Shelf c.args.connection.now in
    let middle = state g.S.Store g.P.Shelf c.start_of.new.connection in
    works_on old middle (asked_working old middle c.requires.working c.in_ok-start.ensures.reads.within c.in_ok-start.ensures.reads.same clean)

pub returns-clause-reads : goal.returns-clause-reads
returns-clause-reads g c =
    let first = c.in_ok-start.ensures.reads in
    let second = c.gather_versions.ensures.reads in
    record {
      within = within_then (state g.S.Store g.P.Shelf c.args.connection.now) (state g.S.Store g.P.Shelf c.start_of.new.connection) (state g.S.Store g.P.Shelf c.gather_versions.new.connection) first.opens first.within second.within;
      opens = on_ok_then c.gather_versions.result _ _ (λ opens intact up. opens intact (first.opens (second.within.follows.intact intact) up)) second.opens;
      same = on_ok_then c.gather_versions.result _ _ (λ same intact. same intact ∙ first.same (second.within.follows.intact intact)) second.same;
    }

pub returns-clause-gathered : goal.returns-clause-gathered
returns-clause-gathered g c = if_ok_then _ _
    (λ entries gathered clean.
    let old = state g.S.Store g.P.Shelf c.args.connection.now in
    let middle = state g.S.Store g.P.Shelf c.start_of.new.connection in
    let before = c.gather_versions.ensures.reads.within.follows.clean clean in
    gathered_from c.args.asked.now (seen_start c.in_ok-start.start) c.args.version c.args.tenant.now c.args.bucket.now (tables_at old) (tables_at middle) (map seen_entry entries.items)
    (same_tables old middle (c.in_ok-start.ensures.reads.same before.intact)) (c.in_ok-start.ensures.begins before) (gathered clean))
    c.gather_versions.result c.gather_versions.ensures.gathered
