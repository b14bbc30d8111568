use Rattle.std.proofs.Common.{rules, option_map, find, sym, ap, ◌∙◌, subst}
use Rattle.bh_base.specs.Connections.{state}
use Rattle.bh_types.specs.declared.wanted.Wanted.TheVariants.{Named}
use Rattle.bh_model.specs.Operations.{Answer, delete_object}
use Rattle.bh_tables.specs.Shown.{is_version}
use Rattle.bh_tables.specs.Typed.{Tables}
use Rattle.bh_view.specs.View.{view}
use Rattle.bh_view.proofs.FilterLemmas.{none_mapped}
use Rattle.bh_schema.specs.Rows.{seen_head}
use Rattle.bh_schema.specs.Views.{head_seen}
use Rattle.bh_schema.specs.Working.{tables_at}
use Rattle.bh_storage.specs.Answers.{removed_answer}
use Rattle.bh_storage.specs.Calls.{GivesStep, Carries}
use Rattle.bh_objects.specs.Found.{mode_in}
use Rattle.bh_objects.proofs.Working.{same_tables, asked_working, host_at, works_on, works_then, unless_kept}
use Rattle.bh_objects.proofs.Deleting.{deletes_absent}
use Rattle.bh_objects.proofs.deletes.delete_numbered.Goals as goal

pub returns-in-None-clause-carries : goal.returns-in-None-clause-carries
returns-in-None-clause-carries g c clean =
    let old = tables_at (state g.S.Store g.P.Shelf c.args.connection.now) in
    let new = tables_at (state g.S.Store g.P.Shelf c.numbered_head.new.connection) in
    let clean_old = c.in_ok-found.ensures.reads.within.follows.clean clean in
    subst (λ (a : Answer). GivesStep c.args.tenant.now (delete_object c.args.at c.args.bucket.now c.args.key.now (Named c.args.id)) a old new) (sym c.nothing_told.ensures)
    (deletes_absent old new c.args.tenant.now c.args.bucket.now c.args.key.now c.args.at (host_at (state g.S.Store g.P.Shelf c.args.connection.now) (c.requires.working clean_old)) c.args.mode (c.requires.state clean_old) c.args.id c.args.number c.requires.number
    (none_mapped seen_head _ (sym (c.in_ok-found.ensures.found clean) ∙ ap (option_map head_seen) c.in-None.is))
    (same_tables (state g.S.Store g.P.Shelf c.args.connection.now) (state g.S.Store g.P.Shelf c.numbered_head.new.connection) (c.in_ok-found.ensures.reads.same clean.intact)))

pub returns-in-None-clause-works : goal.returns-in-None-clause-works
returns-in-None-clause-works g c = record {
  within = search rules;
  opens = search rules;
  working = asked_working (state g.S.Store g.P.Shelf c.args.connection.now) (state g.S.Store g.P.Shelf c.numbered_head.new.connection) c.requires.working c.in_ok-found.ensures.reads.within c.in_ok-found.ensures.reads.same;
}

pub delete_found-requires-clause-working : goal.delete_found-requires-clause-working
delete_found-requires-clause-working g c clean =
    let old = state g.S.Store g.P.Shelf c.args.connection.now in
    let middle = state g.S.Store g.P.Shelf c.numbered_head.new.connection in
    works_on old middle (asked_working old middle c.requires.working c.in_ok-found.ensures.reads.within c.in_ok-found.ensures.reads.same clean)

pub delete_found-requires-clause-state : goal.delete_found-requires-clause-state
delete_found-requires-clause-state g c clean =
    ap (λ (x : Tables). mode_in c.args.bucket.now (view x c.args.tenant.now)) (same_tables (state g.S.Store g.P.Shelf c.args.connection.now) (state g.S.Store g.P.Shelf c.numbered_head.new.connection) (c.in_ok-found.ensures.reads.same clean.intact))
    ∙ c.requires.state (c.in_ok-found.ensures.reads.within.follows.clean clean)

pub delete_found-requires-clause-found : goal.delete_found-requires-clause-found
delete_found-requires-clause-found g c clean =
    sym (ap (option_map head_seen) c.in-Some.is) ∙ c.in_ok-found.ensures.found clean
    ∙ ap (λ (x : Tables). option_map seen_head (find (is_version c.args.tenant.now c.args.bucket.now c.args.key.now c.args.number) x.versions))
    (sym (same_tables (state g.S.Store g.P.Shelf c.args.connection.now) (state g.S.Store g.P.Shelf c.numbered_head.new.connection) (c.in_ok-found.ensures.reads.same clean.intact)))

pub returns-in-Some-clause-works : goal.returns-in-Some-clause-works
returns-in-Some-clause-works g c = record {
  within = search rules;
  opens = search rules;
  working = unless_kept c.delete_found.result _ _
      (λ still clean.
      let old = state g.S.Store g.P.Shelf c.args.connection.now in
      let middle = state g.S.Store g.P.Shelf c.numbered_head.new.connection in
      works_then old middle (state g.S.Store g.P.Shelf c.delete_found.new.connection) (asked_working old middle c.requires.working c.in_ok-found.ensures.reads.within c.in_ok-found.ensures.reads.same (c.delete_found.ensures.works.within.follows.clean clean)) (still clean)) c.delete_found.ensures.works.working;
}

pub returns-in-Some-clause-carries : goal.returns-in-Some-clause-carries
returns-in-Some-clause-carries g c clean =
    let same = same_tables (state g.S.Store g.P.Shelf c.args.connection.now) (state g.S.Store g.P.Shelf c.numbered_head.new.connection) (c.in_ok-found.ensures.reads.same (c.delete_found.ensures.works.within.follows.clean clean).intact) in
    subst (λ (x : Tables). Carries removed_answer c.args.tenant.now (delete_object c.args.at c.args.bucket.now c.args.key.now (Named c.args.id)) x (tables_at (state g.S.Store g.P.Shelf c.delete_found.new.connection)) c.delete_found.result) same (c.delete_found.ensures.carries clean)
