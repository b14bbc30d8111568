use Rattle.std.proofs.Common.{rules, sym, subst}
use Rattle.bh_base.specs.Connections.{state}
use Rattle.bh_types.specs.declared.wanted.Wanted.{Wanted}
use Rattle.bh_types.specs.declared.wanted.Wanted.TheVariants.{Unknown}
use Rattle.bh_model.specs.Operations.{Answer, delete_object}
use Rattle.bh_schema.specs.Working.{tables_at}
use Rattle.bh_storage.specs.Answers.{removed_answer}
use Rattle.bh_storage.specs.Calls.{GivesStep}
use Rattle.bh_objects.proofs.Working.{host_at, works_then, unless_kept}
use Rattle.bh_objects.proofs.Deleting.{deletes_unknown}
use Rattle.bh_objects.proofs.deletes.delete_object.Goals as goal

pub returns-in-Unknown-clause-carries : goal.returns-in-Unknown-clause-carries
returns-in-Unknown-clause-carries g c clean =
    let old = tables_at (state g.S.Store g.P.Shelf c.args.connection.now) in
    let new = tables_at (state g.S.Store g.P.Shelf c.bucket_state.new.connection) in
    let one = c.in_ok-mode.ensures.decides clean in
    subst (λ (w : Wanted). GivesStep c.args.tenant.now (delete_object c.args.at c.args.bucket.now c.args.key.now w) (removed_answer c.nothing_told.result) old new) (sym c.in-Unknown.is)
    (subst (λ (a : Answer). GivesStep c.args.tenant.now (delete_object c.args.at c.args.bucket.now c.args.key.now Unknown) a old new) (sym c.nothing_told.ensures)
    (deletes_unknown old new c.args.tenant.now c.args.bucket.now c.args.key.now c.args.at (host_at (state g.S.Store g.P.Shelf c.args.connection.now) (c.requires.working (c.in_ok-mode.ensures.works.within.follows.clean clean))) c.in_ok-mode.mode one.0 one.1))

pub delete_current-requires-clause-working : goal.delete_current-requires-clause-working
delete_current-requires-clause-working g c clean = (c.in_ok-mode.ensures.works.working clean (λ bytes. bytes)).is

pub returns-in-Current-clause-works : goal.returns-in-Current-clause-works
returns-in-Current-clause-works g c = record {
  within = search rules;
  opens = search rules;
  working = unless_kept c.delete_current.result _ _
      (λ still clean. works_then (state g.S.Store g.P.Shelf c.args.connection.now) (state g.S.Store g.P.Shelf c.bucket_state.new.connection) (state g.S.Store g.P.Shelf c.delete_current.new.connection) (c.in_ok-mode.ensures.works.working (c.delete_current.ensures.works.within.follows.clean clean)) (still clean)) c.delete_current.ensures.works.working;
}

pub delete_named-requires-clause-working : goal.delete_named-requires-clause-working
delete_named-requires-clause-working g c clean = (c.in_ok-mode.ensures.works.working clean (λ bytes. bytes)).is

pub returns-in-Named-clause-works : goal.returns-in-Named-clause-works
returns-in-Named-clause-works g c = record {
  within = search rules;
  opens = search rules;
  working = unless_kept c.delete_named.result _ _
      (λ still clean. works_then (state g.S.Store g.P.Shelf c.args.connection.now) (state g.S.Store g.P.Shelf c.bucket_state.new.connection) (state g.S.Store g.P.Shelf c.delete_named.new.connection) (c.in_ok-mode.ensures.works.working (c.delete_named.ensures.works.within.follows.clean clean)) (still clean)) c.delete_named.ensures.works.working;
}
