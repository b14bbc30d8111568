use Rattle.std.proofs.Common.{rules, ap, ◌∙◌, subst}
use Rattle.std.specs.Option.{option_copied}
use Rattle.bh_base.specs.Connections.{state}
use Rattle.bh_model.specs.Operations.{get_object}
use Rattle.bh_tables.specs.Typed.{Tables}
use Rattle.bh_view.specs.View.{view}
use Rattle.bh_schema.specs.Working.{tables_at}
use Rattle.bh_storage.specs.Answers.{found_answer}
use Rattle.bh_storage.specs.Calls.{Carries}
use Rattle.bh_objects.specs.Found.{mode_in}
use Rattle.bh_objects.proofs.Working.{works_then, unless_kept}
use Rattle.std.proofs.lemmas.Result.{err_from_is_err_and}
use Rattle.bh_objects.proofs.Unfound.{get_unfound}
use Rattle.bh_objects.proofs.gets.get_object.Goals as goal

pub find_object-requires-clause-working : goal.find_object-requires-clause-working
find_object-requires-clause-working g c clean = (c.in_ok-mode.ensures.works.working clean (λ bytes. bytes)).is

pub find_object-requires-clause-mode : goal.find_object-requires-clause-mode
find_object-requires-clause-mode g c clean =
    let one = c.in_ok-mode.ensures.decides clean in
    ap (λ (x : Tables). mode_in c.args.bucket.now (view x c.args.tenant.now)) one.1 ∙ one.0

pub returns-clause-works : goal.returns-clause-works
returns-clause-works g c = record {
  within = search rules;
  opens = search rules;
  working = unless_kept c.find_object.result _ _
      (λ still clean. works_then (state g.S.Store g.P.Shelf c.args.connection.now) (state g.S.Store g.P.Shelf c.bucket_state.new.connection) (state g.S.Store g.P.Shelf c.find_object.new.connection) (c.in_ok-mode.ensures.works.working (c.find_object.ensures.works.within.follows.clean clean)) (still clean))
      c.find_object.ensures.works.working;
}

pub returns-clause-carries : goal.returns-clause-carries
returns-clause-carries g c clean =
    let last = tables_at (state g.S.Store g.P.Shelf c.find_object.new.connection) in
    subst (λ (x : Tables). Carries (found_answer last) c.args.tenant.now (get_object c.args.bucket.now c.args.key.now c.args.wanted (option_copied c.args.range)) x last c.find_object.result)
    (c.in_ok-mode.ensures.decides (c.find_object.ensures.works.within.follows.clean clean)).1 (c.find_object.ensures.carries clean)

pub returns-in_err-mode-clause-carries : goal.returns-in_err-mode-clause-carries
returns-in_err-mode-clause-carries g c clean =
    let p = err_from_is_err_and c.from_residual.result c.from_residual.ensures.1 in
    let last = tables_at (state g.S.Store g.P.Shelf c.bucket_state.new.connection) in
    rw (p.1, p.2) (get_unfound (λ mode. mode) (found_answer last) c.args.tenant.now c.args.bucket.now c.args.key.now c.args.wanted (tables_at (state g.S.Store g.P.Shelf c.args.connection.now)) last (option_copied c.args.range) c.in_err-mode.field-0.0 (c.in_err-mode.ensures.decides clean))
