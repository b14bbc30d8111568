use Rattle.std.proofs.Common.{length, refl, sym, ap, ◌∙◌, subst}
use Rattle.std.proofs.lemmas.Result.{err_from_is_err_and}
use Rattle.std.specs.Option.{option_copied}
use Rattle.bh_base.specs.Connections.{state}
use Rattle.bh_model.specs.Operations.{Answer, get_object}
use Rattle.bh_view.specs.Blocks.{whole}
use Rattle.bh_schema.specs.Views.{head_seen}
use Rattle.bh_schema.specs.Working.{tables_at}
use Rattle.bh_storage.specs.Answers.{found_answer}
use Rattle.bh_storage.specs.Calls.{GivesStep}
use Rattle.bh_storage.specs.Plans.{to_come}
use Rattle.bh_objects.proofs.Working.{host_at, any_unless, refused_same}
use Rattle.bh_objects.proofs.Getting.{as_object, body_size, cut_length, gets, gets_failed, gets_out_of_range}
use Rattle.bh_objects.proofs.gets.find_object.Goals as goal

pub returns-in_err-head-clause-carries : goal.returns-in_err-head-clause-carries
returns-in_err-head-clause-carries g c clean =
    let p = err_from_is_err_and c.from_residual.result c.from_residual.ensures.1 in
    let first = c.in_err-head.ensures.works.within.follows.clean clean in
    let old = tables_at (state g.S.Store g.P.Shelf c.args.connection.now) in
    let last = tables_at (state g.S.Store g.P.Shelf c.wanted_head.new.connection) in
    rw (p.1, p.2) (gets_failed old old c.args.tenant.now c.args.bucket.now c.args.key.now (c.requires.working first).sound c.args.mode (c.requires.mode first) c.args.wanted refl
    head_seen (found_answer last) (option_copied c.args.range) last c.in_err-head.field-0.0 (c.in_err-head.ensures.decides clean))

pub returns-in_err-head-clause-same : goal.returns-in_err-head-clause-same
returns-in_err-head-clause-same g c =
    let p = err_from_is_err_and c.from_residual.result c.from_residual.ensures.1 in
    rw (p.1, p.2) (refused_same head_seen _ (state g.S.Store g.P.Shelf c.args.connection.now) (state g.S.Store g.P.Shelf c.wanted_head.new.connection) c.in_err-head.field-0.0 c.in_err-head.ensures.decides)

pub returns-in_err-range-clause-same : goal.returns-in_err-range-clause-same
returns-in_err-range-clause-same g c = any_unless c.from_residual-in_err-range.result _ (λ clean. (c.in_ok-head.ensures.decides clean).1)

pub returns-clause-same : goal.returns-clause-same
returns-clause-same g c clean = (c.in_ok-head.ensures.decides clean).1

pub returns-in_err-range-clause-carries : goal.returns-in_err-range-clause-carries
returns-in_err-range-clause-carries g c clean =
    let p = err_from_is_err_and c.from_residual-in_err-range.result c.from_residual-in_err-range.ensures.1 in
    let first = c.in_ok-head.ensures.works.within.follows.clean clean in
    let two = c.in_ok-head.ensures.decides clean in
    let old = tables_at (state g.S.Store g.P.Shelf c.args.connection.now) in
    rw (p.1, p.2) (gets_out_of_range old old c.args.tenant.now c.args.bucket.now c.args.key.now (c.requires.working first).sound c.args.mode (c.requires.mode first) c.args.wanted refl
    (tables_at (state g.S.Store g.P.Shelf c.wanted_head.new.connection)) two.1 (option_copied c.args.range) (head_seen c.in_ok-head.head) two.0 c.in_err-range.field-0.0 (sym c.in_err-range.ensures))

pub returns-clause-carries : goal.returns-clause-carries
returns-clause-carries g c clean =
    let old = tables_at (state g.S.Store g.P.Shelf c.args.connection.now) in
    let last = tables_at (state g.S.Store g.P.Shelf c.wanted_head.new.connection) in
    let first = c.in_ok-head.ensures.works.within.follows.clean clean in
    let two = c.in_ok-head.ensures.decides clean in
    let head = head_seen c.in_ok-head.head in
    let host = host_at (state g.S.Store g.P.Shelf c.args.connection.now) (c.requires.working first) in
    subst (λ (a : Answer). GivesStep c.args.tenant.now (get_object c.args.bucket.now c.args.key.now c.args.wanted (option_copied c.args.range)) (as_object c.in_ok-range.range (to_come c.in_ok-plan.plan last) a) old last) (sym c.told_head.ensures)
    (gets old old c.args.tenant.now c.args.bucket.now c.args.key.now (c.requires.working first).sound c.args.mode (c.requires.mode first) c.args.wanted refl last two.1 (option_copied c.args.range) head two.0
    host.resolved last c.in_ok-range.range (to_come c.in_ok-plan.plan last) (sym c.in_ok-range.ensures)
    (c.in_ok-plan.ensures.names last (body_size old old c.args.tenant.now c.args.bucket.now c.args.key.now (c.requires.working first).sound c.args.mode (c.requires.mode first) c.args.wanted refl last two.1 head two.0 host.resolved))
    refl)

pub returns-clause-measured : goal.returns-clause-measured
returns-clause-measured g c clean =
    let old = tables_at (state g.S.Store g.P.Shelf c.args.connection.now) in
    let last = tables_at (state g.S.Store g.P.Shelf c.wanted_head.new.connection) in
    let first = c.in_ok-head.ensures.works.within.follows.clean clean in
    let two = c.in_ok-head.ensures.decides clean in
    let head = head_seen c.in_ok-head.head in
    let host = host_at (state g.S.Store g.P.Shelf c.args.connection.now) (c.requires.working first) in
    let long = body_size old old c.args.tenant.now c.args.bucket.now c.args.key.now (c.requires.working first).sound c.args.mode (c.requires.mode first) c.args.wanted refl last two.1 head two.0 host.resolved in
    c.in_ok-plan.ensures.left ∙ sym (cut_length c.in_ok-range.range head.size (whole last.refs last.blocks (c.args.tenant.now, head.seq)) long) ∙ ap length (sym (c.in_ok-plan.ensures.names last long))
