use Rattle.std.proofs.Common.{sym, subst}
use Rattle.std.proofs.lemmas.Result.{err_from_is_err_and}
use Rattle.bh_storage.specs.Calls.{Seen}
use Rattle.bh_host.specs.Answers.{IsPlanMeasured}
use Rattle.bh_host.proofs.Delivering.{found_when}
use Rattle.bh_host.proofs.Serving.{served_none, served_done, served_refused, served_spoilt}
use Rattle.bh_host.proofs.receiving.serve_tenant.Goals as goal

pub returns-in_err-purge-clause-serves : goal.returns-in_err-purge-clause-serves
returns-in_err-purge-clause-serves g c =
    let p = err_from_is_err_and c.from_residual.result c.from_residual.ensures.1 in
    served_none _ _ _ _ _ _ _ c.from_residual.result p.0 p.1 c.requires.going

pub returns-in-Ok-Done-clause-serves : goal.returns-in-Ok-Done-clause-serves
returns-in-Ok-Done-clause-serves g c =
    let came = rw c.in-Ok-Done.field-0-is at c.in-Ok-Done.ensures in
    let out = c.in_ok-delivered-in-Ok-Done.ensures in
    served_done g.H.Storage.IsIntact g.H.Storage.IsOpen g.H.Storage.seen g.H.Storage.left g.H.Storage.IsSoundStore c.args.key c.args.at c.args.head.now _ _ c.args.host.now c.purge.new.self c.requested.new.host c.requires.keyed c.requires.working c.in_ok-purge.ensures.goes_on.within c.in_ok-purge.ensures.purges c.requested.ensures.within
    c.delivered.new.host out.within out.same c.in-Ok-Done.offer c.in_ok-composed-in-Ok-Done.composed c.in_ok-delivered-in-Ok-Done.field-0 came.working came.operates (found_when c.in-Ok-Done.offer _ _ came.measured) c.in_ok-composed-in-Ok-Done.ensures.told out.bytes

pub returns-in-Ok-Spoilt-clause-serves : goal.returns-in-Ok-Spoilt-clause-serves
returns-in-Ok-Spoilt-clause-serves g c =
    let came = rw c.in-Ok-Spoilt.field-0-is at c.in-Ok-Spoilt.ensures in
    served_spoilt g.H.Storage.IsIntact g.H.Storage.IsOpen g.H.Storage.seen g.H.Storage.left g.H.Storage.IsSoundStore c.args.key c.args.at c.args.head.now _ _ c.args.host.now c.purge.new.self c.requested.new.host c.requires.keyed c.requires.working c.in_ok-purge.ensures.goes_on.within c.in_ok-purge.ensures.purges c.requested.ensures.within c.in-Ok-Spoilt.rejection _ came.operates c.in_ok-text-in-Ok-Spoilt.ensures

pub returns-in-Err-Refused-clause-serves : goal.returns-in-Err-Refused-clause-serves
returns-in-Err-Refused-clause-serves g c =
    let came = rw c.in-Err-Refused.field-0-is at c.in-Err-Refused.ensures in
    served_refused g.H.Storage.IsIntact g.H.Storage.IsOpen g.H.Storage.seen g.H.Storage.left g.H.Storage.IsSoundStore c.args.key c.args.at c.args.head.now _ _ c.args.host.now c.purge.new.self c.requested.new.host c.requires.keyed c.requires.working c.in_ok-purge.ensures.goes_on.within c.in_ok-purge.ensures.purges c.requested.ensures.within c.in-Err-Refused.rejection c.in_ok-text-in-Err-Refused.text came.working came.operates (rw c.in-Err-Refused.field-0-is at c.in_ok-text-in-Err-Refused.ensures)

pub returns-in-Ok-Done-clause-measured : goal.returns-in-Ok-Done-clause-measured
returns-in-Ok-Done-clause-measured g c clean =
    let came = rw c.in-Ok-Done.field-0-is at c.in-Ok-Done.ensures in
    let out = c.in_ok-delivered-in-Ok-Done.ensures in
    let tables = (g.H.Storage.seen c.requested.new.host).now in
    let found = found_when c.in-Ok-Done.offer _ _ came.measured (out.within.intact clean.0, out.within.opened clean.0 clean.1) in
    subst (λ (s : Seen). IsPlanMeasured s.now c.in_ok-delivered-in-Ok-Done.field-0) (sym (out.same clean)) (out.measured tables (c.in_ok-composed-in-Ok-Done.ensures.measured tables found))
