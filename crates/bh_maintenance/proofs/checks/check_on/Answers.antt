use Rattle.std.proofs.Common.{◌≡◌, inr, IfOk, ap, ◌∙◌, subst}
use Rattle.std.proofs.lemmas.Result.{IfOk-weaker}
use Rattle.sqlite.specs.Held.{state}
use Rattle.bh_base.specs.Layer.{Standing, standing}
use Rattle.bh_open.specs.Opening.{Finds}
use Rattle.bh_open.specs.Versions.{schema_of}
use Rattle.bh_open.specs.declared.found.FoundHost.{FoundHost}
use Rattle.bh_maintenance.proofs.Verdicts.{verdict_weaker, settled_same, found_sound}
use Rattle.bh_maintenance.proofs.checks.check_on.Goals as goal

pub check_found-requires-clause-schema : goal.check_found-requires-clause-schema
check_found-requires-clause-schema g c clean =
    let it = c.in-Ok-Ok.ensures in
    let old = state g.S.Store c.args.connection in
    ap (λ (x : Standing). x.now.schema) (it.same clean) ∙ subst (λ r. IfOk r (λ (f : FoundHost). (standing old).now.schema ≡ schema_of f.version)) c.in-Ok-Ok.field-0-is it.schema

pub check_found-requires-clause-settled : goal.check_found-requires-clause-settled
check_found-requires-clause-settled g c =
    let it = c.in-Ok-Ok.ensures in
    settled_same (state g.S.Store c.args.connection) (state g.S.Store c.look.new.connection) it.settled it.follows it.same

pub returns-in-Ok-Ok : goal.returns-in-Ok-Ok
returns-in-Ok-Ok g c =
    let it = c.in-Ok-Ok.ensures in
    let old = state g.S.Store c.args.connection in
    let new = state g.S.Store c.look.new.connection in
    IfOk-weaker c.check_found.result _ _
    (λ done told. verdict_weaker _ _ done.printed
    (λ sound clean live pure. found_sound (g.K.ClosedPacks.has c.args.closed) c.in-Ok-Ok.found old new it.follows it.same (λ now. subst (Finds (standing old).now) c.in-Ok-Ok.field-0-is (it.finds now)) (sound clean live pure)) told)
    c.check_found.ensures

pub returns-in-Ok-Err : goal.returns-in-Ok-Err
returns-in-Ok-Err g c = IfOk-weaker c.check_none.result _ _ (λ done one. inr one) c.check_none.ensures

pub returns-in-Err : goal.returns-in-Err
returns-in-Err g c = IfOk-weaker c.check_none-in-Err.result _ _ (λ done one. inr one) c.check_none-in-Err.ensures
