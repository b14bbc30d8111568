use Rattle.std.proofs.Common.{inl, inr, refl}
use Rattle.std.proofs.lemmas.Result.{IfOk-weaker}
use Rattle.bh_maintenance.proofs.Opened.{when_ok, when_err, none_as}
use Rattle.bh_maintenance.proofs.imports.import_file.Goals as goal

pub import_given-requires-clause-from : goal.import_given-requires-clause-from
import_given-requires-clause-from g c = (when_ok _ _ c.in-Ok.is c.in_ok-from.ensures).found.ready

pub returns-in-Ok : goal.returns-in-Ok
returns-in-Ok g c = IfOk-weaker c.import_given.result _ _ (λ it came. inr (c.in-Ok.from, when_ok _ _ c.in-Ok.is c.in_ok-from.ensures, came)) c.import_given.ensures

pub returns-in-Err : goal.returns-in-Err
returns-in-Err g c = inl (none_as _ _ c.in-Err.field-0-is (when_err _ _ c.in-Err.is c.in_ok-from.ensures), refl)
