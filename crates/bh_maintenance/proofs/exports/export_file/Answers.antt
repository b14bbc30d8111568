use Rattle.std.proofs.Common.{inl, inr, refl}
use Rattle.std.proofs.lemmas.Result.{IfOk-weaker}
use Rattle.bh_maintenance.proofs.Opened.{when_ok, when_err, none_as}
use Rattle.bh_maintenance.proofs.exports.export_file.Goals as goal

pub export_from-requires : goal.export_from-requires
export_from-requires g c = (when_ok _ _ c.in-Ok.is c.in_ok-host.ensures).found.ready

pub returns-in-Ok : goal.returns-in-Ok
returns-in-Ok g c = IfOk-weaker c.export_from.result _ _ (λ it came. inr (c.in-Ok.host, when_ok _ _ c.in-Ok.is c.in_ok-host.ensures, came)) c.export_from.ensures

pub returns-in-Err : goal.returns-in-Err
returns-in-Err g c = inl (none_as _ _ c.in-Err.field-0-is (when_err _ _ c.in-Err.is c.in_ok-host.ensures), refl)
