use Rattle.std.proofs.Common.{inl, refl}
use Rattle.bh_maintenance.proofs.Importing.{imports_to}
use Rattle.bh_maintenance.proofs.Opened.{when_ok, when_err, none_as}
use Rattle.bh_maintenance.proofs.imports.import_to.Goals as goal

pub import_into-requires-clause-to : goal.import_into-requires-clause-to
import_into-requires-clause-to g c = (when_ok _ _ c.in-Ok.is c.in_ok-to.ensures).found.ready

pub returns-in_ok-import_into-in-Ok : goal.returns-in_ok-import_into-in-Ok
returns-in_ok-import_into-in-Ok g c =
    let it = c.in_ok-import_into-in-Ok.field-0 in
    imports_to c.args.clock g.F.Store g.P.Shelf c.args.from.now _ _ _ _ _ it.printed c.in-Ok.to (when_ok _ _ c.in-Ok.is c.in_ok-to.ensures) it.packs it.files c.in_ok-import_into-in-Ok.ensures

pub returns-in-Err : goal.returns-in-Err
returns-in-Err g c = inl (none_as _ _ c.in-Err.field-0-is (when_err _ _ c.in-Err.is c.in_ok-to.ensures), refl)
