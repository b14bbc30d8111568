use Rattle.std.proofs.Common.{refl, sym, subst}
use Rattle.bh_base.specs.Connections.{state}
use Rattle.bh_types.specs.declared.wanted.Wanted.TheVariants.{Named}
use Rattle.bh_model.specs.Operations.{Answer, delete_object}
use Rattle.bh_schema.specs.Working.{tables_at}
use Rattle.bh_storage.specs.Calls.{GivesStep}
use Rattle.bh_objects.proofs.Working.{host_at}
use Rattle.bh_objects.proofs.Deleting.{deletes_no_number}
use Rattle.bh_objects.proofs.deletes.delete_named.Goals as goal

pub returns-in-None-clause-carries : goal.returns-in-None-clause-carries
returns-in-None-clause-carries g c clean =
    let old = tables_at (state g.S.Store g.P.Shelf c.args.connection.now) in
    subst (λ (a : Answer). GivesStep c.args.tenant.now (delete_object c.args.at c.args.bucket.now c.args.key.now (Named c.args.id)) a old old) (sym c.nothing_told.ensures)
    (deletes_no_number old old c.args.tenant.now c.args.bucket.now c.args.key.now c.args.at (host_at (state g.S.Store g.P.Shelf c.args.connection.now) (c.requires.working clean)) c.args.mode (c.requires.state clean) c.args.id c.in-None.ensures.none refl)
