use Rattle.std.proofs.Common.{is_some, sym, ap, ◌∙◌}
use Rattle.std.proofs.lemmas.List.{take-map}
use Rattle.bh_base.specs.Connections.{state}
use Rattle.bh_tables.specs.Due.{by_owner, shown_owner}
use Rattle.bh_schema.specs.Working.{tables_at}
use Rattle.bh_schema.proofs.Finds.{first_any}
use Rattle.bh_view.specs.Sweep.{is_due, due_uploads, uploads_swept}
use Rattle.bh_uploads.proofs.stale.any_stale.Goals as goal

pub returns-in-None-clause-found : goal.returns-in-None-clause-found
unfolding uploads_swept due_uploads
returns-in-None-clause-found g c clean =
    let old = tables_at (state g.S.Store g.P.Shelf c.args.connection.now) in
    ap is_some c.in-None.ensures.value ∙ first_any shown_owner by_owner (is_due c.args.at old) old.uploads _ (c.deref.ensures.value ∙ c.in_ok-rows.ensures.rows clean ∙ sym (take-map shown_owner 1 _))

pub returns-clause-found : goal.returns-clause-found
unfolding uploads_swept due_uploads
returns-clause-found g c clean =
    let old = tables_at (state g.S.Store g.P.Shelf c.args.connection.now) in
    ap is_some c.in-Some.ensures.value ∙ first_any shown_owner by_owner (is_due c.args.at old) old.uploads _ (c.deref.ensures.value ∙ c.in_ok-rows.ensures.rows clean ∙ sym (take-map shown_owner 1 _))
