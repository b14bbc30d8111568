use Rattle.std.proofs.Common.{ap, ◌∙◌}
use Rattle.std.proofs.lemmas.Result.{IfOk-at_ok}
use Rattle.bh_base.specs.Connections.{state}
use Rattle.bh_schema.specs.Working.{tables_at}
use Rattle.bh_view.specs.Grouped.{same_number}
use Rattle.bh_view.specs.View.{without_uploads}
use Rattle.bh_uploads.proofs.stale.remove_row.Goals as goal

pub returns-clause-removed : goal.returns-clause-removed
returns-clause-removed g c u is clean =
    let old = tables_at (state g.S.Store g.P.Shelf c.args.connection.now) in
    let tenant = c.in_ok-tenant.ensures ∙ c.as_str.ensures.value ∙ IfOk-at_ok _ c.in_ok-owner.ensures.ok c.read_owner.ensures.tenant u is in
    let upload = IfOk-at_ok _ c.in_ok-owner.ensures.ok c.read_owner.ensures.upload u is in
    c.in_ok-remove_upload.ensures.removed clean
    ∙ ap (λ t. without_uploads t (λ n. same_number n c.in_ok-owner.owner.upload) old) tenant
    ∙ ap (λ m. without_uploads u.tenant (λ n. same_number n m) old) upload
