use Rattle.std.proofs.Common.{map, ap, ◌∙◌}
use Rattle.std.proofs.lemmas.Result.{IfOk-at_ok}
use Rattle.bh_base.specs.Connections.{state}
use Rattle.bh_tables.specs.Due.{shown_owner, past_uploads}
use Rattle.bh_schema.specs.Working.{tables_at}
use Rattle.bh_view.proofs.DueLemmas.{first_due}
use Rattle.bh_uploads.proofs.stale.stale_rows.Goals as goal

pub returns-clause-rows : goal.returns-clause-rows
returns-clause-rows g c clean =
    let old = tables_at (state g.S.Store g.P.Shelf c.args.connection.now) in
    let clean_old = c.past_rows.ensures.reads.within.follows.clean clean in
    IfOk-at_ok _ c.in_ok-rows.ensures.ok c.past_rows.ensures.rows clean (c.requires clean_old).sound
    ∙ ap (λ n. map shown_owner (past_uploads n c.in_ok-today.today old.buckets old.uploads)) c.from.ensures
    ∙ ap (λ m. map shown_owner (past_uploads c.args.limit m old.buckets old.uploads)) (c.in_ok-today.ensures.same ∙ c.stale_before.ensures)
    ∙ ap (map shown_owner) (first_due old c.args.at (c.requires clean_old).sound c.args.limit)
