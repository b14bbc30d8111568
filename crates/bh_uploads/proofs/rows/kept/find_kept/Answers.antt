use Rattle.std.proofs.Common.{◌∙◌}
use Rattle.bh_base.specs.Connections.{state}
use Rattle.bh_schema.specs.Working.{tables_at}
use Rattle.bh_uploads.proofs.Keeping.{kept_read}
use Rattle.bh_uploads.proofs.rows.kept.find_kept.Goals as goal

pub returns-in-Some-clause-kept : goal.returns-in-Some-clause-kept
returns-in-Some-clause-kept g c = kept_read (tables_at (state g.S.Store g.P.Shelf c.args.connection.now)) c.args.tenant.now c.args.upload (state g.S.Store g.P.Shelf c.kept_rows.new.connection) _ c.in-Some.row.now c.read_kept.result c.read_kept.ensures.read
    (λ clean. c.deref.ensures.value ∙ c.in_ok-rows.ensures.rows clean) c.in-Some.ensures.value
