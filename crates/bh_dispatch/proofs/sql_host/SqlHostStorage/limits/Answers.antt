use Rattle.std.proofs.Common.{sym, ◌∙◌}
use Rattle.bh_base.specs.Connections.{state}
use Rattle.bh_schema.specs.Storage as storage
use Rattle.bh_memo.proofs.Recalling.{same_limits}
use Rattle.bh_dispatch.proofs.Storing.{limits_shown}
use Rattle.bh_dispatch.proofs.sql_host.SqlHostStorage.limits.Goals as goal

pub returns : goal.returns
returns g c =
    let host = c.args.self.now.host in
    sym (limits_shown host.cache host.limits (state g.S.Store g.P.Shelf host.connection)) ∙ sym (same_limits c.args.self.now.memo (storage.seen g.S.Store g.P.Shelf host))
