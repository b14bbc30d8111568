use Rattle.sqlite.specs.Held.{state}
use Rattle.bh_base.proofs.Calls.{changes_within, changes_opens}
use Rattle.bh_migration.proofs.Stages.{version_changes, version_keeps, version_holds, version_trouble}
use Rattle.bh_migration.proofs.set_version.Goals as goal

pub returns : goal.returns
returns g c =
    let h = c.execute.ensures in
    let old = state g.S.Store c.args.connection.now in
    let new = state g.S.Store c.execute.new.self in
    let live = c.schema-schema.ensures.live in
    let changes = version_changes old new c.requires c.execute.result live h.runs h.survives in
    record {
      within = changes_within old new (λ clean. (c.requires clean).inside) c.execute.result changes;
      opens = changes_opens old new (λ clean. (c.requires clean).inside) c.execute.result changes;
      keeps = version_keeps old new c.requires c.execute.result live h.runs h.survives;
      holds = version_holds old new c.requires c.execute.result live h.runs h.survives;
      trouble = version_trouble old new c.requires c.execute.result live h.runs h.survives;
    }
