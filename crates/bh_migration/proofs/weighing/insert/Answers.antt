use Rattle.sqlite.specs.Held.{state}
use Rattle.bh_base.proofs.Calls.{changes_within, changes_opens}
use Rattle.bh_migration.proofs.Tallied.{weight_changes, weight_keeps, weight_adds}
use Rattle.bh_migration.proofs.weighing.insert.Goals as goal

pub returns : goal.returns
returns g c =
    let h = rw c.number.ensures at c.write.ensures in
    let old = state g.S.Store c.args.connection.now in
    let new = state g.S.Store c.write.new.connection in
    let n = c.args.bytes in
    let has = c.requires.schema in
    let changes = weight_changes old new has n c.write.result h.live h.runs h.survives in
    record {
      within = changes_within old new (λ clean. (has clean).inside) c.write.result changes;
      opens = changes_opens old new (λ clean. (has clean).inside) c.write.result changes;
      keeps = weight_keeps old new has n c.write.result h.live h.runs h.survives;
      adds = weight_adds old new has n c.write.result h.live h.runs h.survives;
    }
