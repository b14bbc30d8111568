use Rattle.std.proofs.Common.{ap}
use Rattle.std.proofs.lemmas.Result.{on_ok_weaker}
use Rattle.sqlite.specs.Held.{state}
use Rattle.sqlite.specs.Value.{owned}
use Rattle.sqlite.specs.Values.{bound_value}
use Rattle.bh_base.proofs.Calls.{changes_within, changes_opens}
use Rattle.bh_migration.proofs.Tallied.{insert_changes, insert_keeps, insert_adds}
use Rattle.bh_migration.proofs.tallying.insert.Goals as goal

pub number-requires : goal.number-requires
number-requires g c = c.requires.small.versions

pub number-requires-2 : goal.number-requires-2
number-requires-2 g c = c.requires.small.markers

pub number-requires-3 : goal.number-requires-3
number-requires-3 g c = c.requires.small.objects

pub returns : goal.returns
returns g c =
    let h = rw (c.number.ensures, c.number-2.ensures, c.number-3.ensures) at c.write.ensures in
    let old = state g.S.Store c.args.connection.now in
    let new = state g.S.Store c.write.new.connection in
    let value = bound_value (owned c.args.tenant) in
    let t = c.args.tally in
    let has = c.requires.schema in
    let changes = insert_changes old new has value t.versions t.markers t.objects c.write.result h.live h.runs h.survives in
    record {
      within = changes_within old new (λ clean. (has clean).inside) c.write.result changes;
      opens = changes_opens old new (λ clean. (has clean).inside) c.write.result changes;
      keeps = insert_keeps old new has value t.versions t.markers t.objects c.write.result h.live h.runs h.survives;
      adds = on_ok_weaker c.write.result (λ adds clean tables done holds name named. adds clean tables done holds name (ap bound_value named)) (insert_adds old new has value t.versions t.markers t.objects c.write.result h.live h.runs h.survives);
    }
