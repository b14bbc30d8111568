use Rattle.std.proofs.Common.{ap}
use Rattle.std.proofs.lemmas.Result.{IfOk-weaker}
use Rattle.sqlite.specs.Held.{state}
use Rattle.sqlite.specs.Value.{owned}
use Rattle.sqlite.specs.Values.{bound_value}
use Rattle.bh_migration.proofs.Tallied.{count_quiet, count_told}
use Rattle.bh_migration.proofs.tallying.count_rows.Goals as goal

pub returns : goal.returns
returns g c =
    let h = rw c.text.ensures at c.query_all.ensures in
    let old = state g.S.Store c.args.connection.now in
    let new = state g.S.Store c.query_all.new.self in
    let value = bound_value (owned c.args.tenant) in
    let q = count_quiet old new c.requires c.args.what value (λ v. v.items) c.query_all.result h.ok h.err h.survives in
    record {
      reads = record { within = q.within; opens = q.opens; same = q.same };
      rows = IfOk-weaker c.query_all.result _ _ (λ rows told clean sums host name named. told clean sums host name (ap bound_value named)) (count_told old new c.requires c.args.what value (λ v. v.items) c.query_all.result h.ok h.err h.survives);
    }
