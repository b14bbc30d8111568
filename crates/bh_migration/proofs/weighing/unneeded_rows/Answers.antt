use Rattle.sqlite.specs.Held.{state}
use Rattle.bh_migration.proofs.Tallied.{sum_quiet, sum_told}
use Rattle.bh_migration.proofs.weighing.unneeded_rows.Goals as goal

pub returns : goal.returns
returns g c =
    let h = c.query_all.ensures in
    let old = state g.S.Store c.args.connection.now in
    let new = state g.S.Store c.query_all.new.self in
    let q = sum_quiet old new c.requires (λ v. v.items) c.query_all.result h.ok h.err h.survives in
    record { reads = record { within = q.within; opens = q.opens; same = q.same }; rows = sum_told old new c.requires (λ v. v.items) c.query_all.result h.ok h.err h.survives }
