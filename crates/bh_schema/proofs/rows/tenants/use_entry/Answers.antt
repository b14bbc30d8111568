use Rattle.std.proofs.Common.{refl, pos, ◌+ℤ◌, ◌-ℤ◌}
use Rattle.sqlite.specs.Held.{state}
use Rattle.bh_tables.proofs.UsedTexts.{entry_used_set}
use Rattle.bh_schema.proofs.UsedCalls.{changed_tenants}
use Rattle.bh_base.specs.Connections.{backing}
use Rattle.bh_schema.proofs.rows.tenants.use_entry.Goals as goal

pub returns : goal.returns
returns g c =
    let h = rw (c.to_sql.ensures, c.number.ensures, c.number-2.ensures, c.number-3.ensures) at c.write.ensures in
    let old = state g.S.Store c.args.connection.now.database in
    let a = backing g.P.Shelf c.args.connection.now.packs in
    let w = changed_tenants a old (state g.S.Store c.write.new.connection) c.requires.midst c.write.result h.live c.args.tenant.now c.args.more c.args.less (λ d. record { row = record d.row { next_entry = c.args.next }; used = d.used +ℤ pos c.args.more -ℤ pos c.args.less }) (λ t. record t { next_entry = c.args.next }) (λ d. refl) (λ t. refl) (λ d. refl) (entry_used_set c.args.tenant.now c.args.next c.args.more c.args.less c.requires.more c.requires.less) h.runs h.survives in
    record { writes = record { within = w.within; opens = w.opens; midst = w.midst }; rewrites = w.rewrites }
