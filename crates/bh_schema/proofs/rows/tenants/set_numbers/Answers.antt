use Rattle.std.proofs.Common.{refl}
use Rattle.sqlite.specs.Held.{state}
use Rattle.bh_tables.specs.Typed.{totals_of, tables}
use Rattle.bh_tables.specs.Shown.{is_tenant}
use Rattle.bh_tables.proofs.Places.{tenants}
use Rattle.bh_tables.proofs.TallyLemmas.{totals_tenant_changed}
use Rattle.bh_tables.proofs.TenantTexts.{numbers_set, numbers_may}
use Rattle.bh_base.proofs.Calls.{updated_so}
use Rattle.bh_base.specs.Connections.{backing}
use Rattle.bh_base.specs.Shown.{shown}
use Rattle.bh_base.proofs.Apart.{tenants_apart}
use Rattle.bh_schema.proofs.rows.tenants.set_numbers.Goals as goal

pub returns : goal.returns
returns g c =
    let h = rw (c.to_sql.ensures, c.number.ensures, c.number-2.ensures) at c.write.ensures in
    let old = state g.S.Store c.args.connection.now.database in
    let a = backing g.P.Shelf c.args.connection.now.packs in
    let sums = totals_of (tables (shown a old)) in
    let w = updated_so tenants (λ _. tenants_apart) a old (state g.S.Store c.write.new.connection) c.requires.inside c.write.result h.live (totals_tenant_changed (tables (shown a old)) (is_tenant c.args.tenant.now) (λ t. record t { next_version = c.args.version; next_entry = c.args.entry }) (λ t. refl))
    (numbers_set sums c.args.tenant.now c.args.version c.args.entry) (numbers_may sums c.args.tenant.now c.args.version c.args.entry) h.runs h.survives in
    record { writes = record { within = w.within; opens = w.opens; inside = w.inside }; holds = w.holds; trouble = w.trouble }
