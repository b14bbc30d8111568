use Rattle.sqlite.specs.Held.{state}
use Rattle.bh_tables.specs.Typed.{totals_of, tables}
use Rattle.bh_tables.specs.Shown.{is_tenant}
use Rattle.bh_tables.proofs.Places.{tenants}
use Rattle.bh_tables.proofs.TallyLemmas.{totals_tenant_changed}
use Rattle.bh_schema.specs.OwnNumbers.{own_number}
use Rattle.bh_base.proofs.Calls.{updated_so}
use Rattle.bh_schema.proofs.OwnNumbers.{number_may, number_named}
use Rattle.bh_base.specs.Connections.{backing}
use Rattle.bh_base.specs.Shown.{shown}
use Rattle.bh_base.proofs.Apart.{tenants_apart}
use Rattle.bh_schema.proofs.rows.tenants.set_number.Goals as goal

pub returns : goal.returns
returns g c =
    let h = rw (c.to_sql.ensures, c.number.ensures) at c.write.ensures in
    let old = state g.S.Store c.args.connection.now.database in
    let a = backing g.P.Shelf c.args.connection.now.packs in
    let sums = totals_of (tables (shown a old)) in
    let w = updated_so tenants (λ _. tenants_apart) a old (state g.S.Store c.write.new.connection) c.requires.inside c.write.result h.live (totals_tenant_changed (tables (shown a old)) (is_tenant c.args.tenant.now) (own_number c.args.which c.args.n) (number_named c.args.which c.args.n)) (c.text.ensures sums c.args.tenant.now c.args.n) (number_may sums c.args.tenant.now c.args.which c.args.n) h.runs h.survives in
    record { writes = record { within = w.within; opens = w.opens; inside = w.inside }; holds = w.holds; trouble = w.trouble }
