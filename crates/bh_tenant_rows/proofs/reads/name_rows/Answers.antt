use Rattle.std.proofs.Common.{map, ap}
use Rattle.sqlite.specs.Held.{state}
use Rattle.bh_tables.specs.Typed.{totals_of, tables}
use Rattle.bh_tables.proofs.Places.{tenants}
use Rattle.bh_base.proofs.Calls.{selected, asked}
use Rattle.bh_tenant_rows.specs.Shown.{shown_name}
use Rattle.bh_tenant_rows.proofs.Texts.{names_shown}
use Rattle.bh_tenant_rows.proofs.Lists.{filter_all}
use Rattle.bh_base.specs.Connections.{backing}
use Rattle.bh_base.specs.Shown.{shown}
use Rattle.bh_base.proofs.Apart.{tenants_apart}
use Rattle.bh_tenant_rows.proofs.reads.name_rows.Goals as goal

pub returns : goal.returns
returns g c =
    let h = c.query_all.ensures in
    let q = asked _ _ (λ t. ap (map shown_name) (filter_all t.tenants)) (selected tenants (λ _. tenants_apart) (backing g.P.Shelf c.args.connection.now.packs) (state g.S.Store c.args.connection.now.database) (state g.S.Store c.query_all.new.self) c.requires.inside (λ v. v.items) c.query_all.result (names_shown (totals_of (tables (shown (backing g.P.Shelf c.args.connection.now.packs) (state g.S.Store c.args.connection.now.database))))) h.ok h.err h.survives) in
    record { reads = record { within = q.within; opens = q.opens; same = q.same }; rows = q.rows }
