use Rattle.std.proofs.Common.{refl}
use Rattle.bh_base.specs.Layer.{standing}
use Rattle.sqlite.specs.Held.{state}
use Rattle.bh_tables.proofs.Places.{keys}
use Rattle.bh_tables.proofs.KeyTexts.{key_inserted, new_key}
use Rattle.bh_base.proofs.Calls.{inserted}
use Rattle.bh_base.specs.Connections.{backing}
use Rattle.bh_base.specs.Shown.{shown}
use Rattle.bh_tables.specs.Typed.{totals_of, no_rows}
use Rattle.bh_base.proofs.Apart.{keys_apart, key_may}
use Rattle.bh_schema.proofs.rows.keys.insert_key.Goals as goal

pub returns : goal.returns
returns g c =
    let h = rw (c.to_sql.ensures, c.to_sql-2.ensures, c.to_sql-3.ensures) at c.write.ensures in
    let old = state g.S.Store c.args.connection.now.database in
    let a = backing g.P.Shelf c.args.connection.now.packs in
    let w = inserted keys (λ _. keys_apart) a old (state g.S.Store c.write.new.connection) c.requires.inside (λ t l. refl) c.write.result h.live (key_inserted c.args.tenant.now c.args.name.now c.args.secret.now) (λ packs db. key_may (totals_of no_rows) packs db _) (λ clean is. new_key (standing (shown a old)).now (c.requires.inside clean).host _ is.free is.owned) h.runs h.survives in
    record { writes = record { within = w.within; opens = w.opens; inside = w.inside }; holds = w.holds; trouble = w.trouble }
