use Rattle.std.proofs.Common.{List, [], ◌∷◌, Ok, Err, ◌∙◌}
use Rattle.std.specs.Str.{IsUtf8}
use Rattle.std.specs.String.{string_bytes}
use Rattle.sqlite.specs.Held.{state}
use Rattle.sqlite.specs.Order.{Row}
use Rattle.sqlite.specs.declared.types.Value.TheVariants.{Text}
use Rattle.bh_tables.specs.Schema.{Octets}
use Rattle.bh_tables.specs.Shown.{keys_by_name}
use Rattle.bh_tables.proofs.Places.{keys}
use Rattle.bh_tables.proofs.KeyTexts.{keys_listed}
use Rattle.bh_base.specs.Connections.{tables}
use Rattle.bh_schema.proofs.Asking.{failed_if, no_value, all}
use Rattle.bh_base.proofs.Calls.{sorted}
use Rattle.bh_usage.specs.Listed.{name_in}
use Rattle.bh_base.specs.Connections.{backing}
use Rattle.bh_base.proofs.Apart.{keys_apart}
use Rattle.bh_usage.proofs.rows.key_names.Goals as goal

pub returns-in_err-rows : goal.returns-in_err-rows
returns-in_err-rows g c =
    let h = rw c.to_sql.ensures at c.in_err-rows.ensures in
    let old = c.args.connection.now in
    let new = c.query_all.new.self in
    let q = sorted keys (λ _. keys_apart) (backing g.P.Shelf old.packs) (state g.S.Store old.database) (state g.S.Store new) c.requires.inside (λ (l : List Row). l) (Err c.in_err-rows.field-0.0) (keys_listed c.args.tenant.now) h.ok h.err h.survives in
    let f = failed_if g.S.Store g.P.Shelf old (record old { database = new }) c.from_residual.result _ c.from_residual.ensures _ q in
    record { reads = f.reads; names = no_value _ _ _ c.from_residual.ensures; trouble = f.trouble }

pub returns : goal.returns
returns g c =
    let h = rw c.to_sql.ensures at c.in_ok-rows.ensures in
    let old = c.args.connection.now in
    let new = c.query_all.new.self in
    let q = sorted keys (λ _. keys_apart) (backing g.P.Shelf old.packs) (state g.S.Store old.database) (state g.S.Store new) c.requires.inside (λ (l : List Row). l) (Ok c.in_ok-rows.rows.items) (keys_listed c.args.tenant.now) h.ok h.err h.survives in
    let a = all g.S.Store g.P.Shelf old (record old { database = new }) c.all_of.result _ (λ (s : Octets). Text s ∷ []) name_in string_bytes (λ s. s) IsUtf8 c.all_of.ensures.read c.all_of.ensures.trouble q (keys_by_name c.args.tenant.now (tables g.S.Store g.P.Shelf old).keys)
    (λ clean. c.deref.ensures.value ∙ q.rows clean) in
    record { reads = a.reads; names = a.listed; trouble = a.trouble }
