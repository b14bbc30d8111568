use Rattle.bh_rows.proofs.ScanLemmas.{first_row}
use Rattle.bh_schema.proofs.Asking.{failed_if, no_value, first}
use Rattle.bh_base.proofs.Calls.{selected}
use Rattle.bh_base.specs.Connections.{tables}
use Rattle.bh_schema.specs.Rows.{secret_in}
use Rattle.bh_tables.proofs.KeyTexts.{secret_shown}
use Rattle.bh_tables.proofs.Places.{keys}
use Rattle.bh_tables.specs.Shown.{is_key, shown_secret}
use Rattle.sqlite.specs.Held.{state}
use Rattle.sqlite.specs.Order.{Row}
use Rattle.sqlite.specs.declared.types.Value.TheVariants.{Text}
use Rattle.std.proofs.Common.{List, [], ◌∷◌, Ok, Err, ap, find, slice_get, ◌∙◌}
use Rattle.std.specs.Str.{IsUtf8}
use Rattle.std.specs.String.{string_bytes}
use Rattle.bh_base.specs.Connections.{backing}
use Rattle.bh_base.proofs.Apart.{keys_apart}
use Rattle.bh_schema.proofs.rows.keys.find_secret.Goals as goal

pub returns-in_err-rows : goal.returns-in_err-rows
returns-in_err-rows g c =
    let h = rw (c.to_sql.ensures, c.to_sql-2.ensures) at c.in_err-rows.ensures in
    let old = c.args.connection.now in
    let new = c.query_all.new.self in
    let q = selected keys (λ _. keys_apart) (backing g.P.Shelf old.packs) (state g.S.Store old.database) (state g.S.Store new) c.requires.inside (λ (l : List Row). l) (Err c.in_err-rows.field-0.0) (secret_shown c.args.tenant.now c.args.name.now) h.ok h.err h.survives in
    let f = failed_if g.S.Store g.P.Shelf old (record old { database = new }) c.from_residual.result _ c.from_residual.ensures _ q in
    record { reads = f.reads; found = no_value _ _ _ c.from_residual.ensures; trouble = f.trouble }

pub returns : goal.returns
returns g c =
    let h = rw (c.to_sql.ensures, c.to_sql-2.ensures) at c.in_ok-rows.ensures in
    let old = c.args.connection.now in
    let new = c.query_all.new.self in
    let q = selected keys (λ _. keys_apart) (backing g.P.Shelf old.packs) (state g.S.Store old.database) (state g.S.Store new) c.requires.inside (λ (l : List Row). l) (Ok c.in_ok-rows.rows.items) (secret_shown c.args.tenant.now c.args.name.now) h.ok h.err h.survives in
    let a = first g.S.Store g.P.Shelf old (record old { database = new }) c.first_of.result _ (λ s. Text s ∷ []) secret_in string_bytes (λ s. s) IsUtf8 c.first_of.ensures.found c.first_of.ensures.trouble q (find (is_key c.args.tenant.now c.args.name.now) (tables g.S.Store g.P.Shelf old).keys)
    (λ clean. ap (λ l. slice_get l 0) c.deref.ensures.value ∙ first_row shown_secret (is_key c.args.tenant.now c.args.name.now) _ _ (q.rows clean)) in
    record { reads = a.reads; found = a.found; trouble = a.trouble }
