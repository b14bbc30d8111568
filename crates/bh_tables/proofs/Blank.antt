-- An empty database of the schema is a host's, with no row, but for the row of what nobody needs.
use Rattle.std.proofs.Common.{◌≡◌, [], ◌++◌, refl, sym, ap, subst}
use Rattle.sqlite.specs.State.{State}
use Rattle.bh_rows.specs.Form.{Form, AreRows}
use Rattle.bh_rows.specs.Means.{IsBlank}
use Rattle.bh_tables.specs.Schema.{host_schema}
use Rattle.bh_tables.specs.Typed.{totals_of, unweighed, IsHostBy, Raw, raw, tables_of, tables_in, no_rows, AreHeld, host_form, tenant_form, key_form, bucket_form, version_form, block_form, ref_form, upload_form, part_form, use_form, lock_form, retain_form, tally_form, garbage_form, pack_form, place_form}

none_held : {T : Type 0} (form : Form T) → AreRows form []
none_held form = record { each = tt; rises = tt }

abbrev no_raw : Raw
no_raw = record { host = []; tenants = []; keys = []; buckets = []; versions = []; blocks = []; refs = []; uploads = []; parts = []; uses = []; locks = []; retains = []; tallies = []; garbage = []; packs = []; places = []; unfilled = [] }

pub blank_host : (s : State) → IsBlank host_schema s → IsHostBy (unweighed (totals_of (tables_in s.now))) s.now × (tables_in s.now ≡ no_rows)
blank_host s h =
    let b = h.blank in
    let is : raw s.now.trees ≡ no_raw = λ i. record { host = b.0 i; tenants = b.1.0 i; keys = b.1.1.0 i; buckets = b.1.1.1.0 i; versions = b.1.1.1.1.0 i; blocks = b.1.1.1.1.1.0 i; refs = b.1.1.1.1.1.1.0 i; uploads = b.1.1.1.1.1.1.1.0 i; parts = b.1.1.1.1.1.1.1.1.0 i; uses = b.1.1.1.1.1.1.1.1.1.0 i; locks = b.1.1.1.1.1.1.1.1.1.1.0 i; retains = b.1.1.1.1.1.1.1.1.1.1.1.0 i; tallies = b.1.1.1.1.1.1.1.1.1.1.1.1.0 i; garbage = b.1.1.1.1.1.1.1.1.1.1.1.1.1.1.1.1.1.1.1.0 i; packs = b.1.1.1.1.1.1.1.1.1.1.1.1.1.0 i; places = b.1.1.1.1.1.1.1.1.1.1.1.1.1.1.0 i; unfilled = b.1.1.1.1.1.1.1.1.1.1.1.1.1.1.1.0 i ++ (b.1.1.1.1.1.1.1.1.1.1.1.1.1.1.1.1.0 i ++ (b.1.1.1.1.1.1.1.1.1.1.1.1.1.1.1.1.1.0 i ++ (b.1.1.1.1.1.1.1.1.1.1.1.1.1.1.1.1.1.1.0 i ++ []))) } in
    let none : AreHeld (unweighed (totals_of (tables_of no_raw))) no_raw = let sums = unweighed (totals_of (tables_of no_raw)) in record { host = none_held host_form; tenants = none_held (tenant_form sums); keys = none_held key_form; buckets = none_held bucket_form; versions = none_held version_form; blocks = none_held block_form; refs = none_held ref_form; uploads = none_held (upload_form sums); parts = none_held part_form; uses = none_held use_form; counts = refl; locks = none_held lock_form; retains = none_held retain_form; tallies = none_held tally_form; tallied = refl; garbage = none_held garbage_form; weighed = refl; measured = refl; packs = none_held pack_form; places = none_held place_form; unfilled = refl } in
    (record { schema = h.schema_is; held = subst (λ r. AreHeld (unweighed (totals_of (tables_of r))) r) (sym is) none }, ap tables_of is)
