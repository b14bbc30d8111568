-- The tables in which each tenant has rows: its rows as a query returns them, and which SQL does
-- so.
use Rattle.std.specs.Prelude.{ℕ, [], ◌∷◌, List, map}
use Rattle.sqlite.specs.Order.{Row}
use Rattle.sqlite.specs.declared.types.Value.TheVariants.{Text}
use Rattle.sqlite_typed.specs.Tests.{bytes_eq}
use Rattle.bh_rows.specs.Form.{Form}
use Rattle.bh_rows.specs.Scan.{no_limit}
use Rattle.bh_rows.specs.Texts.{SelectText}
use Rattle.bh_tables.specs.Schema.{Octets, host_schema}
use Rattle.bh_tables.specs.Bodies.{bare, bare_part}
use Rattle.bh_tables.specs.Typed.{Totals, key_form, bucket_form, lock_form, version_form, upload_form, part_form, retain_form}
use Rattle.bh_view.specs.View.{TenantRows}
use Rattle.bh_tenant_rows.specs.Shown.{shown_key, shown_bucket, shown_lock, shown_version, shown_upload, shown_part, shown_retain}
use Rattle.bh_tenant_rows.specs.declared.reads.Owned.{Owned}
use Rattle.bh_tenant_rows.specs.declared.reads.Owned.TheVariants as owned

-- a tenant's rows in the table, as a query returns them
abbrev pub shown_in : Owned → TenantRows → List Row
shown_in owned.Keys rows = map shown_key rows.keys
shown_in owned.Buckets rows = map shown_bucket rows.buckets
shown_in owned.Locks rows = map shown_lock rows.locks
shown_in owned.Versions rows = map shown_version rows.versions
shown_in owned.Uploads rows = map shown_upload rows.uploads
shown_in owned.Parts rows = map shown_part rows.parts
shown_in owned.Retains rows = map shown_retain rows.retains

-- SQL that returns a tenant's rows of the table in this tree
abbrev pub Selects : {T : Type 0} → Form T → ℕ → (T → Octets) → (T → Row) → List ℕ → Type 0
Selects form tree owner view sql =
    (tenant : Octets) → SelectText form host_schema tree sql (Text tenant ∷ []) (λ x. bytes_eq (owner x) tenant) view no_limit

abbrev pub IsTextOf : Owned → List ℕ → Type 0
IsTextOf owned.Keys = Selects key_form 3 (λ k. k.tenant) shown_key
IsTextOf owned.Buckets = Selects bucket_form 5 (λ b. b.tenant) shown_bucket
IsTextOf owned.Locks = Selects lock_form 26 (λ l. l.tenant) shown_lock
IsTextOf owned.Versions = Selects version_form 7 (λ v. v.tenant) (λ v. shown_version (bare v))
IsTextOf owned.Uploads = λ sql. (sums : Totals) → Selects (upload_form sums) 16 (λ u. u.tenant) shown_upload sql
IsTextOf owned.Parts = Selects part_form 18 (λ p. p.tenant) (λ p. shown_part (bare_part p))
IsTextOf owned.Retains = Selects retain_form 28 (λ r. r.tenant) shown_retain
