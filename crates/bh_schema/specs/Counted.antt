-- Counts and sums of a tenant's rows, and which SQL computes them.
use Rattle.std.specs.Prelude.{ℕ, List, [], ◌∷◌, length, filter}
use Rattle.std.specs.List.{sum_by}
use Rattle.sqlite.specs.declared.types.Value.TheVariants.{Text}
use Rattle.bh_rows.specs.Texts.{SumText}
use Rattle.bh_tables.specs.Schema.{Octets, host_schema}
use Rattle.bh_tables.specs.Bodies.{bare_part}
use Rattle.bh_tables.specs.Typed.{Totals, key_form, bucket_form, upload_form, part_form, Tables}
use Rattle.bh_tables.specs.Shown.{is_owned_key, is_owned_bucket, is_owned_upload, is_part_used}
use Rattle.bh_schema.specs.declared.rows.counts.TenantSum.{TenantSum}
use Rattle.bh_schema.specs.declared.rows.counts.TenantSum.TheVariants as sum

abbrev pub how_many : TenantSum → Octets → Tables → ℕ
how_many sum.Keys tenant tables = length (filter (is_owned_key tenant) tables.keys)
how_many sum.Buckets tenant tables = length (filter (is_owned_bucket tenant) tables.buckets)
how_many sum.Uploads tenant tables = length (filter (is_owned_upload tenant) tables.uploads)
how_many sum.PartBytes tenant tables = sum_by (λ p. p.size) (filter (is_part_used tenant) tables.parts)

abbrev pub IsTextOf : TenantSum → List ℕ → Type 0
IsTextOf sum.Keys sql = (tenant : Octets) → SumText key_form host_schema 3 sql (Text tenant ∷ []) (is_owned_key tenant) (λ _. 1)
IsTextOf sum.Buckets sql = (tenant : Octets) → SumText bucket_form host_schema 5 sql (Text tenant ∷ []) (is_owned_bucket tenant) (λ _. 1)
IsTextOf sum.Uploads sql =
    (sums : Totals) (tenant : Octets) → SumText (upload_form sums) host_schema 16 sql (Text tenant ∷ []) (is_owned_upload tenant) (λ _. 1)
IsTextOf sum.PartBytes sql =
    (tenant : Octets) → SumText part_form host_schema 18 sql (Text tenant ∷ []) (λ p. is_part_used tenant (bare_part p)) (λ p. p.size)
