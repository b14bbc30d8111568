-- A bucket's contents besides its own row: whether there are any, and which SQL finds out.
use Rattle.std.specs.Prelude.{ℕ, pos, Bool, List, [], ◌∷◌}
use Rattle.std.specs.List.{list_any}
use Rattle.sqlite.specs.declared.types.Value.TheVariants.{Int, Text}
use Rattle.sqlite.specs.Term.{Term, lit}
use Rattle.bh_rows.specs.Scan.{no_limit}
use Rattle.bh_rows.specs.Texts.{SelectText, SortedText}
use Rattle.bh_tables.specs.Schema.{Octets, host_schema}
use Rattle.bh_tables.specs.Bodies.{bare}
use Rattle.bh_tables.specs.Typed.{Totals, lock_form, version_form, upload_form, Tables}
use Rattle.bh_tables.specs.Shown.{is_lock, is_in_bucket, is_upload_in, shown_lock, shown_seq, shown_number, by_id, by_key}
use Rattle.bh_schema.specs.declared.rows.contents.Content.{Content}
use Rattle.bh_schema.specs.declared.rows.contents.Content.TheVariants as content

abbrev one_row : Term
one_row = lit (Int (pos 1))

abbrev pub has_content : Content → Octets → Octets → Tables → Bool
has_content content.Lock tenant bucket tables = list_any (is_lock tenant bucket) tables.locks
has_content content.Version tenant bucket tables = list_any (is_in_bucket tenant bucket) tables.versions
has_content content.Upload tenant bucket tables = list_any (is_upload_in tenant bucket) tables.uploads

abbrev pub IsTextOf : Content → List ℕ → Type 0
IsTextOf content.Lock sql = (tenant bucket : Octets)
    → SelectText lock_form host_schema 26 sql (Text tenant ∷ Text bucket ∷ []) (is_lock tenant bucket) shown_lock no_limit
IsTextOf content.Version sql = (tenant bucket : Octets)
    → SortedText version_form host_schema 7 sql (Text tenant ∷ Text bucket ∷ []) (λ v. is_in_bucket tenant bucket (bare v))
    (λ v. shown_seq (bare v)) (λ a b. by_id (bare a) (bare b)) one_row
IsTextOf content.Upload sql = (sums : Totals) (tenant bucket : Octets)
    → SortedText (upload_form sums) host_schema 16 sql (Text tenant ∷ Text bucket ∷ [])
    (is_upload_in tenant bucket) shown_number by_key one_row
