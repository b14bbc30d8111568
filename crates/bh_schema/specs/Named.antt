-- A tenant's rows that have a name: the tables after one is deleted, and which SQL deletes it.
use Rattle.std.specs.Prelude.{ℕ, List, [], ◌∷◌}
use Rattle.sqlite.specs.declared.types.Value.TheVariants.{Text}
use Rattle.sqlite_keyed.specs.Lists.{delete_where}
use Rattle.bh_rows.specs.Texts.{DeleteText}
use Rattle.bh_tables.specs.Schema.{Octets, host_schema, keys_table, locks_table, at}
use Rattle.bh_tables.specs.Typed.{key_form, lock_form, Tables}
use Rattle.bh_tables.specs.Shown.{is_key, is_lock}
use Rattle.bh_schema.specs.declared.rows.named.Named.{Named}
use Rattle.bh_schema.specs.declared.rows.named.Named.TheVariants as named

abbrev pub without_named : Named → Octets → Octets → Tables → Tables
without_named named.Key tenant name tables = record tables { keys = delete_where (is_key tenant name) tables.keys }
without_named named.Lock tenant bucket tables = record tables { locks = delete_where (is_lock tenant bucket) tables.locks }

abbrev pub IsTextOf : Named → List ℕ → Type 0
IsTextOf named.Key sql =
    (tenant name : Octets) → DeleteText key_form host_schema 2 (at 3 keys_table) sql (Text tenant ∷ Text name ∷ []) (is_key tenant name)
IsTextOf named.Lock sql = (tenant bucket : Octets)
    → DeleteText lock_form host_schema 10 (at 26 locks_table) sql (Text tenant ∷ Text bucket ∷ []) (is_lock tenant bucket)
