-- The tables without the rows of a tenant. References to blocks are no such rows: they go with the
-- bodies that have them.
use Rattle.sqlite_keyed.specs.Lists.{delete_where}
use Rattle.bh_tables.specs.Schema.{Octets}
use Rattle.bh_tables.specs.Typed.{Tables}
use Rattle.bh_tables.specs.Shown.{is_tenant, is_owned_key, is_owned_bucket, is_version_of, is_owned_upload, is_part_used, is_owned_lock}
use Rattle.bh_tables.specs.Shown.{is_owned_retain}

abbrev pub without_rows : Octets → Tables → Tables
without_rows tenant tables = record tables {
  tenants = delete_where (is_tenant tenant) tables.tenants;
  keys = delete_where (is_owned_key tenant) tables.keys;
  buckets = delete_where (is_owned_bucket tenant) tables.buckets;
  versions = delete_where (is_version_of tenant) tables.versions;
  uploads = delete_where (is_owned_upload tenant) tables.uploads;
  parts = delete_where (is_part_used tenant) tables.parts;
  locks = delete_where (is_owned_lock tenant) tables.locks;
  retains = delete_where (is_owned_retain tenant) tables.retains;
}
