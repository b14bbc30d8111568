-- A tenant's usage, from its rows.
use Rattle.std.specs.Prelude.{ℕ, ◌+◌, length, filter, Option, Result}
use Rattle.std.specs.List.{sum_by}
use Rattle.std.specs.Result.{result_map_both}
use Rattle.bh_types.specs.declared.refusal.Refusal.{Refusal}
use Rattle.bh_model.specs.Operations.{added_tenant}
use Rattle.bh_model.specs.State.{Octets, State}
use Rattle.bh_model.specs.Usage.{Usage}
use Rattle.bh_tables.specs.Typed.{Tables, bytes_used}
use Rattle.bh_tables.specs.Shown.{has_marker, current_versions, is_owned_bucket, is_owned_upload, is_part_used, is_version_of}
use Rattle.bh_usage.specs.declared.counts.ByteTotals.{ByteTotals}
use Rattle.bh_usage.specs.declared.counts.EntryCounts.{EntryCounts}
use Rattle.bh_usage.specs.declared.counts.RowCounts.{RowCounts}

abbrev pub quota_in : Option State → Result ℕ Refusal
quota_in s = result_map_both (λ t. t.quota) (λ refusal. refusal) (added_tenant s)

-- a tenant's bytes in use
abbrev pub used_in : Octets → Tables → ℕ
used_in t tables = bytes_used tables.versions tables.parts t

abbrev pub entries_in : Octets → Tables → EntryCounts
entries_in t tables = record {
  markers = length (filter (has_marker t 1) tables.versions);
  objects = length (current_versions t tables.versions);
  versions = length (filter (has_marker t 0) tables.versions);
}

abbrev pub bytes_in : Octets → Tables → ByteTotals
bytes_in t tables = record {
  parts = sum_by (λ p. p.size) (filter (is_part_used t) tables.parts);
  versions = sum_by (λ v. v.size) (filter (is_version_of t) tables.versions);
}

abbrev pub rows_in : Octets → Tables → RowCounts
rows_in t tables = record {
  buckets = length (filter (is_owned_bucket t) tables.buckets);
  bytes = bytes_in t tables;
  entries = entries_in t tables;
  uploads = length (filter (is_owned_upload t) tables.uploads);
}

-- the usage of a tenant with this quota and these counts
abbrev pub usage_told : ℕ → RowCounts → Usage
usage_told quota rows = record {
  buckets = rows.buckets;
  bytes = rows.bytes.versions + rows.bytes.parts;
  markers = rows.entries.markers;
  objects = rows.entries.objects;
  part_bytes = rows.bytes.parts;
  quota = quota;
  uploads = rows.uploads;
  version_bytes = rows.bytes.versions;
  versions = rows.entries.versions;
}
