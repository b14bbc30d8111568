-- A tenant's usage, counted.
use Rattle.std.specs.Prelude.{ℕ, not, List, [], ◌∷◌, length, if◌then◌else◌}
use Rattle.std.specs.List.{filter, sum_by}
use Rattle.std.specs.FinMap.{len}
use Rattle.bh_model.specs.Entries.{is_version}
use Rattle.bh_model.specs.FinMaps.{total}
use Rattle.bh_model.specs.State.{Entry, State, entry_size, upload_used, used}

-- sizes in bytes; `objects` counts the keys whose newest entry is a version, and `versions` leaves
-- out delete markers
pub record Usage : Type 0 where
  pub buckets : ℕ
  pub bytes : ℕ
  pub markers : ℕ
  pub objects : ℕ
  pub part_bytes : ℕ
  pub quota : ℕ
  pub uploads : ℕ
  pub version_bytes : ℕ
  pub versions : ℕ

-- ---- for the entries of one key

abbrev pub version_count : List Entry → ℕ
version_count entries = length (filter is_version entries)

abbrev pub marker_count : List Entry → ℕ
marker_count entries = length (filter (λ e. not (is_version e)) entries)

-- 1 if the newest is a version
abbrev pub object_count : List Entry → ℕ
object_count [] = 0
object_count (newest ∷ older) = if is_version newest then 1 else 0

-- ---- for a tenant

-- over all keys of all buckets
abbrev pub of_keys : (List Entry → ℕ) → State → ℕ
of_keys count t = total (λ b. total count b.objects) t.buckets

abbrev pub of_uploads : State → ℕ
of_uploads t = total (λ b. total upload_used b.uploads) t.buckets

abbrev pub usage_of : State → Usage
usage_of t = record {
  buckets = len t.buckets;
  bytes = used t;
  markers = of_keys marker_count t;
  objects = of_keys object_count t;
  part_bytes = of_uploads t;
  quota = t.quota;
  uploads = total (λ b. len b.uploads) t.buckets;
  version_bytes = of_keys (sum_by entry_size) t;
  versions = of_keys version_count t;
}
