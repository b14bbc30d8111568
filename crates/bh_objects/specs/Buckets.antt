-- What is read of a tenant's buckets, and the rows after one is created or deleted.
use Rattle.std.specs.Prelude.{ℕ, Bool, true, false, not, ◌&&◌, ◌++◌, [], ◌∷◌, None, Result, if◌then◌else◌}
use Rattle.std.specs.List.{list_any}
use Rattle.sqlite_keyed.specs.Lists.{delete_where}
use Rattle.bh_types.specs.BucketStates.{state_number}
use Rattle.bh_types.specs.Outcomes.{require}
use Rattle.bh_types.specs.declared.bucket_state.BucketState.{BucketState}
use Rattle.bh_types.specs.declared.bucket_state.BucketState.TheVariants.{Unversioned, Enabled}
use Rattle.bh_types.specs.declared.refusal.Refusal.{Refusal}
use Rattle.bh_types.specs.declared.refusal.Refusal.TheVariants.{BucketNotEmpty, InvalidBucketState}
use Rattle.bh_model.specs.Retention.{keeps_versions}
use Rattle.bh_model.specs.State.{Octets}
use Rattle.bh_tables.specs.Typed.{Tables}
use Rattle.bh_tables.specs.Shown.{is_bucket, is_in_bucket, is_lock, is_upload_in}

-- whether no version, no marker and no upload is in a bucket
abbrev pub is_empty : Octets → Octets → Tables → Bool
is_empty tenant bucket tables =
    not (list_any (is_in_bucket tenant bucket) tables.versions) && not (list_any (is_upload_in tenant bucket) tables.uploads)

abbrev pub emptiness : Octets → Octets → Tables → Result (Unit {0}) Refusal
emptiness tenant bucket tables = require (is_empty tenant bucket tables) BucketNotEmpty

-- whether it keeps its versions in this state, if it is locked
abbrev pub versions_kept : Octets → Octets → BucketState → Tables → Result (Unit {0}) Refusal
versions_kept tenant bucket mode tables = require (keeps_versions (list_any (is_lock tenant bucket) tables.locks) mode) InvalidBucketState

-- ---- a bucket that comes

-- the state that it is made in
abbrev pub first_state : Bool → BucketState
first_state locked = if locked then Enabled else Unversioned

-- the tables with its lock, if it is locked
abbrev pub with_lock : Octets → Octets → Bool → Tables → Tables
with_lock tenant bucket true tables = record tables { locks = tables.locks ++ record { tenant = tenant; bucket = bucket } ∷ [] }
with_lock tenant bucket false tables = tables

-- with its row in this state
abbrev pub with_row : Octets → Octets → ℕ → BucketState → Tables → Tables
with_row tenant bucket at state tables =
    record tables {
      buckets = tables.buckets ++ record {
        tenant = tenant;
        bucket = bucket;
        created = at;
        state = state_number state;
        days = None;
      } ∷ [];
    }

-- with both
abbrev pub with_bucket : Octets → Octets → ℕ → Bool → Tables → Tables
with_bucket tenant bucket at locked tables = with_lock tenant bucket locked (with_row tenant bucket at (first_state locked) tables)

-- ---- a bucket that is deleted

abbrev pub without_lock : Octets → Octets → Tables → Tables
without_lock tenant bucket tables = record tables { locks = delete_where (is_lock tenant bucket) tables.locks }

abbrev pub without_row : Octets → Octets → Tables → Tables
without_row tenant bucket tables = record tables { buckets = delete_where (is_bucket tenant bucket) tables.buckets }

abbrev pub without_bucket : Octets → Octets → Tables → Tables
without_bucket tenant bucket tables = without_row tenant bucket (without_lock tenant bucket tables)
