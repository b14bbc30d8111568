-- The changes that a tenant's quota allows.
use Rattle.std.specs.Prelude.{ℕ, Bool, not, ◌&&◌, nat_lt, List}
use Rattle.std.specs.List.{filter, sum_by}
use Rattle.bh_types.specs.declared.bucket_state.BucketState.{BucketState}
use Rattle.bh_types.specs.declared.bucket_state.BucketState.TheVariants.{Unversioned, Enabled, Suspended}
use Rattle.bh_types.specs.declared.id.VersionId.TheVariants.{Null}
use Rattle.bh_model.specs.Entries.{has_id}
use Rattle.bh_model.specs.State.{Entry, State, entry_size, used}

-- a change is refused if the use is then above the quota, and above what it was
abbrev pub fits_quota : ℕ → ℕ → ℕ → Bool
fits_quota before after quota = not (nat_lt quota after && nat_lt before after)

-- by a tenant's states before and after a change
abbrev pub keeps_quota : State → State → Bool
keeps_quota before after = fits_quota (used before) (used after) before.quota

-- ---- the entry that a new one of a key replaces

abbrev pub null_size : List Entry → ℕ
null_size entries = sum_by entry_size (filter (has_id Null) entries)

-- in a bucket of this state: the entry `null`, unless versions are numbered
abbrev pub replaced_size : BucketState → List Entry → ℕ
replaced_size Unversioned entries = null_size entries
replaced_size Enabled entries = 0
replaced_size Suspended entries = null_size entries
