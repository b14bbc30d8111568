-- Numbers of states and of counters.
use Rattle.std.specs.Prelude.{ℕ}
use Rattle.bh_types.specs.declared.bucket_state.BucketState.{BucketState}
use Rattle.bh_types.specs.declared.bucket_state.BucketState.TheVariants.{Unversioned, Enabled, Suspended}

-- the number of a bucket's state in a table's column
-- Amazon S3 API Reference, GetBucketVersioning has these three states; the numbers are this host's
abbrev pub state_number : BucketState → ℕ
state_number Unversioned = 0
state_number Enabled = 1
state_number Suspended = 2
