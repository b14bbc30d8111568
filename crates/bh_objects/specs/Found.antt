-- The values of a tenant's rows, and the effect of a put or a delete on the tables.
use Rattle.std.specs.Prelude.{◌≡◌, ℕ, ◌+◌, ◌-◌, ◌++◌, [], ◌∷◌, find, Option, Some, None, option_map, option_and_then, is_none, ok_or}
use Rattle.std.specs.Prelude.{Result, Ok, Err, IsTrue}
use Rattle.std.specs.List.{filter, sum_by}
use Rattle.std.specs.Option.{option_map_or}
use Rattle.std.specs.Str.{IsUtf8}
use Rattle.std.specs.Result.{result_map_both}
use Rattle.std.specs.FinMap.{get}
use Rattle.sqlite_keyed.specs.Lists.{update_where}
use Rattle.bh_types.specs.declared.bucket_state.BucketState.{BucketState}
use Rattle.bh_types.specs.declared.bucket_state.BucketState.TheVariants.{Unversioned, Enabled, Suspended}
use Rattle.bh_types.specs.declared.refusal.Refusal.{Refusal}
use Rattle.bh_types.specs.declared.refusal.Refusal.TheVariants.{NoSuchBucket, BucketAlreadyOwnedByYou, BadDigest, QuotaExceeded}
use Rattle.bh_types.specs.Names.{is_object_key}
use Rattle.bh_types.specs.Counts.{Counts}
use Rattle.bh_types.specs.Checksums.{checksum_text}
use Rattle.bh_model.specs.State.{Octets, State, Content, used}
use Rattle.bh_types.specs.Outcomes.{◌>>=◌, require}
use Rattle.bh_model.specs.Counting.{counts, after_entry}
use Rattle.bh_model.specs.Operations.{tenant_bucket, added_tenant, listed}
use Rattle.bh_model.specs.Quotas.{fits_quota, replaced_size}
use Rattle.bh_model.specs.Parts.{is_checksum}
use Rattle.bh_storage.specs.declared.error.StepError.{StepError}
use Rattle.bh_storage.specs.declared.error.StepError.TheVariants.{Refused, Failed}
use Rattle.bh_tables.specs.Typed.{Tables}
use Rattle.bh_tables.specs.Shown.{is_tenant, is_version, is_version_of, is_part_used}
use Rattle.bh_schema.specs.Written.{bytes_of_id}
use Rattle.bh_view.specs.Put.{entry_row, row_number, counters_row, rows_left}
use Rattle.bh_objects.specs.declared.quotas.Replaced.{Replaced}

-- the state of a tenant's bucket
abbrev pub mode_in : Octets → Option State → Result BucketState Refusal
mode_in name s = result_map_both (λ f. f.1.mode) (λ refusal. refusal) (tenant_bucket name s)

-- a tenant's counters; a tenant that doesn't exist has no bucket
abbrev pub counts_in : Option State → Result Counts Refusal
counts_in s = ok_or (option_map counts s) NoSuchBucket

-- its quota and its counters
abbrev pub account_in : Option State → Result (ℕ × Counts) Refusal
account_in s = do
  t ← ok_or s NoSuchBucket
  Ok (t.quota, counts t)

-- whether the tenant exists
abbrev pub tenant_in : Option State → Result (Unit {0}) Refusal
tenant_in s = result_map_both (λ _. tt) (λ refusal. refusal) (added_tenant s)

-- whether it has no bucket of the name
abbrev pub name_free : Octets → Option State → Result (Unit {0}) Refusal
name_free name s = require (is_none (option_and_then (λ (t : State). get t.buckets name) s)) BucketAlreadyOwnedByYou

-- and those after an entry in a bucket of this state got its numbers, both
abbrev pub numbers_in : BucketState → Option State → Result (Counts × Counts) Refusal
numbers_in mode s = do
  before ← counts_in s
  after ← after_entry mode before
  Ok (before, after)

-- ---- the quota

-- the bytes of a tenant's versions and parts
abbrev pub bytes_in : Octets → Tables → ℕ
bytes_in tenant tables =
    sum_by (λ v. v.size) (filter (is_version_of tenant) tables.versions) + sum_by (λ p. p.size) (filter (is_part_used tenant) tables.parts)

-- the entry `null` of a key
abbrev pub null_in : Octets → Octets → Octets → Tables → Option Replaced
null_in tenant bucket key tables =
    option_map (λ v. record { seq = v.seq; size = v.size }) (find (is_version tenant bucket key 0) tables.versions)

-- the entry that a new one of it replaces
abbrev pub replaced_in : BucketState → Octets → Octets → Octets → Tables → Option Replaced
replaced_in Unversioned tenant bucket key tables = null_in tenant bucket key tables
replaced_in Enabled tenant bucket key tables = None
replaced_in Suspended tenant bucket key tables = null_in tenant bucket key tables

-- the bytes of what is replaced
abbrev pub replaced_bytes : Option Replaced → ℕ
replaced_bytes replaced = option_map_or (λ r. r.size) replaced 0

-- the result for the entry `null` matches the tables
abbrev pub IsHeld : Octets → Octets → Octets → Option Replaced → Tables → Type 0
IsHeld tenant bucket key replaced tables = (r : Replaced) → replaced ≡ Some r → bytes_of_id tenant bucket key 0 tables ≡ r.size

-- whether a tenant with some bytes in use may replace some bytes by others
abbrev pub room_under : ℕ → ℕ → ℕ → ℕ → Result (Unit {0}) Refusal
room_under quota before replaced added = require (fits_quota before (before + added - replaced) quota) QuotaExceeded

-- a tenant that doesn't exist has no bucket
abbrev pub room_in : ℕ → ℕ → Option State → Result (Unit {0}) Refusal
room_in replaced added s = do
  t ← ok_or s NoSuchBucket
  room_under t.quota (used t) replaced added

-- the numbers of a new entry of a key, of a size, in a bucket of this state
abbrev pub entry_numbers_in : BucketState → Octets → Octets → ℕ → Option State → Result (Counts × Counts) Refusal
entry_numbers_in mode name key added s = do
  f ← tenant_bucket name s
  _ ← room_in (replaced_size mode (listed key f.1)) added (Some f.0)
  numbers_in mode s

-- ---- the effect of a put or a delete on the tables

-- the tables with room for a new entry of a key: the counters advanced, and what it replaces is
-- deleted
abbrev pub with_way : BucketState → Counts → Octets → Octets → Octets → Tables → Tables
with_way mode after tenant bucket key tables = record tables {
  tenants = update_where (is_tenant tenant) (counters_row mode after) tables.tenants;
  versions = rows_left mode tenant bucket key tables.versions;
}

-- with the row of a new entry
abbrev pub with_row : BucketState → Counts → Octets → Octets → Octets → ℕ → Content → Tables → Tables
with_row mode before tenant bucket key moment content tables =
    record tables {
      versions = tables.versions ++ entry_row tenant bucket key before.entry (row_number mode before.version) moment content
          ∷ [];
    }

-- with a new entry and its numbers
abbrev pub with_entry : BucketState → Counts → Counts → Octets → Octets → Octets → ℕ → Content → Tables → Tables
with_entry mode before after tenant bucket key moment content tables =
    with_row mode before tenant bucket key moment content (with_way mode after tenant bucket key tables)

-- an object's key: 1 to 1,024 bytes of UTF-8
pub record IsKeyText (text : Octets) : Type 0 where
  pub key : IsTrue (is_object_key text)
  pub valid : IsUtf8 text

-- the checksum text of an object's bytes, unless another one is given
abbrev pub sum_given : Option Octets → Octets → Result Octets Refusal
sum_given given bytes = do
  _ ← require (is_checksum given bytes) BadDigest
  Ok (checksum_text bytes)

-- the result, as shown, is the answer, unless memory or the store failed
abbrev pub Answers : {X Y E : Type 0} → (X → Y) → Result Y E → Result X (StepError E) → Type 0
Answers shown answer (Ok x) = answer ≡ Ok (shown x)
Answers shown answer (Err (Refused r)) = answer ≡ Err r
Answers shown answer (Err (Failed trouble)) = Unit {0}
