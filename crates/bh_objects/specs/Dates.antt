-- The dates of versions, as their rows have them, and their writes.
use Rattle.std.specs.Prelude.{◌≡◌, ℕ, Bool, ◌++◌, [], ◌∷◌, find, Option, Some, None, option_map, Result, Ok}
use Rattle.std.specs.List.{list_any}
use Rattle.sqlite_keyed.specs.Lists.{update_where, delete_where}
use Rattle.bh_types.specs.Outcomes.{◌>>=◌, require}
use Rattle.bh_types.specs.declared.refusal.Refusal.{Refusal}
use Rattle.bh_types.specs.declared.refusal.Refusal.TheVariants.{AccessDenied}
use Rattle.bh_model.specs.Operations.{tenant_bucket}
use Rattle.bh_model.specs.Retention.{can_retain, first_date, may_go, may_retain}
use Rattle.bh_model.specs.State.{Octets, State}
use Rattle.bh_tables.specs.Typed.{VersionRow, Tables}
use Rattle.bh_tables.specs.Shown.{is_entry, is_lock, is_retain}
use Rattle.bh_view.specs.View.{id_of}
use Rattle.bh_schema.specs.Rows.{until_in}

-- the date of a tenant's version with this entry number, if it has one
abbrev pub date_at : Octets → ℕ → Tables → Option ℕ
date_at tenant seq tables = option_map until_in (find (is_retain tenant seq) tables.retains)

-- whether a tenant's bucket is locked
abbrev pub locked_at : Octets → Octets → Tables → Bool
locked_at tenant bucket tables = list_any (is_lock tenant bucket) tables.locks

-- the date that a new version in a tenant's bucket gets
abbrev pub new_date_at : Octets → Octets → Option (Option ℕ) → ℕ → Tables → Result (Option ℕ) Refusal
new_date_at tenant bucket given at tables = first_date (locked_at tenant bucket tables) given at

-- that date in the machine's terms
abbrev pub new_date_in : Octets → Option (Option ℕ) → ℕ → Option State → Result (Option ℕ) Refusal
new_date_in name given at s = do
  f ← tenant_bucket name s
  first_date f.1.locked given at

-- the date of a version that may be deleted
abbrev pub past_by : Option ℕ → ℕ → Result (Option ℕ) Refusal
past_by date at = do
  _ ← require (may_go date at) AccessDenied
  Ok date

abbrev pub past_date_in : Octets → ℕ → ℕ → Tables → Result (Option ℕ) Refusal
past_date_in tenant seq at tables = past_by (date_at tenant seq tables) at

-- the date of a version that may have this one
abbrev pub present_by : Bool → Option ℕ → ℕ → ℕ → Result (Option ℕ) Refusal
present_by able present until at = do
  _ ← may_retain able present (Some until) at
  Ok present

-- that of one in a bucket, by its numbers in the columns `id` and `seq`
abbrev pub present_date_in : Octets → Octets → ℕ → ℕ → ℕ → ℕ → Tables → Result (Option ℕ) Refusal
present_date_in tenant bucket id seq until at tables =
    present_by (can_retain (locked_at tenant bucket tables) (id_of id)) (date_at tenant seq tables) until at

-- a version of a key with this number in the column `id` and this entry number, which has no date
pub record IsPlaced (t b k : Octets) (number entry : ℕ) (tables : Tables) : Type 0 where
  pub row : VersionRow
  pub there : find (is_entry t row.seq) tables.versions ≡ Some row
  pub seq : row.seq ≡ entry
  pub bucket : row.bucket ≡ b
  pub key : row.okey ≡ k
  pub id : row.id ≡ number
  pub body : row.marker ≡ 0
  pub undated : date_at t row.seq tables ≡ None

-- ---- the writes

-- the tables with a version's new date or none; at present it has this one or none
abbrev pub with_date : Octets → ℕ → Option ℕ → Option ℕ → Tables → Tables
with_date tenant seq None None tables = tables
with_date tenant seq None (Some until) tables =
    record tables { retains = tables.retains ++ record { tenant = tenant; seq = seq; until = until } ∷ [] }
with_date tenant seq (Some present) (Some until) tables =
    record tables { retains = update_where (is_retain tenant seq) (λ r. record r { until = until }) tables.retains }
with_date tenant seq (Some present) None tables = record tables { retains = delete_where (is_retain tenant seq) tables.retains }
