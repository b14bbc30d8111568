-- Whether a tenant may be removed, and the tables without its rows and bodies.
use Rattle.std.specs.Prelude.{ℕ, Bool, true, not, ◌||◌, List, Option, Result, Ok, if◌then◌else◌}
use Rattle.std.specs.Option.{option_map_or}
use Rattle.bh_types.specs.Outcomes.{◌>>=◌, require}
use Rattle.bh_types.specs.declared.refusal.Refusal.{Refusal}
use Rattle.bh_types.specs.declared.refusal.Refusal.TheVariants.{TenantNotEmpty, TenantRetained}
use Rattle.bh_model.specs.FinMaps.{is_empty}
use Rattle.bh_model.specs.Operations.{Outcome, Done, added_tenant}
use Rattle.bh_model.specs.Retention.{retains}
use Rattle.bh_model.specs.State.{Octets, State, absent}
use Rattle.bh_objects.specs.Found.{tenant_in}
use Rattle.bh_tables.specs.Removal.{without_rows}
use Rattle.bh_tables.specs.Typed.{Tables}
use Rattle.bh_uploads.specs.Writes.{without_bodies}

-- the machine's removal of a tenant whose name was read
abbrev pub leaves : ℕ → Bool → Option State → Result Outcome Refusal
leaves moment with_objects s = do
  t ← added_tenant s
  _ ← require (with_objects || is_empty t.buckets) TenantNotEmpty
  _ ← require (not (retains moment t)) TenantRetained
  Ok (Done, absent)

-- ---- what decides it

-- a tenant without a bucket
abbrev pub is_empty_tenant : Option State → Result (Unit {0}) Refusal
is_empty_tenant s = require (option_map_or (λ t. is_empty t.buckets) s true) TenantNotEmpty

-- the same, unless its buckets go too
abbrev pub buckets_go : Bool → Option State → Result (Unit {0}) Refusal
buckets_go with_objects s = if with_objects then Ok tt else is_empty_tenant s

-- one of whose versions none has a date after a moment
abbrev pub dates_over : ℕ → Option State → Result (Unit {0}) Refusal
dates_over moment s = require (option_map_or (λ t. not (retains moment t)) s true) TenantRetained

-- one that is there, and of whom both hold
abbrev pub may_be_removed : ℕ → Bool → Option State → Result (Unit {0}) Refusal
may_be_removed moment with_objects s = do
  _ ← tenant_in s
  _ ← buckets_go with_objects s
  dates_over moment s

-- ---- rows

-- its rows first, then its bodies
abbrev pub taken_away : Octets → List ℕ → Tables → Tables
taken_away tenant bodies tables = without_bodies tenant bodies (without_rows tenant tables)
