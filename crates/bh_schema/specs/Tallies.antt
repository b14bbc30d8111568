-- A tenant's tally, and its change when an entry of a key is added or deleted.
use Rattle.std.specs.Prelude.{◌≡◌, ℕ, true, ◌==◌, if◌then◌else◌, pos, int_lt, length, filter, find, Option, Some, None, option_map}
use Rattle.std.specs.List.{AllByRecursion}
use Rattle.std.specs.Option.{option_map_or}
use Rattle.sqlite_keyed.specs.Lists.{delete_where}
use Rattle.bh_tables.specs.Schema.{Octets}
use Rattle.bh_tables.specs.Typed.{TenantRow, VersionRow, Tables, Totals, tally_of, tally_changed}
use Rattle.bh_tables.specs.Shown.{is_at, is_version, has_marker, current_versions, shown_tally, shown_place}
use Rattle.bh_view.specs.Grouped.{first}
use Rattle.bh_schema.specs.Rows.{entries_at, newest_at}
use Rattle.bh_schema.specs.Reading.{Reading, textless}
use Rattle.bh_schema.specs.declared.rows.tallies.Tally.{Tally}
use Rattle.bh_schema.specs.declared.rows.tallies.EntryChange.{EntryChange}
use Rattle.bh_schema.specs.declared.rows.places.Place.{Place}
use Rattle.bh_schema.specs.declared.rows.places.NewestPlaces.{NewestPlaces}

abbrev pub tenant_tally : Tables → TenantRow → Tally
tenant_tally tables t = record {
  versions = length (filter (has_marker t.tenant 0) tables.versions);
  markers = length (filter (has_marker t.tenant 1) tables.versions);
  objects = length (current_versions t.tenant tables.versions);
}

-- the row of a tenant beside the tables that it is in
abbrev pub tally_reading : Reading Tally
tally_reading = textless (λ (t : Tables × TenantRow). shown_tally (tally_of t.0.versions t.1)) (λ t. tenant_tally t.0 t.1)

abbrev pub place_of : VersionRow → Place
place_of v = record { seq = v.seq; id = v.id; marker = v.marker }

abbrev pub place_reading : Reading Place
place_reading = textless shown_place place_of

-- the newest after the entry with this id is deleted
abbrev pub place_after : ℕ → NewestPlaces → Option Place
place_after id newest = option_map_or (λ (p : Place). if p.id == id then newest.second else Some p) newest.first None

-- 1 if there is an entry whose column `marker` is this, else 0
abbrev pub marked_as : ℕ → Option ℕ → ℕ
marked_as marker None = 0
marked_as marker (Some m) = if m == marker then 1 else 0

abbrev pub marker_in : VersionRow → ℕ
marker_in v = v.marker

-- an entry of this marker is added that is newer than all of its key
abbrev pub coming : Octets → Octets → Octets → ℕ → Tables → EntryChange
coming tenant bucket okey marker tables = record {
  come = Some marker;
  gone = None;
  after = Some marker;
  before = option_map marker_in (newest_at tenant bucket okey tables.versions);
}

-- the entry with this id is deleted
abbrev pub going : Octets → Octets → Octets → ℕ → Tables → EntryChange
going tenant bucket okey id tables = record {
  come = None;
  gone = option_map marker_in (find (is_version tenant bucket okey id) tables.versions);
  after = option_map marker_in (first (delete_where (is_version tenant bucket okey id) (entries_at tenant bucket okey tables.versions)));
  before = option_map marker_in (newest_at tenant bucket okey tables.versions);
}

-- an entry with this number is newer than all of a key
abbrev pub IsNewer : Octets → Octets → Octets → ℕ → Tables → Type 0
IsNewer tenant bucket okey seq tables =
    AllByRecursion (λ (v : VersionRow). int_lt (pos v.seq) (pos seq) ≡ true) (filter (is_at tenant bucket okey) tables.versions)

-- the sums, after a tenant's counts changed in this way
abbrev pub entries_changed : Octets → EntryChange → Totals → Totals
entries_changed tenant change = tally_changed tenant (marked_as 0 change.come, marked_as 0 change.gone)
    (marked_as 1 change.come, marked_as 1 change.gone) (marked_as 0 change.after, marked_as 0 change.before)
