-- The counts of each tenant, for an upgrade.
use Rattle.std.specs.Prelude.{ℕ, ◌<◌, ◌^◌, List, [], ◌∷◌, length, filter, codes}
use Rattle.sqlite.specs.declared.types.Value.TheVariants.{Text}
use Rattle.sqlite.specs.Order.{Row}
use Rattle.bh_tables.specs.Schema.{Octets}
use Rattle.bh_tables.specs.Typed.{TenantRow, TallyRow, Tables, totals_of, unweighed}
use Rattle.bh_tables.specs.Shown.{has_marker, current_versions}
use Rattle.bh_base.specs.Layer.{Standing, HoldsBy}
use Rattle.bh_schema.specs.declared.rows.tallies.Tally.{Tally}
use Rattle.bh_migration.specs.declared.tallying.Count.{Count}
use Rattle.bh_migration.specs.declared.tallying.Count.TheVariants as count

abbrev pub count_text : Count → List ℕ
count_text count.Versions = codes "SELECT coalesce(sum(1), 0) FROM versions WHERE tenant = ?1 AND marker = 0"
count_text count.Markers = codes "SELECT coalesce(sum(1), 0) FROM versions WHERE tenant = ?1 AND marker = 1"
count_text count.Objects = codes "SELECT coalesce(sum(1), 0) FROM versions WHERE tenant = ?1 AND marker = 0 AND NOT EXISTS (SELECT 1 FROM versions AS later WHERE later.tenant = versions.tenant AND later.bucket = versions.bucket AND later.okey = versions.okey AND later.seq > versions.seq)"

abbrev pub how_many : Count → Octets → Tables → ℕ
how_many count.Versions tenant tables = length (filter (has_marker tenant 0) tables.versions)
how_many count.Markers tenant tables = length (filter (has_marker tenant 1) tables.versions)
how_many count.Objects tenant tables = length (current_versions tenant tables.versions)

abbrev pub counted : Octets → Tables → Tally
counted tenant tables = record {
  versions = how_many count.Versions tenant tables;
  markers = how_many count.Markers tenant tables;
  objects = how_many count.Objects tenant tables;
}

-- each fits in 63 bits
pub record IsSmall (tally : Tally) : Type 0 where
  pub versions : tally.versions < 2 ^ 63
  pub markers : tally.markers < 2 ^ 63
  pub objects : tally.objects < 2 ^ 63

abbrev pub shown_name : TenantRow → Row
shown_name t = Text t.tenant ∷ []

-- in a transaction, a host's database has these tables, and no count of what nobody needs yet
abbrev pub HoldsUnweighed : Tables → Standing → Type 0
HoldsUnweighed tables = HoldsBy (unweighed (totals_of tables)) tables

-- and these tallies so far
abbrev pub HoldsTallies : Tables → List TallyRow → Standing → Type 0
HoldsTallies tables done = HoldsBy (record (unweighed (totals_of tables)) { tallies = done }) tables
