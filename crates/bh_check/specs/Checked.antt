-- The checks of all rows, which imply that a host's tables are sound.
use Rattle.std.specs.Prelude.{◌≡◌, ℕ, List, [], ◌∷◌, nat_lt, if◌then◌else◌}
use Rattle.std.specs.List.{AllByRecursion}
use Rattle.sqlite.specs.Effect.{IsDatabase}
use Rattle.sqlite.specs.Order.{Row}
use Rattle.sqlite.specs.Schema.{Schema}
use Rattle.sqlite.specs.Tree.{Trees}
use Rattle.bh_rows.specs.Form.{typed}
use Rattle.bh_tables.specs.Schema.{Octets, first_schema, second_schema, third_schema, fourth_schema, host_schema}
use Rattle.bh_tables.specs.Hosts.{with_version, tables_opened}
use Rattle.bh_tables.specs.Typed.{HostRow, host_form}
use Rattle.bh_view.specs.Bodies.{IsSoundHost}
use Rattle.bh_view.specs.Sound.{IsHostRow}
use Rattle.bh_stored.specs.Fits.{AreAllFit}
use Rattle.bh_stored.specs.Stored.{seen}
use Rattle.bh_stored.specs.declared.stored.Edition.{Edition}
use Rattle.bh_stored.specs.declared.stored.Edition.TheVariants.{First, Second, Third, Fourth, Fifth}
use Rattle.bh_check.specs.Blocks.{HasDigest, AreOnce, AreNamed, AreUses, HasChecksum}
use Rattle.bh_check.specs.Holds.{block_refs, Holds}
use Rattle.bh_check.specs.Placed.{IsPlaced}
use Rattle.bh_check.specs.Garbage.{AreWeighed}
use Rattle.bh_check.specs.Tallies.{AreTallied}
use Rattle.bh_check.specs.declared.rows.Table.TheVariants as table

-- ---- the editions of a host, by its versions

abbrev pub version_of : Edition → ℕ
version_of First = 1
version_of Second = 2
version_of Third = 3
version_of Fourth = 4
version_of Fifth = 5

abbrev pub schema_of : Edition → Schema
schema_of First = first_schema
schema_of Second = second_schema
schema_of Third = third_schema
schema_of Fourth = fourth_schema
schema_of Fifth = host_schema

-- the edition with this number of tables
abbrev pub edition_with : ℕ → Edition
edition_with tables = if nat_lt 19 tables then Fifth
    else (if nat_lt 13 tables then Fourth else (if nat_lt 12 tables then Third else (if nat_lt 10 tables then Second else First)))

-- ---- the result

-- a row of a host of this version, which otherwise is like one of the present version
pub record IsHostBy (version : ℕ) (row : HostRow) : Type 0 where
  pub version_is : row.version ≡ version
  pub good : IsHostRow (with_version 5 row)

-- there is one such row, with this last stamp
pub record IsHostRowIn (version : ℕ) (rows : List Row) (latest : ℕ) : Type 0 where
  pub host : HostRow
  pub alone : typed host_form rows ≡ host ∷ []
  pub good : IsHostBy version host
  pub latest_is : host.latest ≡ latest

-- each row is valid, alone and against the sums over the others
pub record AreRowsHeld (d : Trees) (latest : ℕ) : Type 0 where
  pub tenants : AllByRecursion (Holds d latest table.Tenants) (d 1)
  pub keys : AllByRecursion (Holds d latest table.Keys) (d 3)
  pub buckets : AllByRecursion (Holds d latest table.Buckets) (d 5)
  pub versions : AllByRecursion (Holds d latest table.Versions) (d 7)
  pub refs : AllByRecursion (Holds d latest table.Refs) (d 12)
  pub uploads : AllByRecursion (Holds d latest table.Uploads) (d 16)
  pub parts : AllByRecursion (Holds d latest table.Parts) (d 18)

-- locked buckets are Enabled, versions with a date may have one, and dates are moments
pub record AreDatesHeld (d : Trees) (latest : ℕ) : Type 0 where
  pub locked : AllByRecursion (Holds d latest table.Locked) (d 5)
  pub dated : AllByRecursion (Holds d latest table.Dated) (d 7)
  pub kept : AllByRecursion (Holds d latest table.Kept) (d 7)
  pub retains : AllByRecursion (Holds d latest table.Retains) (d 28)

-- references are in the order of their places, and parts have the checksums of their bytes
pub record AreBodiesHeld (d : Trees) : Type 0 where
  pub placed : IsPlaced (λ _. 0) (d 12)
  pub checksums : AreNamed (d 10) → AllByRecursion (HasChecksum (d 12) (d 10)) (d 18)

-- blocks have the digests of their bytes, and no two have the same
pub record AreBytesHeld (digest : Octets → Octets) (blocks : List Row) : Type 0 where
  pub digests : AllByRecursion (HasDigest digest) blocks
  pub once : AreOnce blocks

-- all of it, for a host of each edition
pub record IsChecked (edition : Edition) (digest : Octets → Octets) (d : Trees) : Type 0 where
  pub latest : ℕ
  pub host : IsHostRowIn (version_of edition) (d 0) latest
  pub fits : AreAllFit d
  pub rows : AreRowsHeld d latest
  pub dates : AreDatesHeld d latest
  pub bodies : AreBodiesHeld d
  pub bytes : AreBytesHeld digest (d 10)
  pub counts : AreUses (block_refs d) (d 23) (d 10)
  pub tallies : AreTallied edition d
  pub garbage : AreWeighed edition d

-- a host's tables are sound if the store's own rules hold too: keys are unique, and each row has
-- its parent. Those of an earlier version are as they are once it is opened, without locks and
-- dates in version 1
abbrev pub MakesSound : Type 0
MakesSound = (edition : Edition) (digest : Octets → Octets) (d : Trees) → IsDatabase (record { schema = schema_of edition; trees = d })
    → IsChecked edition digest (seen edition d)
    → IsSoundHost digest (tables_opened (record { schema = schema_of edition; trees = d }))
