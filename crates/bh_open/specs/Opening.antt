-- The results of opening a database.
use Rattle.std.specs.Prelude.{◌≡◌, ◌⊎◌, ℕ, false, List, [], ◌∷◌, Result, MatchResult}
use Rattle.std.specs.Option.{option_map_or}
use Rattle.sqlite.specs.Order.{Row}
use Rattle.sqlite.specs.Effect.{Database}
use Rattle.sqlite.specs.State.{State}
use Rattle.sqlite.specs.Tree.{Trees}
use Rattle.bh_rows.specs.Form.{AreRows}
use Rattle.bh_types.specs.BlockDigests.{digest_number}
use Rattle.bh_types.specs.Limits.{HostLimits, AreLimits}
use Rattle.bh_types.specs.declared.block_digest.BlockDigest.{BlockDigest}
use Rattle.bh_tables.specs.Schema.{host_schema}
use Rattle.bh_tables.specs.Rows.{pack_form}
use Rattle.bh_tables.specs.Typed.{HostRow, Tables, tables_in, number, host_form, IsFirstHost, IsSecondHost, IsThirdHost, IsFourthHost}
use Rattle.bh_view.specs.Grouped.{first}
use Rattle.bh_migration.specs.Migration.{Settles, LeavesChanged}
use Rattle.bh_open.specs.Versions.{number_of, schema_of, IsEarlierSchema, IsHostWith}
use Rattle.bh_open.specs.declared.found.FoundHost.{FoundHost}
use Rattle.bh_open.specs.declared.found.HostVersion.{HostVersion}
use Rattle.bh_open.specs.declared.found.HostVersion.TheVariants.{First, Second, Third, Fourth, Fifth}
use Rattle.bh_open.specs.declared.found.NoHost.{NoHost}
use Rattle.bh_open.specs.declared.open.Brought.{Brought}
use Rattle.bh_base.specs.Layer.{Standing, standing, IsIntact, IsOpen, IsStateClean, Leaves, KeepsDisk, LeavesNothingNew}

-- the number of the function that names a host's blocks, in the host's row
unfoldable pub digest_in : Tables → ℕ
digest_in tables = option_map_or (λ (r : HostRow). r.digest) (first tables.host) 0

-- the only row of a host of this version and these limits, with the number of a known function
pub record IsRowOf (version : ℕ) (limits : HostLimits) (rows : List HostRow) : Type 0 where
  pub row : HostRow
  pub alone : rows ≡ row ∷ []
  pub version_is : row.version ≡ version
  pub range : AreLimits row.min_part row.max_body
  pub limits_are : limits ≡ record { min_part = row.min_part; max_body = row.max_body }
  pub named : BlockDigest
  pub number : digest_number named ≡ row.digest

-- a database of a host of this version and these limits
pub record IsHostAt (version : HostVersion) (limits : HostLimits) (db : Database) : Type 0 where
  pub host : IsHostWith version db
  pub row : IsRowOf (number_of version) limits (tables_in db).host

-- of any version
abbrev pub IsHostOf : HostLimits → Database → Type 0
IsHostOf limits db = (version : HostVersion) × IsHostAt version limits db

-- the columns that are read
abbrev pub shown_row : HostRow → Row
shown_row h = number h.version ∷ number h.latest ∷ number h.min_part ∷ number h.max_body ∷ number h.digest ∷ []

-- ---- the calls of an open

-- the limits, the last stamp and the digest function of a host of a version, whose rows these are
abbrev pub Tells : HostVersion → List HostRow → FoundHost → Type 0
Tells version rows found =
    (it : IsRowOf (number_of version) found.limits rows) × (found.latest ≡ it.row.latest) × (digest_number found.digest ≡ it.row.digest)

-- the result of reading these rows: those values, or that they are not such a host's
abbrev pub Reads : HostVersion → List HostRow → Result FoundHost NoHost → Type 0
Reads version rows found = MatchResult found (Tells version rows) (λ why. (limits : HostLimits) → ¬ IsRowOf (number_of version) limits rows)

-- whatever bytes its blocks have, it is no host's of any version: none with its schema and its host's row is
abbrev pub IsNoHost : Database → Type 0
IsNoHost db = (other : Database) → other.schema ≡ db.schema → other.trees 0 ≡ db.trees 0 → (limits : HostLimits) → ¬ IsHostOf limits other

-- the values in the host's row, if it is a typed row
abbrev pub FindsHost : Database → FoundHost → Type 0
FindsHost db found = AreRows host_form (db.trees 0) → Tells found.version (tables_in db).host found

-- the result for a database: those values, or no host of any version
abbrev pub Finds : Database → Result FoundHost NoHost → Type 0
Finds db found = MatchResult found (FindsHost db) (λ why. IsNoHost db)

-- the same, with what the table of packs lists
abbrev pub FindsIn : Database → Result Brought NoHost → Type 0
FindsIn db found = MatchResult found (λ b. FindsHost db b.host) (λ why. IsNoHost db)

-- the rows that opening a host of a version needs are typed rows: of the present one, those of its packs alone
abbrev pub IsTypedFor : HostVersion → Database → Type 0
IsTypedFor First db = IsFirstHost db
IsTypedFor Second db = IsSecondHost db
IsTypedFor Third db = IsThirdHost db
IsTypedFor Fourth db = IsFourthHost db
IsTypedFor Fifth db = AreRows pack_form (db.trees 32)

-- so are the host's row, and those that its version needs
pub record IsLegible (db : Database) : Type 0 where
  pub host : AreRows host_form (db.trees 0)
  pub rest : (version : HostVersion) → db.schema ≡ schema_of version → IsTypedFor version db

-- no transaction is open, and the database was committed
pub record IsSettled (s : State) : Type 0 where
  pub outside : (standing s).inside ≡ false
  pub committed : IsOpen s → (standing s).now ≡ (standing s).kept

-- nothing is committed
pub record IsKept (old new : State) : Type 0 where
  pub follows : KeepsDisk old new
  pub kept : IsStateClean new → (standing new).kept ≡ (standing old).kept
  pub survives : IsOpen old → LeavesNothingNew old new

-- no transaction is open, all is committed, and the database is unchanged, or upgraded if it was of
-- an earlier version
pub record Opens (version : HostVersion) (old new : Standing) : Type 0 where
  pub schema : old.now.schema ≡ schema_of version
  pub outside : new.inside ≡ false
  pub committed : new.kept ≡ new.now
  pub same : old.now.schema ≡ host_schema → new ≡ old
  pub brought : IsEarlierSchema old.now.schema → Settles old new

-- these trees are those of the open connection's database, of an earlier version, upgraded
pub record IsLeftOver (old : State) (db : Trees) : Type 0 where
  pub is_open : IsOpen old
  pub schema : IsEarlierSchema (standing old).now.schema
  pub changed : LeavesChanged (standing old).now db

-- what a crash may leave from then on was possible before, or is the upgraded database
abbrev pub LeavesOver : State → State → Type 0
LeavesOver old new = IsIntact new → (db : Trees) → Leaves new db → Leaves old db ⊎ IsLeftOver old db
