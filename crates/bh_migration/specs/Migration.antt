-- Upgrading the database of a host of version 1, 2, 3 or 4 to version 5.
use Rattle.std.specs.Prelude.{◌≡◌, ◌⊎◌, [], true, false}
use Rattle.sqlite.specs.Effect.{Database}
use Rattle.sqlite.specs.Schema.{Schema}
use Rattle.sqlite.specs.Tree.{Trees}
use Rattle.bh_tables.specs.Hosts.{IsOfVersion1, IsOfVersion2, IsOfVersion3, IsOfVersion4, brought_over}
use Rattle.bh_tables.specs.Schema.{first_schema, second_schema, third_schema, fourth_schema, host_schema}
use Rattle.bh_tables.specs.Typed.{IsHost, IsFirstHost, IsSecondHost, IsThirdHost, IsFourthHost, Tables, tables_in, first_tables_in}
use Rattle.bh_tables.specs.Typed.{Raw, first_raw, second_raw, third_raw, fourth_raw}
use Rattle.bh_base.specs.Layer.{Standing}
use Rattle.bh_migration.specs.Tallying.{HoldsTallies, HoldsUnweighed}
use Rattle.bh_migration.specs.declared.Earlier.{Earlier}
use Rattle.bh_migration.specs.declared.Earlier.TheVariants.{First, Second, Third, Fourth}

-- ---- before and after

abbrev pub earlier_schema : Earlier → Schema
earlier_schema First = first_schema
earlier_schema Second = second_schema
earlier_schema Third = third_schema
earlier_schema Fourth = fourth_schema

-- it has the schema, and rows that are typed rows
abbrev pub IsEarlierHost : Earlier → Database → Type 0
IsEarlierHost First db = IsFirstHost db
IsEarlierHost Second db = IsSecondHost db
IsEarlierHost Third db = IsThirdHost db
IsEarlierHost Fourth db = IsFourthHost db

-- whose row has its version
abbrev pub IsOfEarlier : Database → Type 0
IsOfEarlier db = IsOfVersion1 db ⊎ (IsOfVersion2 db ⊎ (IsOfVersion3 db ⊎ IsOfVersion4 db))

-- no transaction is open over a database that has the tables of a host of this version
pub record IsEarlier (version : Earlier) (x : Standing) : Type 0 where
  pub outside : x.inside ≡ false
  pub schema : x.now.schema ≡ earlier_schema version

-- a host's database of version 5 has these rows, and the version 5
pub record IsBroughtOver (was : Tables) (new : Database) : Type 0 where
  pub host : IsHost new
  pub rows : tables_in new ≡ brought_over was

-- a database got the tables of a host of version 5. If its rows were those of a host of an earlier
-- version, it is upgraded. Those rows are unchanged, no bucket is locked and no version has a date
-- that had none, the tallies and the bytes that nobody needs are the right counts, and the tables that
-- nothing fills have no row
pub record IsChanged (old new : Database) : Type 0 where
  pub schema : new.schema ≡ host_schema
  pub first : IsFirstHost old → IsBroughtOver (first_tables_in old) new
  pub second : IsSecondHost old → IsBroughtOver (tables_in old) new
  pub third : IsThirdHost old → IsBroughtOver (tables_in old) new
  pub fourth : IsFourthHost old → IsBroughtOver (tables_in old) new

-- no transaction is open over a database that was upgraded so, and all is committed. No block has its bytes in a pack
pub record Settles (old new : Standing) : Type 0 where
  pub outside : new.inside ≡ false
  pub committed : new.kept ≡ new.now
  pub changed : IsChanged old.now new.now
  pub unplaced : new.now.trees 34 ≡ []

-- these trees are those of a database that was upgraded so
abbrev pub LeavesChanged : Database → Trees → Type 0
LeavesChanged old db = (after : Database) × IsChanged old after × (db ≡ after.trees)

-- ---- in between

-- in a transaction, the database has this schema
pub record HasSchema (its : Schema) (x : Standing) : Type 0 where
  pub inside : x.inside ≡ true
  pub schema : x.now.schema ≡ its

-- and these rows, as that schema has them
pub record HasRows (its : Schema) (rows_in : Trees → Raw) (was : Raw) (x : Standing) : Type 0 where
  pub inside : x.inside ≡ true
  pub schema : x.now.schema ≡ its
  pub rows : rows_in x.now.trees ≡ was

-- the rows of a host of an earlier version. A table that it lacks has none
abbrev pub earlier_raw : Earlier → Trees → Raw
earlier_raw First = first_raw
earlier_raw Second = second_raw
earlier_raw Third = third_raw
earlier_raw Fourth = fourth_raw

-- in a transaction, a host's database has these tables, no count of what nobody needs yet, and no
-- tallies if the earlier version has none
abbrev pub HoldsUntallied : Earlier → Tables → Standing → Type 0
HoldsUntallied First tables = HoldsTallies tables []
HoldsUntallied Second tables = HoldsTallies tables []
HoldsUntallied Third tables = HoldsUnweighed tables
HoldsUntallied Fourth tables = HoldsUnweighed tables

pub record Brings (old new : Standing) : Type 0 where
  pub inside : new.inside ≡ true
  pub changed : IsChanged old.now new.now
