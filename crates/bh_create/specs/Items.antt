-- The tables and indexes of a host: the schema before each and after it, and the SQL that creates
-- it.
use Rattle.std.specs.Prelude.{◌≡◌, ◌⊎◌, ℕ, List, [], ◌∷◌}
use Rattle.sqlite.specs.Change.{created, indexed}
use Rattle.sqlite.specs.Schema.{Schema}
use Rattle.sqlite.specs.Table.{Table}
use Rattle.sqlite_schema.specs.declared.schema.Index.{Index}
use Rattle.bh_rows.proofs.CreateErrors.{IsFree}
use Rattle.bh_rows.proofs.CreateLemmas.{Makes as Creates}
use Rattle.bh_rows.proofs.IndexErrors.{IsFreeIndex}
use Rattle.bh_rows.specs.Index.{Indexes}
use Rattle.bh_tables.specs.Made as made
use Rattle.bh_tables.specs.Schema.{no_schema, first_schema, second_schema, third_schema, fourth_schema}
use Rattle.bh_create.specs.declared.tables.Item.{Item}
use Rattle.bh_create.specs.declared.tables.Item.TheVariants as item

abbrev pub after : Item → Schema
after item.Host = made.with_host
after item.Tenants = made.with_tenants
after item.Keys = made.with_keys
after item.Buckets = made.with_buckets
after item.Versions = made.with_versions
after item.Blocks = made.with_blocks
after item.Refs = made.with_refs
after item.Newest = made.with_newest
after item.RefsByBlock = made.with_refs_by_block
after item.Uploads = made.with_uploads
after item.Parts = made.with_parts
after item.UploadsByKey = made.with_uploads_by_key
after item.UploadsByMoment = made.with_uploads_by_moment
after item.Uses = made.with_uses
after item.UsesByCount = made.with_uses_by_count
after item.Locks = made.with_locks
after item.Retains = made.with_retains
after item.Tallies = made.with_tallies
after item.Packs = made.with_packs
after item.Placed = made.with_placed
after item.Notes = made.with_notes
after item.UploadNotes = made.with_upload_notes
after item.Rights = made.with_rights
after item.Garbage = made.with_garbage
after item.Unneeded = made.with_unneeded

abbrev pub before : Item → Schema
before item.Host = no_schema
before item.Tenants = after item.Host
before item.Keys = after item.Tenants
before item.Buckets = after item.Keys
before item.Versions = after item.Buckets
before item.Blocks = after item.Versions
before item.Refs = after item.Blocks
before item.Newest = after item.Refs
before item.RefsByBlock = after item.Newest
before item.Uploads = after item.RefsByBlock
before item.Parts = after item.Uploads
before item.UploadsByKey = after item.Parts
before item.UploadsByMoment = after item.UploadsByKey
before item.Uses = after item.UploadsByMoment
before item.UsesByCount = after item.Uses
before item.Locks = first_schema
before item.Retains = after item.Locks
before item.Tallies = second_schema
before item.Packs = third_schema
before item.Placed = after item.Packs
before item.Notes = after item.Placed
before item.UploadNotes = after item.Notes
before item.Rights = after item.UploadNotes
before item.Garbage = after item.Rights
before item.Unneeded = fourth_schema

-- the SQL of its table, over the schema before it, which has no conflict with it
pub record IsTableText (item : Item) (sql : List ℕ) : Type 0 where
  pub table : Table
  pub leads : created (before item) table ≡ after item
  pub creates : Creates (before item) sql table
  pub free : IsFree (before item) sql table

-- or its index, on the table in this place of the schema
pub record IsIndexText (item : Item) (sql : List ℕ) : Type 0 where
  pub place : ℕ
  pub table : Table
  pub index : Index
  pub leads : indexed (before item) table index ≡ after item
  pub indexes : Indexes (before item) sql place table index
  pub free : IsFreeIndex (before item) sql table index

abbrev pub IsTextOf : Item → List ℕ → Type 0
IsTextOf item sql = IsTableText item sql ⊎ IsIndexText item sql

-- made one after another, these lead from one schema to another
abbrev pub Lead : Schema → List Item → Schema → Type 0
Lead from [] to = from ≡ to
Lead from (x ∷ xs) to = (before x ≡ from) × Lead (after x) xs to
