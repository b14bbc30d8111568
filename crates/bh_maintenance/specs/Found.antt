-- The host in a database beside its packs, and the results of opening it.
use Rattle.std.specs.Prelude.{◌≡◌, ◌⊎◌, map}
use Rattle.sqlite_trees.specs.declared.store.Store.{Ghosts}
use Rattle.sqlite.specs.Effect.{Database}
use Rattle.sqlite.specs.Held.{Held, state}
use Rattle.sqlite.specs.State.{State}
use Rattle.bh_shelf.specs.Contents.{Contents}
use Rattle.bh_shelf.specs.Listed.{HasListed}
use Rattle.bh_shelf.specs.declared.shelf.Shelf.{Ghosts as Shelves}
use Rattle.bh_rows.specs.Form.{AreRows}
use Rattle.bh_types.specs.BlockDigests.{digest_number}
use Rattle.bh_types.specs.Limits.{HostLimits}
use Rattle.bh_types.specs.declared.block_digest.BlockDigest.{BlockDigest}
use Rattle.bh_types.specs.declared.refusal.Refusal.{Refusal}
use Rattle.bh_types.specs.declared.refusal.Refusal.TheVariants.{NotAHostFile, Unavailable}
use Rattle.bh_tables.specs.Hosts.{tables_shown}
use Rattle.bh_tables.specs.Packs.{packs_in}
use Rattle.bh_tables.specs.Rows.{pack_form}
use Rattle.bh_tables.specs.Schema.{Octets, host_schema}
use Rattle.bh_tables.specs.Typed.{Tables}
use Rattle.bh_view.specs.Bodies.{IsSoundHost}
use Rattle.bh_view.specs.View.{latest_of}
use Rattle.bh_storage.specs.Calls.{IsAtRest}
use Rattle.bh_base.specs.Connections.{IsClean, stands}
use Rattle.bh_base.specs.Connections as connections
use Rattle.bh_base.specs.Layer.{standing, IsOpen, IsStateClean, KeepsDisk, LeavesNothingNew, Unwinds}
use Rattle.bh_base.specs.Placed.{filled}
use Rattle.bh_schema.specs.Storage.{seen_in}
use Rattle.bh_migration.specs.Migration.{Settles}
use Rattle.bh_open.specs.Opening.{digest_in, IsHostOf, LeavesOver}
use Rattle.bh_open.specs.Packed.{tables_beside, seen_beside, listed_of}
use Rattle.bh_open.specs.Versions.{IsEarlierSchema, IsHostsSchema, IsTypedIfEarlier}
use Rattle.bh_open.specs.declared.open.Opened.{Opened}
use Rattle.bh_blocks.specs.Digests.{digest_by}
use Rattle.bh_maintenance.specs.Printing.{IsRefusal}
use Rattle.bh_maintenance.specs.declared.joined.Joined.{Joined}
use Rattle.bh_maintenance.specs.declared.printed.Printed.{Printed}

-- a sound host's tables, with blocks named by the function in its row
pub record IsSoundByItsRow (tables : Tables) : Type 0 where
  pub digest : BlockDigest
  pub row : digest_number digest ≡ digest_in tables
  pub sound : IsSoundHost (digest_by digest) tables

-- so are those of the host that a database is once it is opened with packs that have this, if it is one
abbrev pub IsSoundIn : Contents → State → Type 0
IsSoundIn packs s = IsStateClean s → IsHostsSchema (standing s).now.schema → IsSoundByItsRow (tables_beside packs (standing s).now)

-- a database was opened as a host: one of the present version is unchanged, and one of an earlier
-- version was upgraded, in one commit. With packs that have this it has the tables that it should
-- have; rows under an earlier schema have to be typed rows
pub record IsOpenedAs (packs : Contents) (old new : State) : Type 0 where
  pub schema : IsHostsSchema (standing old).now.schema
  pub same : IsStateClean new → (standing old).now.schema ≡ host_schema → standing new ≡ standing old
  pub brought : IsStateClean new → IsEarlierSchema (standing old).now.schema → Settles (standing old) (standing new)
  pub shows : IsStateClean new → IsTypedIfEarlier (standing old).now
      → tables_shown (filled packs (standing new).now) ≡ tables_beside packs (standing old).now
  pub follows : KeepsDisk old new
  pub crash : IsOpen old → LeavesOver old new

-- a refusal alone, because the file is not a host's, or memory or the store failed. The database is
-- unchanged, except that an open transaction may be rolled back
pub record IsLeftAlone (old new : State) (printed : Printed) : Type 0 where
  pub refusal : Refusal
  pub which : (refusal ≡ NotAHostFile) ⊎ (refusal ≡ Unavailable)
  pub line : IsRefusal refusal printed
  pub follows : KeepsDisk old new
  pub stays : IsStateClean new → Unwinds (standing old) (standing new)

-- a database has no host, whatever packs are put beside it. Only if the commit that was to upgrade it failed may a crash leave
-- anything else than before: all of it upgraded
pub record IsNotFound (old new : State) (printed : Printed) : Type 0 where
  pub alone : IsLeftAlone old new printed
  pub no_host : alone.refusal ≡ NotAHostFile → IsStateClean new → (limits : HostLimits) → ¬ IsHostOf limits (standing old).now
  pub without : alone.refusal ≡ NotAHostFile → IsStateClean new
      → (packs : Contents) (limits : HostLimits) → ¬ IsHostOf limits (filled packs (standing old).now)
  pub quiet : alone.refusal ≡ NotAHostFile → IsOpen old → LeavesNothingNew old new
  pub crash : IsOpen old → LeavesOver old new

-- packs have all that a database's rows of packs list, as the files of packs that have this
abbrev pub HasListedOf : Contents → Contents → Database → Type 0
HasListedOf files packs db = AreRows pack_form (db.trees 32) → HasListed (map listed_of (packs_in db.trees)) files packs

-- ---- its database, whose packs aren't opened yet

module _ {S : Type 0} (g : Ghosts S) (packs : Contents) where
  -- with packs that have this it is at rest, with blocks named by a function. Its last stamp is the one
  -- that was read, its rows of packs are those that were read, and all of it is committed
  pub record IsReadyBy (digest : Octets → Octets) (opened : Opened S) : Type 0 where
    pub rest : IsStateClean (state g opened.connection)
        → IsAtRest (IsSoundHost digest) (seen_beside packs opened.limits (state g opened.connection))
    pub latest : IsStateClean (state g opened.connection) → opened.latest
        ≡ latest_of (seen_beside packs opened.limits (state g opened.connection)).now
    pub listed : IsStateClean (state g opened.connection) → opened.listed.items
        ≡ map listed_of (packs_in (standing (state g opened.connection)).now.trees)
    pub committed : IsStateClean (state g opened.connection)
        → (standing (state g opened.connection)).kept ≡ (standing (state g opened.connection)).now

  -- so with the function in its row
  pub record IsReadyByRow (host : Opened S) : Type 0 where
    pub ready : IsReadyBy (digest_by host.digest) host
    pub row : IsStateClean (state g host.connection) → digest_number host.digest
        ≡ digest_in (tables_shown (filled packs (standing (state g host.connection)).now))

  -- a database was opened as a host, which has the same tables, upgraded if needed, and is ready
  pub record IsHostIn (old : Held S) (host : Opened S) : Type 0 where
    pub opened : IsOpenedAs packs (state g old) (state g host.connection)
    pub shows : IsStateClean (state g host.connection) → tables_shown (filled packs (standing (state g host.connection)).now)
        ≡ tables_beside packs (standing (state g old)).now
    pub ready : IsReadyByRow host

module _ {S : Type 0} (g : Ghosts S) where
  -- a database was opened as a host, whatever packs are put beside it. All of it is committed, and its
  -- rows of packs are those that were read
  pub record IsFoundIn (old : Held S) (host : Opened S) : Type 0 where
    pub opened : (packs : Contents) → IsOpenedAs packs (state g old) (state g host.connection)
    pub sound : (packs : Contents) → IsSoundIn packs (state g old) → IsHostIn g packs old host
    pub listed : IsStateClean (state g host.connection) → AreRows pack_form ((standing (state g host.connection)).now.trees 32)
        → host.listed.items ≡ map listed_of (packs_in (standing (state g host.connection)).now.trees)
    pub committed : IsStateClean (state g host.connection)
        → (standing (state g host.connection)).kept ≡ (standing (state g host.connection)).now

-- ---- joined with its packs

module _ {S P : Type 0} (g : Ghosts S) (p : Shelves P) where
  -- a host is at rest, with blocks named by a function, and its last stamp is the one that was read
  pub record IsJoinedBy (digest : Octets → Octets) (host : Joined S P) : Type 0 where
    pub rest : IsClean g p host.connection → IsAtRest (IsSoundHost digest) (seen_in host.limits (connections.state g p host.connection))
    pub latest : IsClean g p host.connection → host.latest ≡ latest_of (seen_in host.limits (connections.state g p host.connection)).now

  -- so with the function in its row
  pub record IsJoinedByRow (host : Joined S P) : Type 0 where
    pub ready : IsJoinedBy (digest_by host.digest) host
    pub row : IsClean g p host.connection → digest_number host.digest ≡ digest_in (tables_shown (stands g p host.connection).now)

  -- a database was opened as a host, whose packs' files have this. Joined with its packs it has the
  -- same tables, upgraded if needed, and is ready
  pub record IsJoinedIn (packs : Contents) (old : Held S) (host : Joined S P) : Type 0 where
    pub opened : IsOpenedAs packs (state g old) (state g host.connection.database)
    pub shows : IsClean g p host.connection → tables_shown (stands g p host.connection).now
        ≡ tables_beside packs (standing (state g old)).now
    pub ready : IsJoinedByRow host
