-- What a stop leaves for the next open, and the effect of an event, or of a group of them, over a stop.
use Rattle.std.specs.Prelude.{◌≡◌, ◌≢◌, List, Some, IsTrue}
use Rattle.sqlite_disk.specs.declared.Disk.{Ghosts}
use Rattle.sqlite_store.specs.declared.store.FileStore.{FileStore}
use Rattle.sqlite.specs.Effect.{Database, IsDatabase}
use Rattle.sqlite.specs.Files.{over_files, file_state}
use Rattle.bh_types.specs.BlockDigests.{digest_number}
use Rattle.bh_types.specs.declared.refusal.Refusal.TheVariants as refusal
use Rattle.bh_model.specs.State.{Octets}
use Rattle.bh_event.specs.Events.{Arrival}
use Rattle.bh_shelf.specs.Contents.{Contents}
use Rattle.bh_shelf.specs.declared.shelf.Shelf.{Ghosts as Shelves}
use Rattle.bh_tables.specs.Typed.{Tables}
use Rattle.bh_view.specs.Bodies.{IsSoundHost}
use Rattle.bh_view.specs.View.{latest_of}
use Rattle.bh_storage.specs.Calls.{Seen, IsAtRest}
use Rattle.bh_host.specs.declared.storage.Storage as storage
use Rattle.bh_base.specs.Databases as connection
use Rattle.bh_base.specs.Layer.{standing, Leaves}
use Rattle.bh_base.specs.Placed.{filled, IsWhole}
use Rattle.bh_schema.specs.declared.host.Digester as digester
use Rattle.bh_schema.specs.declared.host.Host.{Host}
use Rattle.bh_schema.specs.Storage.{IsIntact, IsOpen, seen, left}
use Rattle.bh_dispatch.specs.declared.sql_host.SqlHost.{SqlHost}
use Rattle.bh_kept.specs.declared.host.BlockSize as size
use Rattle.bh_kept.specs.declared.host.KeptHost.{KeptHost}
use Rattle.bh_again.specs.Found as found
use Rattle.bh_open.specs.Opening.{digest_in}
use Rattle.bh_open.specs.Packed.{tables_beside, seen_beside}
use Rattle.bh_open.specs.Versions.{IsEarlierSchema, IsHostsSchema, IsTypedIfEarlier}
use Rattle.bh_open.specs.declared.open.Opened.{Opened}
use Rattle.bh_host.specs.Runs.{Told}
use Rattle.bh_host.specs.Resting.{StaysAtRest}
use Rattle.bh_connection.specs.Connections.{IsApplied, HasAnswered}
use Rattle.bh_connection.specs.declared.served.End.{End}
use Rattle.bh_again.specs.declared.hosts.ReopenError.{ReopenError}
use Rattle.bh_again.specs.declared.hosts.ReopenError.TheVariants as reopen

module _ {D : Type 0} {g : Ghosts D} where
  -- ---- a host that was opened, whichever function names its blocks, and whatever packs are put beside it

  abbrev pub seen_again : Contents → Opened (FileStore D g) → Seen
  seen_again packs opened = seen_beside packs opened.limits (file_state opened.connection)

  abbrev pub IsCleanAgain : Opened (FileStore D g) → Type 0
  IsCleanAgain opened = connection.IsClean over_files opened.connection

  -- with these packs it has these tables; if they are sound it is at rest, and its reported values are
  -- those in the tables
  pub record CameBack (packs : Contents) (kept : Tables) (opened : Opened (FileStore D g)) : Type 0 where
    pub tables : (seen_again packs opened).now ≡ kept
    pub rest : (digest : Octets → Octets) → IsSoundHost digest kept → IsAtRest (IsSoundHost digest) (seen_again packs opened)
    pub latest : (digest : Octets → Octets) → IsSoundHost digest kept → opened.latest ≡ latest_of kept
    pub named : (digest : Octets → Octets) → IsSoundHost digest kept → digest_number opened.digest ≡ digest_in kept

  -- it is the host of this database, of any version, and has with these packs the tables that an open
  -- with them has. Rows under an earlier schema have to be typed rows
  pub record ComesBack (packs : Contents) (db : Database) (opened : Opened (FileStore D g)) : Type 0 where
    pub schema : IsHostsSchema db.schema
    pub came_back : IsTypedIfEarlier db → CameBack packs (tables_beside packs db) opened

  -- the error isn't that the files have no host
  abbrev pub IsNotNone : ReopenError D g → Type 0
  IsNotNone (reopen.Files error) = Unit {0}
  IsNotNone (reopen.Host e) = connection.IsClean over_files e.connection → e.refusal ≢ refusal.NotAHostFile

  -- ---- a host that was stopped

  module _ {P G : Type 0} where
    -- its committed database, and one that a crash may leave
    abbrev pub kept_of : Host (FileStore D g) P G → Database
    kept_of host = (standing (file_state host.connection.database)).kept

    abbrev pub IsLeft : Host (FileStore D g) P G → Database → Type 0
    IsLeft host db = Leaves (file_state host.connection.database) db.trees × IsDatabase db

  module _ {P G : Type 0} (h : Shelves P) where
    -- all tables that a crash may leave
    abbrev pub AllLeft : (Tables → Type 0) → Host (FileStore D g) P G → Type 0
    AllLeft = found.AllLeft (IsIntact over_files h) (IsOpen over_files h) (seen over_files h) (left over_files h)

    -- no wrong answer of a pack's file was taken as true
    abbrev pub ArePacksClean : Host (FileStore D g) P G → Type 0
    ArePacksClean host = IsTrue (h.is_clean host.connection.packs)

    -- then a crash may leave these contents of its packs
    pub record MayFind (host : Host (FileStore D g) P G) (packs : Contents) : Type 0 where
      pub clean : ArePacksClean host
      pub may : h.may_leave host.connection.packs packs

    -- with all that a crash may leave of its packs, the committed database shows what it showed before,
    -- if each of its places had its bytes
    abbrev pub KeepsBytes : Host (FileStore D g) P G → Type 0
    KeepsBytes host = (packs : Contents) → MayFind host packs → IsWhole (filled (h.kept host.connection.packs) (kept_of host))
        → filled packs (kept_of host) ≡ filled (h.kept host.connection.packs) (kept_of host)

    -- all tables that an open may find after a crash, in a database of any version, with its packs
    abbrev pub AllShown : (Tables → Type 0) → Host (FileStore D g) P G → Type 0
    AllShown Says host = (db : Database) → IsLeft host db → (packs : Contents) → MayFind host packs → Says (tables_beside packs db)

    -- the promise of `stop_and_open_host` for a reopened host: what comes back does so with any packs
    pub record IsReopened (host : Host (FileStore D g) P G) (opened : Opened (FileStore D g)) : Type 0 where
      pub intact : IsCleanAgain opened → ArePacksClean host → IsIntact over_files h host
      pub came_back : IsCleanAgain opened → IsOpen over_files h host → (packs : Contents) → ComesBack packs (kept_of host) opened
      pub merely : IsCleanAgain opened → ∥ ((db : Database) × IsLeft host db × ((packs : Contents) → ComesBack packs db opened)) ∥₁

    -- ---- an event before it

    -- an event was applied, as `bh_host::apply` promises
    abbrev pub HasApplied : Arrival → Told → Host (FileStore D g) P G → Host (FileStore D g) P G → Type 0
    HasApplied = IsApplied (IsIntact over_files h) (IsOpen over_files h) (seen over_files h) (left over_files h)

    -- and its reply was sent: the promise of `serve_connection` for one that came over a connection
    abbrev pub HasReplied : Arrival → Told → End → Host (FileStore D g) P G → Host (FileStore D g) P G → Type 0
    HasReplied = HasAnswered (IsIntact over_files h) (IsOpen over_files h) (seen over_files h) (left over_files h)

    abbrev pub IsReady : (Octets → Octets) → Host (FileStore D g) P G → Type 0
    IsReady = found.IsReady (IsIntact over_files h) (IsOpen over_files h) (seen over_files h) (left over_files h)

    abbrev pub AddsSound : (Octets → Octets) → Host (FileStore D g) P G → Host (FileStore D g) P G → Type 0
    AddsSound = found.AddsSound (IsIntact over_files h) (IsOpen over_files h) (seen over_files h) (left over_files h)

    -- these are the upgraded tables of an earlier version's database that a crash may leave, beside
    -- whatever packs
    pub record IsOlder (host : Host (FileStore D g) P G) (packs : Contents) (x : Tables) : Type 0 where
      pub db : Database
      pub may : IsLeft host db
      pub schema : IsEarlierSchema db.schema
      pub shown : IsTypedIfEarlier db → x ≡ tables_beside packs db

    abbrev pub IsLeftBy : Contents → Arrival → Told → Host (FileStore D g) P G → Host (FileStore D g) P G → Tables → Type 0
    IsLeftBy packs event told old new =
        found.IsLeftBy (IsIntact over_files h) (IsOpen over_files h) (seen over_files h) (left over_files h) (IsOlder new packs)
        event told old new

    abbrev pub IsLeftSince : Contents → Arrival → Told → Host (FileStore D g) P G → Host (FileStore D g) P G → Tables → Type 0
    IsLeftSince packs event told old new =
        found.IsLeftSince (IsIntact over_files h) (IsOpen over_files h) (seen over_files h) (left over_files h) (IsOlder new packs)
        event told old new

    -- events were applied together, as `bh_host::apply_together` promises
    abbrev pub HaveApplied : List Arrival → List Told → Host (FileStore D g) P G → Host (FileStore D g) P G → Type 0
    HaveApplied = found.HaveApplied (IsIntact over_files h) (IsOpen over_files h) (seen over_files h) (left over_files h)

    abbrev pub AreLeftBy : Contents → List Arrival → List Told → Host (FileStore D g) P G → Host (FileStore D g) P G → Tables → Type 0
    AreLeftBy packs events tolds old new =
        found.AreLeftBy (IsIntact over_files h) (IsOpen over_files h) (seen over_files h) (left over_files h) (IsOlder new packs)
        events tolds old new

    -- with these packs a host came back with tables that have this property
    abbrev pub Survives : (Octets → Octets) → (Tables → Type 0) → Host (FileStore D g) P G → Host (FileStore D g) P G
        → Contents → Opened (FileStore D g)
        → Type 0
    Survives digest Says old new packs opened =
        found.Survives (IsIntact over_files h) (IsOpen over_files h) (seen over_files h) (left over_files h) digest Says old new
        (seen_again packs opened)

-- after an event and a stop, with whatever a crash leaves of its packs, a host comes back with the
-- tables before the event or after it
abbrev pub AfterStop : {D P : Type 0} → Ghosts D → Shelves P → Type 0 → (Octets → Octets) → Type 0
AfterStop {D} {P} g h G digest =
    (event : Arrival) (told : Told) (old new : Host (FileStore D g) P G) (opened : Opened (FileStore D g)) (packs : Contents)
    → HasApplied h event told old new → IsReady h digest new → IsReopened h new opened → IsCleanAgain opened → MayFind h new packs
    → Survives h digest (IsLeftBy h packs event told old new) old new packs opened

-- after events that were applied together and a stop, a host comes back with the tables after all of
-- them, if the last has a stamp, and else with those that may remain of them
abbrev pub AfterGroup : {D P : Type 0} → Ghosts D → Shelves P → Type 0 → (Octets → Octets) → Type 0
AfterGroup {D} {P} g h G digest = (events : List Arrival) (tolds : List Told) (old new : Host (FileStore D g) P G)
    (opened : Opened (FileStore D g)) (packs : Contents)
    → HaveApplied h events tolds old new → IsReady h digest new → IsReopened h new opened → IsCleanAgain opened → MayFind h new packs
    → Survives h digest (AreLeftBy h packs events tolds old new) old new packs opened

-- and so it does after a reply was sent and a stop
abbrev pub AfterReply : {D P : Type 0} → Ghosts D → Shelves P → Type 0 → (Octets → Octets) → Type 0
AfterReply {D} {P} g h G digest = (event : Arrival) (told : Told) (ended : End) (old new : Host (FileStore D g) P G)
    (opened : Opened (FileStore D g)) (packs : Contents)
    → HasReplied h event told ended old new → IsReady h digest new → IsReopened h new opened → IsCleanAgain opened → MayFind h new packs
    → Survives h digest (IsLeftSince h packs event told old new) old new packs opened

-- if a crash leaves only sound tables, an open after it finds only sound ones, and no database of
-- an earlier version
abbrev pub OpensSound : {D P : Type 0} → Ghosts D → Shelves P → Type 0 → (Octets → Octets) → Type 0
OpensSound {D} {P} g h G digest = (host : Host (FileStore D g) P G) → AllLeft h (IsSoundHost digest) host
    → AllShown h (IsSoundHost digest) host × ((packs : Contents) (x : Tables) → ¬ IsOlder h host packs x)

-- if a crash before an event would have left only sound tables, so does one after it
abbrev pub StaysSound : {D P : Type 0} → Ghosts D → Shelves P → Type 0 → (Octets → Octets) → Type 0
StaysSound {D} {P} g h G digest = (old new : Host (FileStore D g) P G)
    → AddsSound h digest old new → AllLeft h (IsSoundHost digest) old → IsIntact over_files h new → AllLeft h (IsSoundHost digest) new

-- ---- the storage that is served: a kept host, unless it was lost

-- after an event and a stop, the host beneath comes back with the tables that the kept host had
-- before the event or after it
abbrev pub AfterKeptStop : {D P G K : Type 0} {g : Ghosts D} {h : Shelves P} {d : digester.Ghosts G} {k : size.Ghosts K}
    → (Octets → Octets) → storage.Ghosts (KeptHost D P G K g h d k) → Type 0
AfterKeptStop {D} {P} {G} {K} {g} {h} {d} {k} digest s =
    (event : Arrival) (told : Told) (old new : KeptHost D P G K g h d k) (it : SqlHost (FileStore D g) P G)
    (opened : Opened (FileStore D g)) (packs : Contents)
    → IsApplied s.IsIntact s.IsOpen s.seen s.left event told old new
    → StaysAtRest s.IsIntact s.IsOpen s.IsSoundStore s.seen s.left old new
    → new.storage ≡ Some it → IsReopened h it.host opened → IsCleanAgain opened → MayFind h it.host packs
    → found.Survives s.IsIntact s.IsOpen s.seen s.left digest
    (found.IsLeftBy s.IsIntact s.IsOpen s.seen s.left (IsOlder h it.host packs) event told old new) old new
    (seen_again packs opened)

-- and so it does after a reply was sent and a stop
abbrev pub AfterKeptReply : {D P G K : Type 0} {g : Ghosts D} {h : Shelves P} {d : digester.Ghosts G} {k : size.Ghosts K}
    → (Octets → Octets) → storage.Ghosts (KeptHost D P G K g h d k) → Type 0
AfterKeptReply {D} {P} {G} {K} {g} {h} {d} {k} digest s =
    (event : Arrival) (told : Told) (ended : End) (old new : KeptHost D P G K g h d k)
    (it : SqlHost (FileStore D g) P G)
    (opened : Opened (FileStore D g)) (packs : Contents)
    → HasAnswered s.IsIntact s.IsOpen s.seen s.left event told ended old new
    → StaysAtRest s.IsIntact s.IsOpen s.IsSoundStore s.seen s.left old new
    → new.storage ≡ Some it → IsReopened h it.host opened → IsCleanAgain opened → MayFind h it.host packs
    → found.Survives s.IsIntact s.IsOpen s.seen s.left digest
    (found.IsLeftSince s.IsIntact s.IsOpen s.seen s.left (IsOlder h it.host packs) event told old new) old new
    (seen_again packs opened)

-- and so it does after events that were applied together and a stop
abbrev pub AfterKeptGroup : {D P G K : Type 0} {g : Ghosts D} {h : Shelves P} {d : digester.Ghosts G} {k : size.Ghosts K}
    → (Octets → Octets) → storage.Ghosts (KeptHost D P G K g h d k) → Type 0
AfterKeptGroup {D} {P} {G} {K} {g} {h} {d} {k} digest s =
    (events : List Arrival) (tolds : List Told) (old new : KeptHost D P G K g h d k)
    (it : SqlHost (FileStore D g) P G)
    (opened : Opened (FileStore D g)) (packs : Contents)
    → found.HaveApplied s.IsIntact s.IsOpen s.seen s.left events tolds old new
    → StaysAtRest s.IsIntact s.IsOpen s.IsSoundStore s.seen s.left old new
    → new.storage ≡ Some it → IsReopened h it.host opened → IsCleanAgain opened → MayFind h it.host packs
    → found.Survives s.IsIntact s.IsOpen s.seen s.left digest
    (found.AreLeftBy s.IsIntact s.IsOpen s.seen s.left (IsOlder h it.host packs) events tolds old new) old new
    (seen_again packs opened)
