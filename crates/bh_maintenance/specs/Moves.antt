-- Moving a tenant: from one host to another, from a file's host to a new file, and from such a file
-- to a host.
use Rattle.std.specs.Prelude.{◌≡◌, ◌≢◌, ◌⊎◌, true, false, List, [], ◌∷◌, ◌++◌, map, codes, Option, Some, None, MatchOption, MatchResult}
use Rattle.std.specs.Prelude.{Result, Ok, Err, is_some}
use Rattle.std.specs.declared.alloc.Global.{Global}
use Rattle.std.specs.declared.string.String.{String}
use Rattle.sqlite_disk.specs.declared.Disk as disk
use Rattle.sqlite_disk.specs.declared.Files.{Files}
use Rattle.sqlite_wal.specs.Reads.{AreClean}
use Rattle.sqlite_wal.specs.Recovery.{Image}
use Rattle.sqlite_trees.specs.declared.store.Store.{Ghosts}
use Rattle.sqlite_store.specs.declared.store.FileStore.{FileStore}
use Rattle.sqlite.specs.declared.error.Error.{Error}
use Rattle.sqlite.specs.Closing.{IsCopied}
use Rattle.sqlite.specs.Effect.{Database}
use Rattle.sqlite.specs.Files.{file_state, over_files}
use Rattle.sqlite.specs.Held.{Held, state as database_state}
use Rattle.bh_types.specs.declared.refusal.Refusal.{Refusal}
use Rattle.bh_types.specs.declared.refusal.Refusal.TheVariants.{NoSuchTenant, TenantExists, NotAHostFile}
use Rattle.bh_shelf.specs.Contents.{Contents, Within}
use Rattle.bh_shelf.specs.declared.no_shelf.NoShelf.{NoShelf}
use Rattle.bh_shelf.specs.declared.shelf.Shelf.{Ghosts as Shelves}
use Rattle.bh_tables.specs.Hosts.{tables_shown}
use Rattle.bh_tables.specs.Schema.{Octets}
use Rattle.bh_tables.specs.Typed.{TenantRow, Tables}
use Rattle.bh_view.specs.Bodies.{IsSoundHost}
use Rattle.bh_view.specs.View.{view, latest_of, limits_in}
use Rattle.bh_base.specs.Connections.{IsClean, state, without_packs}
use Rattle.bh_base.specs.Layer.{standing, IsStateClean, KeepsDisk, Unwinds}
use Rattle.bh_base.specs.Placed.{filled}
use Rattle.bh_base.specs.declared.connection.Connection.{Connection}
use Rattle.bh_create.specs.Creation.{IsNewHost}
use Rattle.bh_blocks.specs.Digests.{digest_by}
use Rattle.bh_tenant_rows.specs.Brought.{IsBrought}
use Rattle.bh_moved.specs.Moves.{IsCommitted}
use Rattle.bh_open.specs.Opening.{digest_in}
use Rattle.bh_open.specs.Packed.{tables_beside}
use Rattle.bh_backup.specs.Copies.{IsFileOf}
use Rattle.bh_maintenance.specs.Clocks.{is_beyond, moment_of}
use Rattle.bh_maintenance.specs.Endings.{AreClosed}
use Rattle.bh_maintenance.specs.Found.{IsJoinedByRow}
use Rattle.bh_maintenance.specs.Opened.{IsHostAt, HasNoHost}
use Rattle.bh_maintenance.specs.Printing.{IsFault, IsLine, IsRefusal}
use Rattle.bh_maintenance.specs.declared.clocks.ClockRead.{ClockRead}
use Rattle.bh_maintenance.specs.declared.joined.Joined.{Joined}
use Rattle.bh_maintenance.specs.declared.printed.Printed.{Printed}

-- ---- between two connections

module _ {S P : Type 0} (g : Ghosts S) (k : Shelves P) where
  -- the tables that a connection shows, as a host's
  abbrev pub shown_by : Connection S P → Tables
  shown_by c = tables_shown (standing (state g k c)).now

  -- the committed database shows these tables with all that stands of its packs, so with what a crash
  -- or a close leaves of them
  abbrev pub KeepsShown : Connection S P → Tables → Type 0
  KeepsShown c tables = (left : Contents) → Within (k.stood c.packs) left
      → tables_shown (filled left (database_state g c.database).committed) ≡ tables

  -- a connection shows what another one showed, except that an open transaction may be rolled back
  pub record Stays (old new : Connection S P) : Type 0 where
    pub follows : KeepsDisk (state g k old) (state g k new)
    pub stands : IsClean g k new → Unwinds (standing (state g k old)) (standing (state g k new))

-- the names of all tenants
abbrev pub tenants_in : Tables → List Octets
tenants_in tables = map (λ (r : TenantRow). r.tenant) tables.tenants

-- a refusal is printed, or `fault`
abbrev pub IsToldNo : Option Refusal → Printed → Type 0
IsToldNo refusal printed = MatchOption refusal (IsFault printed) (λ r. IsRefusal r printed)

-- the line of the result
abbrev pub Tells : Printed → Result (Option Refusal) Error → Printed → Type 0
Tells line (Ok None) printed = printed ≡ line
Tells line (Ok (Some refusal)) printed = IsRefusal refusal printed
Tells line (Err e) printed = IsFault printed

module _ {S P T Q : Type 0} (g : Ghosts S) (k : Shelves P) (h : Ghosts T) (l : Shelves Q) (from : Connection S P) (to : Connection T Q)
    (from_new : Connection S P) (to_new : Connection T Q) where
  -- both stores and packs returned what was written to them, and no fault has shut one
  abbrev pub AreBothClean : Type 0
  AreBothClean = IsClean g k from_new × IsClean h l to_new

  -- a tenant of the first host was added to the second one, in one commit; the first one is
  -- unchanged
  pub record HasCome (digest : Octets → Octets) (tenant : Octets) : Type 0 where
    pub from_stays : Stays g k from from_new
    pub follows : KeepsDisk (state h l to) (state h l to_new)
    pub committed : IsClean h l to_new → IsCommitted (standing (state h l to_new))
    pub brought : AreBothClean → IsBrought digest tenant (shown_by g k from) (shown_by h l to) (shown_by h l to_new)
    -- so it is with what stands of the second one's packs
    pub kept : IsClean h l to_new → KeepsShown h l to_new (shown_by h l to_new)

  -- it was not, by a refusal or a failure; both are unchanged
  pub record HasNotCome (tenant : Octets) (refusal : Option Refusal) : Type 0 where
    pub from_stays : Stays g k from from_new
    pub to_stays : Stays h l to to_new
    pub exists : refusal ≡ Some TenantExists → IsClean h l to_new → is_some (view (shown_by h l to) tenant) ≡ true
    pub missing : refusal ≡ Some NoSuchTenant → IsClean g k from_new → is_some (view (shown_by g k from) tenant) ≡ false

  -- the one or the other, by the result of a move
  abbrev pub Moves : (Octets → Octets) → Octets → Result (Option Refusal) Error → Type 0
  Moves digest tenant (Ok None) = HasCome digest tenant
  Moves digest tenant (Ok (Some refusal)) = HasNotCome tenant (Some refusal)
  Moves digest tenant (Err e) = HasNotCome tenant None

  -- by the printed text
  abbrev pub TellsMove : (Octets → Octets) → Octets → Printed → Printed → Type 0
  TellsMove digest tenant line printed =
      (HasCome digest tenant × (printed ≡ line)) ⊎ ((refusal : Option Refusal) × HasNotCome tenant refusal × IsToldNo refusal printed)

-- ---- `import`

-- the name that was read, or why there is none
abbrev pub TellsName : Result (Option (String Global)) Error → Result (String Global) Printed → Type 0
TellsName (Ok (Some name)) told = told ≡ Ok name
TellsName (Ok None) told = MatchResult told (λ name. ⊥) (IsRefusal NotAHostFile)
TellsName (Err e) told = MatchResult told (λ name. ⊥) IsFault

-- no name of one tenant was read
abbrev pub HasNoName : Printed → Type 0
HasNoName printed = IsRefusal NotAHostFile printed ⊎ IsFault printed

module _ {S P : Type 0} (g : Ghosts S) (k : Shelves P) (old new : Connection S P) where
  abbrev pub IsOneName : Octets → Type 0
  IsOneName tenant = IsClean g k new → tenants_in (shown_by g k old) ≡ tenant ∷ []

module _ (clock : ClockRead) {S P T Q : Type 0} (g : Ghosts S) (k : Shelves P) (h : Ghosts T) (l : Shelves Q) (from : Joined S P)
    (to : Joined T Q) (from_new : Connection S P) (to_new : Connection T Q) where
  -- the only tenant of a host with the same limits was added, and its name is printed. That host's
  -- last stamp isn't too far ahead of the clock and the other host's
  pub record HasImported (printed : Printed) : Type 0 where
    pub tenant : Octets
    pub line : IsLine (codes "tenant " ++ tenant) printed
    pub name : IsOneName g k from.connection from_new tenant
    pub limits : AreBothClean g k h l from.connection to.connection from_new to_new → limits_in (shown_by g k from.connection)
        ≡ limits_in (shown_by h l to.connection)
    pub in_time : AreBothClean g k h l from.connection to.connection from_new to_new
        → is_beyond clock.leap (moment_of clock (latest_of (shown_by h l to.connection))) (latest_of (shown_by g k from.connection)) ≡ false
    pub come : HasCome g k h l from.connection to.connection from_new to_new (digest_by to.digest) tenant

  -- no tenant was added, and both are unchanged: `41` means that the tenant exists
  pub record HasNotImported (printed : Printed) : Type 0 where
    pub refusal : Option Refusal
    pub line : IsToldNo refusal printed
    pub from_stays : Stays g k from.connection from_new
    pub to_stays : Stays h l to.connection to_new
    pub exists : refusal ≡ Some TenantExists → AreBothClean g k h l from.connection to.connection from_new to_new
        → (tenant : Octets) × (tenants_in (shown_by g k from.connection) ≡ tenant ∷ [])
        × (is_some (view (shown_by h l to.connection) tenant) ≡ true)

  abbrev pub Imports : Printed → Type 0
  Imports printed = HasImported printed ⊎ HasNotImported printed

-- ---- `export`

-- a host has only this tenant of other tables, as it is in those, with the same limits, digest
-- function and last stamp
pub record HasOnly (digest : Octets → Octets) (tenant : Octets) (from new : Tables) : Type 0 where
  pub sound : IsSoundHost digest new
  pub shown : view new tenant ≡ view from tenant
  pub others : (u : Octets) → u ≢ tenant → view new u ≡ None
  pub limits : limits_in new ≡ limits_in from
  pub named : digest_in new ≡ digest_in from
  pub latest : latest_of new ≡ latest_of from

-- a new host, which has no packs, with another one's limits and digest function
pub record IsLike {S P T : Type 0} (h : Ghosts T) (host : Joined S P) (made : Joined T NoShelf) : Type 0 where
  pub limits : made.limits ≡ host.limits
  pub digest : made.digest ≡ host.digest
  pub ready : IsJoinedByRow h without_packs made
  pub fresh : IsClean h without_packs made.connection → IsNewHost made.limits made.digest (state h without_packs made.connection)

module _ {S P : Type 0} (g : Ghosts S) (k : Shelves P) (tenant : Octets) (from : Joined S P) (from_new : Connection S P)
    (printed : Printed) where
  -- the tenant is alone in a new host, and that is committed, with all bytes in its database, whatever packs are beside it
  pub record HasExported {T : Type 0} (h : Ghosts T) (new : Held T) : Type 0 where
    pub line : IsLine (codes "export") printed
    pub from_stays : Stays g k from.connection from_new
    pub alone : IsClean g k from_new → IsStateClean (database_state h new) → (packs : Contents)
        → HasOnly (digest_by from.digest) tenant (shown_by g k from.connection) (tables_beside packs (database_state h new).committed)

  -- it was not: `42` means that the first host doesn't have it
  pub record HasNotExported : Type 0 where
    pub refusal : Option Refusal
    pub line : IsToldNo refusal printed
    pub from_stays : Stays g k from.connection from_new
    pub missing : refusal ≡ Some NoSuchTenant → IsClean g k from_new → is_some (view (shown_by g k from.connection) tenant) ≡ false

  abbrev pub Exports : {T : Type 0} → Ghosts T → Held T → Type 0
  Exports h new = HasExported h new ⊎ HasNotExported

  module _ {M E : Type 0} (m : disk.Ghosts M) (e : disk.Ghosts E) where
    -- a copy is the file of such a host, if the files in which that was made returned what was
    -- written to them
    pub record IsExport (made : Files M) (copy : E) : Type 0 where
      pub db : Database
      pub line : IsLine (codes "export") printed
      pub from_stays : Stays g k from.connection from_new
      pub copied : AreClean m made.log made.db → IsFileOf e db copy
      pub alone : AreClean m made.log made.db → IsClean g k from_new → (packs : Contents)
          → HasOnly (digest_by from.digest) tenant (shown_by g k from.connection) (tables_beside packs db)

    -- there is a copy, or none
    abbrev pub ExportsTo : Option (Files M) → Option E → Type 0
    ExportsTo made copy = MatchOption copy HasNotExported (λ c. MatchOption made ⊥ (λ its. IsExport its c))

-- a connection's committed database is in the copy of its files, if they returned what was written
-- to them
pub record IsSavedIn {D E : Type 0} {g : disk.Ghosts D} (e : disk.Ghosts E) (c : Held (FileStore D g)) (files : Files D) (copy : E) :
    Type 0 where
  pub kept : AreClean g files.log files.db → IsCopied c files
  pub copied : AreClean g files.log files.db → IsFileOf e (file_state c).committed copy

-- if the status is 0; otherwise there is no copy
abbrev pub SavesMoved : {D E : Type 0} {g : disk.Ghosts D} → disk.Ghosts E → Held (FileStore D g) → Printed → Option (Files D) → Option E
    → Type 0
SavesMoved e c printed files copy =
    MatchOption copy (printed.status ≢ 0) (λ its. (printed.status ≡ 0) × MatchOption files ⊥ (λ f. IsSavedIn e c f its))

-- ---- on files

-- the files of a connection's database were closed, and these are its packs
pub record IsParted {D P : Type 0} {g : disk.Ghosts D} (connection : Connection (FileStore D g) P) (files : Files D) (left : Option P) :
    Type 0 where
  pub closed : AreClosed connection.database files
  pub packs : left ≡ Some connection.packs

module _ (clock : ClockRead) {S P D Q : Type 0} (h : Ghosts S) (l : Shelves P) (from : Joined S P) (from_new : Connection S P)
    (k : Shelves Q) where
  -- a host's tenant was added to the host of files, or both are unchanged, and the files were
  -- closed
  pub record IsImportedInto {g : disk.Ghosts D} (to : Joined (FileStore D g) Q) (printed : Printed) (left : Option Q) (files : Files D) :
      Type 0 where
    pub new : Connection (FileStore D g) Q
    pub imports : Imports clock h l over_files k from to from_new new printed
    pub parted : IsParted new files left

  module _ (g : disk.Ghosts D) (packs : Contents) (image : Image) where
    -- that host was opened on files with these contents, beside packs that have this
    pub record IsImportedTo (printed : Printed) (left : Option Q) (files : Files D) : Type 0 where
      pub to : Joined (FileStore D g) Q
      pub at : IsHostAt g k packs image to
      pub came : IsImportedInto to printed left files

    -- the tenant was added to the host of the files; or they have none, and nothing was done
    abbrev pub ImportsTo : Printed → Option (Files D) → Option Q → Type 0
    ImportsTo printed files left =
        (HasNoHost g image printed files × (from_new ≡ from.connection)) ⊎ MatchOption files ⊥ (IsImportedTo printed left)

-- the only tenant of a host in files was imported so, and these were closed
pub record IsImportedOf (clock : ClockRead) {D P E Q : Type 0} {h : disk.Ghosts E} (l : Shelves Q) (from : Joined (FileStore E h) Q)
    (g : disk.Ghosts D) (k : Shelves P) (packs : Contents) (image : Image) (printed : Printed) (files : Option (Files D)) (left : Option P)
    (given_left : Option Q) (given : Files E) : Type 0 where
  pub new : Connection (FileStore E h) Q
  pub imports : ImportsTo clock over_files l from new k g packs image printed files left
  pub parted : IsParted new given given_left

module _ (clock : ClockRead) {D P E Q : Type 0} (g : disk.Ghosts D) (k : Shelves P) (h : disk.Ghosts E) (l : Shelves Q) where
  -- the result of an import: that, for the host of the given files; or they have none, and the others
  -- weren't opened
  abbrev pub IsImported : Contents → Image → Contents → Image → Printed → Option (Files D) → Option P → Option (Files E) → Option Q
      → Type 0
  IsImported packs image given_packs given_image printed files left given given_left =
      (HasNoHost h given_image printed given × (files ≡ None))
      ⊎ ((from : Joined (FileStore E h) Q) × IsHostAt h l given_packs given_image from
      × MatchOption given ⊥ (IsImportedOf clock l from g k packs image printed files left given_left))

module _ {D P M E : Type 0} (g : disk.Ghosts D) (k : Shelves P) (m : disk.Ghosts M) (e : disk.Ghosts E) (tenant : Octets) where
  -- a host's tenant was copied to a new file, or not, and the host's files were closed
  pub record IsExportedFrom (host : Joined (FileStore D g) P) (printed : Printed) (made : Option (Files M)) (copy : Option E)
      (left : Option P) (files : Files D) : Type 0 where
    pub new : Connection (FileStore D g) P
    pub exports : ExportsTo over_files k tenant host new printed m e made copy
    pub parted : IsParted new files left

  -- the result of an export: that, for the host of files with these contents, beside packs that have
  -- this; or they have none, and there is no copy
  abbrev pub IsExported : Contents → Image → Printed → Option (Files D) → Option P → Option (Files M) → Option E → Type 0
  IsExported packs image printed files left made copy =
      (HasNoHost g image printed files × (copy ≡ None))
      ⊎ ((host : Joined (FileStore D g) P) × IsHostAt g k packs image host
      × MatchOption files ⊥ (IsExportedFrom host printed made copy left))
