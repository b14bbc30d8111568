-- A subcommand's effect on the connection of a file, and its printed text.
use Rattle.std.specs.Prelude.{◌≡◌, ◌⊎◌, ℕ, Bool, true, false, Some, IfSome, codes}
use Rattle.std.specs.declared.marker.Brand.{Brand}
use Rattle.sqlite_disk.specs.declared.Disk as disk
use Rattle.sqlite_store.specs.declared.store.FileStore.{FileStore}
use Rattle.sqlite.specs.Files.{file_state, over_files}
use Rattle.sqlite.specs.Held.{Held}
use Rattle.sqlite.specs.State.{State}
use Rattle.bh_types.specs.BlockDigests.{digest_number}
use Rattle.bh_types.specs.Limits.{HostLimits, HostTuning}
use Rattle.bh_types.specs.declared.block_digest.BlockDigest.{BlockDigest}
use Rattle.bh_types.specs.declared.refusal.Refusal.TheVariants.{NotAHostFile}
use Rattle.bh_tables.specs.Schema.{Octets}
use Rattle.bh_view.specs.Bodies.{IsSoundHost}
use Rattle.bh_view.specs.View.{latest_of}
use Rattle.bh_storage.specs.Calls.{IsAtRest}
use Rattle.bh_cache.specs.Kept.{no_blocks}
use Rattle.bh_shelf.specs.Contents.{Contents}
use Rattle.bh_shelf.specs.declared.shelf.Shelf.{Ghosts as Shelves}
use Rattle.bh_base.specs.Layer.{standing, IsStateClean, KeepsDisk}
use Rattle.bh_schema.specs.Storage as storage
use Rattle.bh_create.specs.Creation.{IsEmpty, IsNewHost}
use Rattle.bh_open.specs.Opening.{digest_in}
use Rattle.bh_open.specs.Packed.{tables_beside, seen_beside}
use Rattle.bh_open.specs.declared.open.Opened.{Opened}
use Rattle.bh_blocks.specs.Digests.{digest_by, digester_of, the_digester}
use Rattle.bh_memo.specs.Facts.{nothing}
use Rattle.bh_dispatch.specs.declared.sql_host.SqlHost.{SqlHost}
use Rattle.bh_schema.specs.declared.host.Host.{Host as SqlStore}
use Rattle.bh_kept.specs.Kept as kept
use Rattle.bh_kept.specs.declared.host.BlockSize as size
use Rattle.bh_kept.specs.declared.host.KeptHost.{KeptHost}
use Rattle.bh_words.specs.declared.lines.ClockGiven.{ClockGiven}
use Rattle.bh_maintenance.specs.Endings.{IsLeft}
use Rattle.bh_maintenance.specs.Found.{IsSoundIn, IsOpenedAs, IsLeftAlone, IsNotFound}
use Rattle.bh_maintenance.specs.Printing.{IsFault, IsLine}
use Rattle.bh_maintenance.specs.declared.ending.Left.{Left}
use Rattle.bh_maintenance.specs.declared.printed.Printed.{Printed}
use Rattle.bh_commands.specs.Clocks.{leaps}
use Rattle.bh_commands.specs.Commands.{HasDone, StaysReady}
use Rattle.bh_commands.specs.declared.asked.FileTask.{FileTask}
use Rattle.bh_commands.specs.declared.asked.FileTask.TheVariants.{Init, Host}
use Rattle.bh_commands.specs.declared.asked.Work.{Work}

-- a new host has no precondition on it; any other is sound with what its packs have
abbrev pub IsReadyFor : Contents → FileTask → State → Type 0
IsReadyFor packs (Init limits digest) s = Unit {0}
IsReadyFor packs (Host tuning clock work) s = IsSoundIn packs s

-- none is created in it
pub record IsNotMade (old new : State) (printed : Printed) : Type 0 where
  pub alone : IsLeftAlone old new printed
  pub not_empty : alone.refusal ≡ NotAHostFile → ¬ IsEmpty old

-- a host with these limits is created in it, with the number of this function
pub record IsMade (limits : HostLimits) (digest : BlockDigest) (old new : State) (printed : Printed) : Type 0 where
  pub was_empty : IsEmpty old
  pub follows : KeepsDisk old new
  pub made : IsStateClean new → IsNewHost limits digest new
  pub line : IsLine (codes "host") printed

abbrev pub Makes : HostLimits → BlockDigest → State → State → Printed → Type 0
Makes limits digest old new printed = IsNotMade old new printed ⊎ IsMade limits digest old new printed

module _ {D P : Type 0} {g : disk.Ghosts D} where
  -- the host of an opened database and its packs, with a digester, which is that of a function; its
  -- cache is empty
  abbrev pub host_with : {G : Type 0} → Opened (FileStore D g) → P → G → SqlStore (FileStore D g) P G
  host_with opened packs digester = record {
    connection = record { database = opened.connection; packs = packs };
    digester = digester;
    limits = opened.limits;
    cache = no_blocks opened.tuning;
  }

  abbrev pub host_by : (digest : BlockDigest) → Opened (FileStore D g) → P → SqlStore (FileStore D g) P (digester_of digest)
  host_by digest opened packs = host_with opened packs (the_digester digest)

  module _ (p : Shelves P) where
    -- a host is at rest, with blocks named by a function, and this is its last stamp
    pub record IsReady {G : Type 0} (digest : Octets → Octets) (latest : ℕ) (host : SqlStore (FileStore D g) P G) : Type 0 where
      pub rest : storage.IsClean over_files p host → IsAtRest (IsSoundHost digest) (storage.seen over_files p host)
      pub read : storage.IsClean over_files p host → latest ≡ latest_of (storage.seen over_files p host).now

    -- a connection was opened as a host, which has the tables that were there, with the bytes that the
    -- packs beside it have, upgraded from an earlier version if needed, and is at rest
    pub record IsFound {G : Type 0} (has : Contents) (digest : Octets → Octets) (old : Held (FileStore D g))
        (host : SqlStore (FileStore D g) P G) : Type 0 where
      pub opened : IsOpenedAs has (file_state old) (file_state host.connection.database)
      pub shows : storage.IsClean over_files p host → (storage.seen over_files p host).now
          ≡ tables_beside has (standing (file_state old)).now
      pub rest : storage.IsClean over_files p host → IsAtRest (IsSoundHost digest) (storage.seen over_files p host)

    -- the work was done at a reading, all of it, on a host that cuts bodies into blocks of this size,
    -- and its connection is left; backups may have closed and reopened it, and it wasn't lost over
    -- them
    pub record IsWorkedOn {G K : Type 0} (block : size.Ghosts K) (digest : Octets → Octets) (work : Work) (reading : ℕ)
        (host : SqlStore (FileStore D g) P G) (new : Held (FileStore D g)) (printed : Printed) : Type 0 where
      pub first : KeptHost D P G K g p (record { digest_of = digest }) block
      pub last : KeptHost D P G K g p (record { digest_of = digest }) block
      pub left_host : SqlHost (FileStore D g) P G
      pub begun : first.storage ≡ Some (record { host = host; memo = nothing })
      pub stays : StaysReady (λ h. kept.IsIntact p h.storage) (λ h. kept.IsOpen p h.storage) (IsSoundHost digest)
          (λ h. kept.seen p h.limits h.storage) first last
      pub done : HasDone (λ h. kept.IsIntact p h.storage) (λ h. kept.IsOpen p h.storage)
          (λ h. kept.seen p h.limits h.storage) (λ h. kept.left p h.storage) work reading first last printed
      pub ended : last.storage ≡ Some left_host
      pub left : new ≡ left_host.host.connection.database

    -- the clock, at the given reading or else at some reading, is too far ahead of the last stamp, or
    -- not
    pub record Reads {G : Type 0} (clock : ClockGiven) (host : SqlStore (FileStore D g) P G) (reading : ℕ)
        (is_leap : Bool) : Type 0 where
      pub given : IfSome clock.at (λ r. reading ≡ r)
      pub leap : storage.IsClean over_files p host
          → leaps clock.leap (latest_of (storage.seen over_files p host).now) reading ≡ is_leap

    -- it is too far ahead: that alone is printed, and the tables are unchanged
    pub record IsHeldBack {G : Type 0} (clock : ClockGiven) (host : SqlStore (FileStore D g) P G) (new : Held (FileStore D g))
        (printed : Printed) : Type 0 where
      pub reading : ℕ
      pub reads : Reads clock host reading true
      pub left : new ≡ host.connection.database
      pub line : IsFault printed

    -- it is not, and the work was done at that reading; blocks have the size of the host's settings
    pub record IsDone {G : Type 0} (digest : Octets → Octets) (clock : ClockGiven) (work : Work)
        (host : SqlStore (FileStore D g) P G) (new : Held (FileStore D g)) (printed : Printed) : Type 0 where
      pub reading : ℕ
      pub reads : Reads clock host reading false
      pub worked : IsWorkedOn {K = Brand} (record { size = host.cache.tuning.block_size }) digest work reading host new printed

    abbrev pub IsWorkedInTime : {G : Type 0} → (Octets → Octets) → ClockGiven → Work → SqlStore (FileStore D g) P G
        → Held (FileStore D g) → Printed → Type 0
    IsWorkedInTime digest clock work host new printed = IsHeldBack clock host new printed ⊎ IsDone digest clock work host new printed

    module _ (has : Contents) where
      -- the host was opened with these settings, with its packs, which have this, and with the digester of the
      -- function in its row
      pub record HasWorked (tuning : HostTuning) (clock : ClockGiven) (work : Work) (old new : Held (FileStore D g)) (printed : Printed) :
          Type 0 where
        pub opened : Opened (FileStore D g)
        pub packs : P
        pub tuned : opened.tuning ≡ tuning
        pub row : IsStateClean (file_state opened.connection) → digest_number opened.digest
            ≡ digest_in (seen_beside has opened.limits (file_state opened.connection)).now
        pub found : IsFound has (digest_by opened.digest) old (host_by opened.digest opened packs)
        pub worked : IsWorkedInTime (digest_by opened.digest) clock work (host_by opened.digest opened packs) new printed

      abbrev pub Works : HostTuning → ClockGiven → Work → Held (FileStore D g) → Held (FileStore D g) → Printed → Type 0
      Works tuning clock work old new printed =
          IsNotFound (file_state old) (file_state new) printed ⊎ HasWorked tuning clock work old new printed

      abbrev pub CarriesOut : FileTask → Held (FileStore D g) → Held (FileStore D g) → Printed → Type 0
      CarriesOut (Init limits digest) old new printed = Makes limits digest (file_state old) (file_state new) printed
      CarriesOut (Host tuning clock work) old new printed = Works tuning clock work old new printed

      -- the task is done; this is its printed text and the rest of the connection
      abbrev pub LeavesDone : FileTask → Held (FileStore D g) → Printed → Left (FileStore D g) → Type 0
      LeavesDone asked old printed left =
          (new : Held (FileStore D g)) × CarriesOut asked old new printed × IsLeft over_files new left
