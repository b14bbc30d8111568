-- The contents of a host's files when they were opened, and the task on them.
use Rattle.std.specs.Prelude.{Option, MatchOption}
use Rattle.sqlite_disk.specs.declared.Disk as disk
use Rattle.sqlite_disk.specs.declared.Files.{Files}
use Rattle.sqlite_wal.specs.Recovery.{Image}
use Rattle.sqlite_store.specs.declared.store.FileStore.{FileStore}
use Rattle.sqlite.specs.Files.{file_state}
use Rattle.sqlite.specs.Held.{Held}
use Rattle.bh_shelf.specs.Contents.{Contents, nothing}
use Rattle.bh_shelf.specs.declared.shelf.Shelf.{Ghosts as Shelves}
use Rattle.bh_base.specs.Connections.{without_packs}
use Rattle.bh_types.specs.Limits.{HostLimits}
use Rattle.bh_types.specs.declared.block_digest.BlockDigest.{BlockDigest}
use Rattle.bh_types.specs.declared.refusal.Refusal.TheVariants.{NotAHostFile}
use Rattle.bh_file.specs.Opened.{IsOpenedOn}
use Rattle.bh_maintenance.specs.Endings.{AreClosed}
use Rattle.bh_maintenance.specs.Files.{HoldsSoundHost}
use Rattle.bh_maintenance.specs.Printing.{IsRefusal}
use Rattle.bh_maintenance.specs.declared.printed.Printed.{Printed}
use Rattle.bh_commands.specs.Subcommands.{CarriesOut}
use Rattle.bh_commands.specs.declared.asked.FileTask.{FileTask}
use Rattle.bh_commands.specs.declared.asked.FileTask.TheVariants.{Init, Host}

-- a new host has no precondition on them; any other is sound with what the packs beside it have
abbrev pub HoldsFor : Contents → FileTask → Image → Type 0
HoldsFor packs (Init limits digest) image = Unit {0}
HoldsFor packs (Host tuning clock work) image = HoldsSoundHost packs image

module _ {D P : Type 0} {g : disk.Ghosts D} (p : Shelves P) (has : Contents) where
  -- the task was done on a connection, beside which packs have this, and its files were closed
  pub record IsEnded (old : Held (FileStore D g)) (asked : FileTask) (printed : Printed) (files : Files D) : Type 0 where
    pub new : Held (FileStore D g)
    pub carried_out : CarriesOut p has asked old new printed
    pub closed : AreClosed new files

module _ {D P : Type 0} (g : disk.Ghosts D) (p : Shelves P) (image : Image) (has : Contents) where
  -- files with these contents were opened as a database, the task was done on its connection, and they were closed
  pub record AreDone (asked : FileTask) (printed : Printed) (files : Files D) : Type 0 where
    pub old : Held (FileStore D g)
    pub opened : IsOpenedOn image (file_state old)
    pub ended : IsEnded p has old asked printed files

  -- the task was done in the files; if there were none, the answer is that there is no host
  abbrev pub IsAnswered : FileTask → Printed → Option (Files D) → Type 0
  IsAnswered asked printed files = MatchOption files (IsRefusal NotAHostFile printed) (AreDone asked printed)

-- so it is for a new host, which has no packs
abbrev pub IsNewIn : {D : Type 0} → disk.Ghosts D → Image → HostLimits → BlockDigest → Printed → Option (Files D) → Type 0
IsNewIn g image limits digest = IsAnswered g without_packs image nothing (Init limits digest)
