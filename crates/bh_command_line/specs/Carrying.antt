-- What is done for a command line's task.
use Rattle.std.specs.Prelude.{◌≡◌, ◌++◌, List, ℕ, codes, Option, Some, None, Result, Ok, Err, MatchOption, IsOkAnd, IsSomeAnd, is_some}
use Rattle.std.specs.String.{string_bytes}
use Rattle.std.specs.declared.alloc.Global.{Global}
use Rattle.std.specs.declared.string.String.{String}
use Rattle.sqlite_disk.specs.declared.Disk as disk
use Rattle.sqlite_disk.specs.declared.Files.{Files}
use Rattle.sqlite_disk.specs.declared.start.Wary.{Wary}
use Rattle.sqlite_wal.specs.Recovery.{Image}
use Rattle.bh_event.specs.Events.{AddKey, Message, Ordered, message_of}
use Rattle.bh_event.specs.Lines.{ordered_by}
use Rattle.bh_event.specs.Orders.{Instruction, ToDo, instruction_of}
use Rattle.bh_event.specs.declared.order.HostOrder.{HostOrder}
use Rattle.bh_shelf.specs.Contents.{Contents}
use Rattle.bh_shelf.specs.declared.shelf.Shelf.{Ghosts as Shelves}
use Rattle.bh_types.specs.Limits.{HostLimits, HostTuning}
use Rattle.bh_types.specs.declared.block_digest.BlockDigest.{BlockDigest}
use Rattle.bh_words.specs.declared.lines.ClockGiven.{ClockGiven}
use Rattle.bh_words.specs.declared.lines.Leap.{Leap}
use Rattle.bh_maintenance.specs.Backups.{IsBackedUp}
use Rattle.bh_maintenance.specs.Checks.{IsChecked}
use Rattle.bh_maintenance.specs.Moves.{IsExported, IsImported}
use Rattle.bh_maintenance.specs.declared.backups.HostCopy.{HostCopy}
use Rattle.bh_maintenance.specs.declared.clocks.ClockRead.{ClockRead}
use Rattle.bh_maintenance.specs.declared.fault.Fault.{Fault}
use Rattle.bh_maintenance.specs.declared.printed.Printed.{Printed}
use Rattle.bh_commands.specs.Files.{IsAnswered, IsNewIn}
use Rattle.bh_command_line.specs.Input.{IsTyped}
use Rattle.bh_commands.specs.declared.asked.FileTask.TheVariants as file
use Rattle.bh_commands.specs.declared.asked.OperatorServing.{OperatorServing}
use Rattle.bh_commands.specs.declared.asked.Serving.{Serving}
use Rattle.bh_commands.specs.declared.asked.Work.{Work}
use Rattle.bh_commands.specs.declared.asked.Work.TheVariants as the_work
use Rattle.bh_words.specs.Lines.{command_line}
use Rattle.bh_words.specs.Readings.{told_by}
use Rattle.bh_words.specs.declared.lines.Line.{Line}
use Rattle.bh_task.specs.Tasks.{task_of}
use Rattle.bh_task.specs.declared.places.Environment.{Environment}
use Rattle.bh_task.specs.declared.line_task.HostTask.{HostTask}
use Rattle.bh_task.specs.declared.line_task.HostTask.TheVariants as asked
use Rattle.bh_task.specs.declared.line_task.LineTask.{LineTask}
use Rattle.bh_task.specs.declared.line_task.LineTask.TheVariants as task
use Rattle.bh_task.specs.declared.line_task.Maintenance.{Maintenance}
use Rattle.bh_task.specs.declared.line_task.Maintenance.TheVariants as maintenance
use Rattle.bh_task.specs.declared.line_task.OperatorGiven.{OperatorGiven}
use Rattle.bh_task.specs.declared.line_task.Starts.{Starts}
use Rattle.bh_task.specs.declared.line_task.ServeTask.{ServeTask}
use Rattle.bh_task.specs.declared.line_task.Told.{Told}
use Rattle.bh_task.specs.declared.line_task.Told.TheVariants as told
use Rattle.bh_task.specs.declared.misfit.Misfit.{Misfit}

-- ---- work, once its secrets were read

-- how the names of files begin that are made while the host of a file is served
abbrev pub spool_name : List ℕ → Option (String Global) → List ℕ
spool_name path (Some directory) = string_bytes directory ++ codes "/spool"
spool_name path None = path ++ codes ".spool"

-- operators are served where it was asked; they have a secret if its file was named
abbrev pub AreServed : Option OperatorGiven → Option OperatorServing → Type 0
AreServed None serving = serving ≡ None
AreServed (Some given) serving =
    IsSomeAnd serving (λ (o : OperatorServing). (o.door ≡ given.door) × (is_some o.secret ≡ is_some given.secret_file))

-- the host of the file of a path is served as it was asked
pub record IsServing (path : List ℕ) (asked : ServeTask) (serving : Serving) : Type 0 where
  pub door : serving.door ≡ asked.door
  pub group : serving.socket_group ≡ asked.socket_group
  pub operator : AreServed asked.operator serving.operator
  pub count : serving.count ≡ asked.count
  pub timeout : serving.manner.timeout ≡ asked.timeout
  pub logged : serving.manner.is_logged ≡ asked.is_logged
  pub connections : serving.connections ≡ asked.connections
  pub file : string_bytes serving.file ≡ path
  pub spool : string_bytes serving.spool ≡ spool_name path asked.spool
  pub clock_step : serving.clock_step ≡ asked.clock_step
  pub keep_garbage : serving.keep_garbage ≡ asked.keep_garbage

-- what is ordered is what was typed; a key's secret may have been read
abbrev pub IsReadAs : Message → Message → Type 0
IsReadAs (Ordered (AddKey tenant name typed)) read =
    (secret : List ℕ) × IsTyped typed secret × (read ≡ Ordered (AddKey tenant name secret))
IsReadAs typed read = read ≡ typed

abbrev pub IsOrderRead : Instruction → Instruction → Type 0
IsOrderRead (ToDo typed) read = (message : Message) × IsReadAs typed message × (read ≡ ToDo message)
IsOrderRead typed read = read ≡ typed

-- what a server reads in a text is the order; of a line that was given nothing is said
abbrev pub IsTextFor : Told → List ℕ → Type 0
IsTextFor (told.Line line) text = Unit {0}
IsTextFor (told.Order order) text =
    (read : Instruction) × IsOrderRead (instruction_of order) read × (ordered_by text ≡ Some read)

-- the work that is asked of the host of the file of a path
abbrev pub IsWorkFor : List ℕ → HostTask → Work → Type 0
IsWorkFor path (asked.Order typed) work =
    (order : HostOrder) × IsReadAs (message_of typed) (message_of order) × (work ≡ the_work.Order order)
IsWorkFor path (asked.Serve it) work = (serving : Serving) × IsServing path it serving × (work ≡ the_work.Serve serving)

-- ---- on files with these first contents, beside packs whose files have this

-- a new host has no packs
abbrev pub IsMadeIn : {D : Type 0} → disk.Ghosts D → Image → HostLimits → Option BlockDigest → Printed → Type 0
IsMadeIn {D} g image limits digest printed =
    MatchOption digest ⊥ (λ d. (files : Option (Files D)) × IsNewIn g image limits d printed files)

module _ {D P : Type 0} (g : disk.Ghosts D) (p : Shelves P) (has : Contents) (image : Image) where
  abbrev pub IsWorkedIn : List ℕ → HostTuning → ClockGiven → HostTask → Printed → Type 0
  IsWorkedIn path tuning clock asked printed =
      (work : Work) × IsWorkFor path asked work × (files : Option (Files D))
      × IsAnswered g p image has (file.Host tuning clock work) printed files

  abbrev pub IsCheckedIn : Printed → Type 0
  IsCheckedIn printed = (files : Option (Files D)) × (packs : Option P) × IsChecked g p has image printed files packs

  module _ {E : Type 0} (e : disk.Ghosts E) where
    abbrev pub IsBackedUpTo : {C : Type 0} → Shelves C → Printed → Type 0
    IsBackedUpTo {C} c printed =
        (files : Option (Files D)) × (copy : Option (HostCopy P E C)) × IsBackedUp g p e c has image printed files copy

    -- by a reading of the clock
    abbrev pub IsImportedFrom : {Q : Type 0} → Shelves Q → Contents → Image → Leap → Printed → Type 0
    IsImportedFrom {Q} q given_has given_image leap printed =
        (clock : ClockRead) × (clock.leap ≡ leap) × (files : Option (Files D)) × (packs : Option P) × (given : Option (Files E))
        × (given_packs : Option Q)
        × IsImported clock g p e q has image given_has given_image printed files packs given given_packs

    module _ {M : Type 0} (m : disk.Ghosts M) where
      abbrev pub IsExportedTo : List ℕ → Printed → Type 0
      IsExportedTo tenant printed =
          (files : Option (Files D)) × (packs : Option P) × (made : Option (Files M)) × (copy : Option E)
          × IsExported g p m e tenant has image printed files packs made copy

-- the program names `Wary` for each file, whose contents are empty
abbrev pub wary : Starts Wary Wary Wary
wary = record { host = record {}; other = record {}; made = record {} }

-- what is done for a task, on files with these first contents, beside packs whose files have this: the
-- host's, and the other's that it names; of a script and of a line to a server nothing is said
module _ {D E M P Q C : Type 0} (g : disk.Ghosts D) (e : disk.Ghosts E) (m : disk.Ghosts M) (p : Shelves P) (q : Shelves Q) (c : Shelves C)
    (has given_has : Contents) (image given : Image) where
  abbrev pub IsMaintained : {S T U : Type 0} → Maintenance S T U → Printed → Type 0
  IsMaintained (maintenance.Backup of to) printed = IsBackedUpTo g p has image e c printed
  IsMaintained (maintenance.Export of tenant to made) printed = IsExportedTo g p has image e m (string_bytes tenant) printed
  IsMaintained (maintenance.Import to from leap) printed = IsImportedFrom g p has image e q given_has given leap printed
  IsMaintained (maintenance.Check file) printed = IsCheckedIn g p has image printed

  abbrev pub IsCarriedOut : {S T U : Type 0} → LineTask S T U → Printed → Type 0
  IsCarriedOut (task.Script limits tuning digest) printed = Unit {0}
  IsCarriedOut (task.Init file limits digest) printed = IsMadeIn g image limits digest printed
  IsCarriedOut (task.OnHost file tuning clock asked) printed = IsWorkedIn g p has image (string_bytes file.path) tuning clock asked printed
  IsCarriedOut (task.Maintain asked) printed = IsMaintained asked printed
  IsCarriedOut (task.Tell door secret_file it) printed = Unit {0}

  -- nothing is done where options don't fit together
  abbrev pub IsLineDone : {S T U : Type 0} → Result (LineTask S T U) Misfit → Printed → Type 0
  IsLineDone (Ok task) printed = IsCarriedOut task printed
  IsLineDone (Err misfit) printed = ⊥

  -- a line is carried out in an environment; the program names `Wary` for each file
  abbrev pub IsDoneIn : Environment → Line → Printed → Type 0
  IsDoneIn environment line printed = IsLineDone (task_of wary environment line) printed

  -- what was done is what was typed: words tell a line, with the order that the table of fields says,
  -- and it is carried out in the environment, which was read
  abbrev pub IsDoneAsTyped : Result Environment Fault → List (List ℕ) → Printed → Type 0
  IsDoneAsTyped environment words printed =
      (line : Line) × (told_by words ≡ Some (command_line line)) × IsOkAnd environment (λ e. IsDoneIn e line printed)
