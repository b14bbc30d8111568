-- What a command line asks for: a line for each command.
use Rattle.std.specs.Prelude.{ℕ, Bool, true, false, not, ◌&&◌, is_some, if◌then◌else◌, Option, Some, None, Result, Ok, Err}
use Rattle.std.specs.declared.alloc.Global.{Global}
use Rattle.std.specs.declared.string.String.{String}
use Rattle.bh_event.specs.declared.order.HostOrder.{HostOrder}
use Rattle.bh_event.specs.declared.order.Order.{Order}
use Rattle.bh_event.specs.declared.order.Order.TheVariants as ordered
use Rattle.bh_types.specs.Limits.{default_tuning}
use Rattle.bh_words.specs.Readings.{leap_of}
use Rattle.bh_words.specs.declared.lines.ClockGiven.{ClockGiven}
use Rattle.bh_words.specs.declared.lines.ClockTyped.{ClockTyped}
use Rattle.bh_words.specs.declared.lines.DoorGiven.{DoorGiven}
use Rattle.bh_words.specs.declared.lines.Line.{Line}
use Rattle.bh_words.specs.declared.lines.Line.TheVariants as line
use Rattle.bh_words.specs.declared.lines.PlaceGiven.{PlaceGiven}
use Rattle.bh_words.specs.declared.lines.ServeGiven.{ServeGiven}
use Rattle.bh_task.specs.Places.{operators_at, place_of}
use Rattle.bh_task.specs.declared.line_task.Door.{Door}
use Rattle.bh_task.specs.declared.line_task.Door.TheVariants.{Port, Socket}
use Rattle.bh_task.specs.declared.line_task.FileAt.{FileAt}
use Rattle.bh_task.specs.declared.line_task.HostTask.{HostTask}
use Rattle.bh_task.specs.declared.line_task.HostTask.TheVariants as asked
use Rattle.bh_task.specs.declared.line_task.LineTask.{LineTask}
use Rattle.bh_task.specs.declared.line_task.LineTask.TheVariants as task
use Rattle.bh_task.specs.declared.line_task.Maintenance.{Maintenance}
use Rattle.bh_task.specs.declared.line_task.Maintenance.TheVariants as maintenance
use Rattle.bh_task.specs.declared.line_task.OperatorGiven.{OperatorGiven}
use Rattle.bh_task.specs.declared.line_task.ServeTask.{ServeTask}
use Rattle.bh_task.specs.declared.line_task.Starts.{Starts}
use Rattle.bh_task.specs.declared.line_task.Told.TheVariants as told
use Rattle.bh_task.specs.declared.places.Environment.{Environment}
use Rattle.bh_task.specs.declared.places.Place.{Place}
use Rattle.bh_task.specs.declared.places.Place.TheVariants.{File, Server}
use Rattle.bh_task.specs.declared.misfit.Misfit.{Misfit}
use Rattle.bh_task.specs.declared.misfit.Misfit.TheVariants.{NoDoor, TwoDoors, NoSocket, NoOperatorDoor, TwoOperatorDoors}
use Rattle.bh_task.specs.declared.misfit.Misfit.TheVariants.{NoSweeps, NoClock}

-- ---- doors

infixl 10 ◌>>=◌
abbrev pub ◌>>=◌ : {A B : Type 0} → Result A Misfit → (A → Result B Misfit) → Result B Misfit
(Ok a) >>= f = f a
(Err m) >>= f = Err m

-- one of a port and a socket is to be given, and not both
abbrev pub door_from : Option ℕ → Option (String Global) → Result Door Misfit
door_from (Some port) None = Ok (Port port)
door_from None (Some path) = Ok (Socket path)
door_from None None = Err NoDoor
door_from (Some port) (Some path) = Err TwoDoors

abbrev pub door_of : DoorGiven → Result Door Misfit
door_of given = door_from given.port given.socket

-- only a socket has a group
abbrev pub group_of : Door → Option (String Global) → Result (Option (String Global)) Misfit
group_of (Socket path) given = Ok given
group_of (Port port) None = Ok None
group_of (Port port) (Some group) = Err NoSocket

-- at most one, and one if they have a secret
abbrev pub operators_from : Option ℕ → Option (String Global) → Option (String Global) → Result (Option OperatorGiven) Misfit
operators_from (Some port) None secret_file = Ok (Some (record { door = Port port; secret_file = secret_file }))
operators_from None (Some path) secret_file = Ok (Some (record { door = Socket path; secret_file = secret_file }))
operators_from None None None = Ok None
operators_from None None (Some secret_file) = Err NoOperatorDoor
operators_from (Some port) (Some path) secret_file = Err TwoOperatorDoors

abbrev pub operators_of : DoorGiven → Option (String Global) → Result (Option OperatorGiven) Misfit
operators_of given secret_file = operators_from given.port given.socket secret_file

-- only a server with a door for operators sweeps by itself
abbrev pub garbage_of : Option OperatorGiven → Option ℕ → Result (Option ℕ) Misfit
garbage_of (Some operator) given = Ok given
garbage_of None None = Ok None
garbage_of None (Some bytes) = Err NoSweeps

abbrev pub serving_of : ServeGiven → Result ServeTask Misfit
serving_of given = do
  door ← door_of given.doors.clients
  socket_group ← group_of door given.doors.socket_group
  operator ← operators_of given.doors.operators given.doors.operator_secret_file
  keep_garbage ← garbage_of operator given.keep_garbage
  Ok (record {
    door = door;
    socket_group = socket_group;
    operator = operator;
    count = given.count;
    timeout = given.timeout;
    is_logged = given.log;
    connections = given.connections;
    spool = given.spool;
    clock_step = given.clock_step;
    keep_garbage = keep_garbage;
  })

-- ---- orders

abbrev pub clock_of : ClockTyped → ClockGiven
clock_of clock = record { at = clock.at; leap = leap_of clock.force clock.days }

-- nothing is given of it
abbrev pub is_free : ClockTyped → Bool
is_free clock = not (is_some clock.at) && (not (is_some clock.days) && not clock.force)

-- ---- tasks

-- an order that a server alone carries out, after its secret
abbrev pub served_at : {S T U : Type 0} → OperatorGiven → Order → LineTask S T U
served_at server order = task.Tell server.door server.secret_file (told.Order order)

module _ {S T U : Type 0} (starts : Starts S T U) where
  -- the host's file, and the other one that a command names
  abbrev pub own : String Global → FileAt S
  own path = record { path = path; start = starts.host }

  abbrev pub other : String Global → FileAt T
  other path = record { path = path; start = starts.other }

  -- work on a host that is opened with the default settings
  abbrev pub on_host : String Global → ClockGiven → HostTask → LineTask S T U
  on_host path clock it = task.OnHost (own path) default_tuning clock it

  -- an order on the host of a file, by its clock, or to a server
  abbrev pub ordered_at : ClockTyped → HostOrder → Place → Result (LineTask S T U) Misfit
  ordered_at clock order (File path) = Ok (on_host path (clock_of clock) (asked.Order order))
  ordered_at clock order (Server door secret_file) =
      if is_free clock then Ok (task.Tell door secret_file (told.Order (ordered.Host order))) else Err NoClock

  abbrev pub maintained : Maintenance S T U → LineTask S T U
  maintained asked = task.Maintain asked

  abbrev pub backed_up_at : String Global → Place → LineTask S T U
  backed_up_at to (File path) = maintained (maintenance.Backup (own path) (other to))
  backed_up_at to (Server door secret_file) = task.Tell door secret_file (told.Order (ordered.Backup to))

  abbrev pub asked_of : PlaceGiven → Environment → Order → Result (LineTask S T U) Misfit
  asked_of given environment order = do
    server ← operators_at given.door given.secret_file environment
    Ok (served_at server order)

  -- an order on a host or its files, at its place, or at a server that alone carries it out
  abbrev pub order_task_of : PlaceGiven → ClockTyped → Environment → Order → Result (LineTask S T U) Misfit
  order_task_of given clock environment (ordered.Host order) = do
    place ← place_of given environment
    ordered_at clock order place
  order_task_of given clock environment (ordered.Backup to) = do
    place ← place_of given environment
    Ok (backed_up_at to place)
  order_task_of given clock environment ordered.Stop = asked_of given environment ordered.Stop
  order_task_of given clock environment (ordered.Server asked) = asked_of given environment (ordered.Server asked)

  -- the task of a command line
  abbrev pub task_of : Environment → Line → Result (LineTask S T U) Misfit
  task_of environment (line.Script limits tuning digest) = Ok (task.Script limits tuning digest)
  task_of environment (line.Init file limits digest) = Ok (task.Init (own file) limits digest)
  task_of environment (line.Ask given clock order) = order_task_of given clock environment order
  task_of environment (line.Check file) = Ok (maintained (maintenance.Check (own file)))
  task_of environment (line.Export file tenant to) = Ok (maintained (maintenance.Export (own file) tenant (other to) starts.made))
  task_of environment (line.Import file given leap) = Ok (maintained (maintenance.Import (own file) (other given) leap))
  task_of environment (line.Serve file leap tuning given) = do
    serving ← serving_of given
    Ok (task.OnHost (own file) tuning (record { at = None; leap = leap }) (asked.Serve serving))
  task_of environment (line.Tell door secret_file order) = do
    met ← door_of door
    Ok (task.Tell met secret_file (told.Line order))

-- the lines on files whose host isn't being served
abbrev pub is_maintenance : Line → Bool
is_maintenance (line.Check file) = true
is_maintenance (line.Export file tenant to) = true
is_maintenance (line.Import file given leap) = true
is_maintenance other = false

-- the lines of a server, and to one
abbrev pub is_of_server : Line → Bool
is_of_server (line.Serve file leap tuning given) = true
is_of_server (line.Tell door secret_file order) = true
is_of_server other = false
