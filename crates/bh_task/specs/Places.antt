-- Where an operator's order is carried out: as typed, or else as the environment says.
use Rattle.std.specs.Prelude.{ℕ, ◌||◌, is_some, if◌then◌else◌, Option, Some, None, Result, Ok, Err}
use Rattle.std.specs.String.{string_bytes}
use Rattle.std.specs.declared.alloc.Global.{Global}
use Rattle.std.specs.declared.string.String.{String}
use Rattle.bh_words.specs.Readings.{number_of}
use Rattle.bh_words.specs.declared.lines.DoorGiven.{DoorGiven}
use Rattle.bh_words.specs.declared.lines.PlaceGiven.{PlaceGiven}
use Rattle.bh_task.specs.declared.line_task.Door.{Door}
use Rattle.bh_task.specs.declared.line_task.Door.TheVariants.{Port, Socket}
use Rattle.bh_task.specs.declared.line_task.OperatorGiven.{OperatorGiven}
use Rattle.bh_task.specs.declared.misfit.Misfit.{Misfit}
use Rattle.bh_task.specs.declared.misfit.Misfit.TheVariants.{NoOperatorDoor, TwoOperatorDoors, NoPlace, NoServer, TwoPlaces, NoPort}
use Rattle.bh_task.specs.declared.places.Environment.{Environment}
use Rattle.bh_task.specs.declared.places.Place.{Place}
use Rattle.bh_task.specs.declared.places.Place.TheVariants.{File, Server}

abbrev Text : Type 0
Text = String Global

abbrev pub first_of : Option Text → Option Text → Option Text
first_of (Some typed) other = Some typed
first_of None other = other

-- the secret's file is the typed one, or else the other
abbrev pub server : Door → Option Text → Option Text → Place
server door typed other = Server door (first_of typed other)

abbrev server_by : Option ℕ → Option Text → Option Text → Result Place Misfit
server_by (Some port) typed other = Ok (server (Port port) typed other)
server_by None typed other = Err NoPort

-- by the digits of its port
abbrev pub server_at : Text → Option Text → Option Text → Result Place Misfit
server_at port typed other = server_by (number_of 16 (string_bytes port)) typed other

abbrev place_from : Option Text → Option Text → Option Text → Option Text → Result Place Misfit
place_from None None secret_file typed = Err NoPlace
place_from (Some file) (Some port) secret_file typed = Err TwoPlaces
place_from None (Some port) secret_file typed = server_at port typed secret_file
place_from (Some file) None secret_file (Some typed) = Err NoOperatorDoor
place_from (Some file) None secret_file None = Ok (File file)

-- by the environment; but for a secret's file nothing is typed
abbrev pub place_in : Environment → Option Text → Result Place Misfit
place_in environment typed = place_from environment.file environment.operator_port environment.secret_file typed

-- a file is typed
abbrev pub file_of : Text → Option ℕ → Option Text → Option Text → Result Place Misfit
file_of file port socket secret_file =
    if is_some port || is_some socket then Err TwoPlaces else if is_some secret_file then Err NoOperatorDoor else Ok (File file)

-- none is
abbrev pub server_of : Option ℕ → Option Text → Option Text → Environment → Result Place Misfit
server_of None None typed environment = place_in environment typed
server_of (Some port) (Some path) typed environment = Err TwoOperatorDoors
server_of (Some port) None typed environment = Ok (server (Port port) typed environment.secret_file)
server_of None (Some path) typed environment = Ok (server (Socket path) typed environment.secret_file)

abbrev typed_place : Option Text → Option ℕ → Option Text → Option Text → Environment → Result Place Misfit
typed_place (Some file) port socket secret_file environment = file_of file port socket secret_file
typed_place None port socket secret_file environment = server_of port socket secret_file environment

abbrev pub place_of : PlaceGiven → Environment → Result Place Misfit
place_of given environment = typed_place given.file given.door.port given.door.socket given.secret_file environment

-- ---- what a server alone does: a file of the environment doesn't count

abbrev door_by : Option ℕ → Result Door Misfit
door_by (Some port) = Ok (Port port)
door_by None = Err NoPort

-- by the digits of its port
abbrev pub door_at : Text → Result Door Misfit
door_at port = door_by (number_of 16 (string_bytes port))

abbrev pub environment_door : Option Text → Result Door Misfit
environment_door (Some port) = door_at port
environment_door None = Err NoServer

-- the typed port or socket, or else the environment's port
abbrev pub operator_door : Option ℕ → Option Text → Option Text → Result Door Misfit
operator_door None None other = environment_door other
operator_door (Some port) (Some path) other = Err TwoOperatorDoors
operator_door (Some port) None other = Ok (Port port)
operator_door None (Some path) other = Ok (Socket path)

abbrev with_secret : Result Door Misfit → Option Text → Result OperatorGiven Misfit
with_secret (Ok door) secret_file = Ok (record { door = door; secret_file = secret_file })
with_secret (Err misfit) secret_file = Err misfit

abbrev pub operators_at : DoorGiven → Option Text → Environment → Result OperatorGiven Misfit
operators_at given typed environment =
    with_secret (operator_door given.port given.socket environment.operator_port) (first_of typed environment.secret_file)
