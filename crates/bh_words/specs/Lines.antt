-- A parsed command line, as contracts see it.
use Rattle.std.specs.Prelude.{ℕ, Bool, List, Option, option_map}
use Rattle.std.specs.String.{string_bytes}
use Rattle.bh_event.specs.Orders.{Instruction, instruction_of}
use Rattle.bh_types.specs.Limits.{HostLimits, HostTuning}
use Rattle.bh_types.specs.declared.block_digest.BlockDigest.{BlockDigest}
use Rattle.bh_words.specs.declared.lines.ClockTyped.{ClockTyped}
use Rattle.bh_words.specs.declared.lines.DoorGiven.{DoorGiven}
use Rattle.bh_words.specs.declared.lines.DoorsGiven.{DoorsGiven}
use Rattle.bh_words.specs.declared.lines.Leap.{Leap}
use Rattle.bh_words.specs.declared.lines.Line.{Line}
use Rattle.bh_words.specs.declared.lines.Line.TheVariants as line
use Rattle.bh_words.specs.declared.lines.PlaceGiven.{PlaceGiven}
use Rattle.bh_words.specs.declared.lines.ServeGiven.{ServeGiven}

abbrev pub Octets : Type 0
Octets = List ℕ

-- where a server listens, as far as it is given
pub record Door : Type 0 where
  pub port : Option ℕ
  pub socket : Option Octets

-- where it listens for clients and for operators, and the file of the operators' secret
pub record Doors : Type 0 where
  pub clients : Door
  pub socket_group : Option Octets
  pub operators : Door
  pub operator_secret_file : Option Octets

-- how a host is served; `count` is the number of requests and lines, if one is given
pub record Serving : Type 0 where
  pub doors : Doors
  pub count : Option ℕ
  pub log : Bool
  pub timeout : ℕ
  pub connections : ℕ
  pub spool : Option Octets
  pub clock_step : ℕ
  pub keep_garbage : Option ℕ

-- where an order is carried out, as far as it is given
pub record Place : Type 0 where
  pub file : Option Octets
  pub door : Door
  pub secret_file : Option Octets

-- a subcommand with its values; `digest` is none if no function has that name
pub data CommandLine : Type 0 where
  Script : (limits : HostLimits) (tuning : HostTuning) (digest : Option BlockDigest) → CommandLine
  Init : (file : Octets) (limits : HostLimits) (digest : Option BlockDigest) → CommandLine
  Ask : (place : Place) (clock : ClockTyped) (order : Instruction) → CommandLine
  Check : (file : Octets) → CommandLine
  Export : (file : Octets) (tenant : Octets) (to : Octets) → CommandLine
  Import : (file : Octets) (given : Octets) (leap : Leap) → CommandLine
  Serve : (file : Octets) (leap : Leap) (tuning : HostTuning) (serving : Serving) → CommandLine
  Tell : (door : Door) (secret_file : Option Octets) (order : Octets) → CommandLine

abbrev pub door : DoorGiven → Door
door given = record { port = given.port; socket = option_map string_bytes given.socket }

abbrev pub doors : DoorsGiven → Doors
doors given = record {
  clients = door given.clients;
  socket_group = option_map string_bytes given.socket_group;
  operators = door given.operators;
  operator_secret_file = option_map string_bytes given.operator_secret_file;
}

abbrev pub serving : ServeGiven → Serving
serving given = record {
  doors = doors given.doors;
  count = given.count;
  log = given.log;
  timeout = given.timeout;
  connections = given.connections;
  spool = option_map string_bytes given.spool;
  clock_step = given.clock_step;
  keep_garbage = given.keep_garbage;
}

abbrev pub place : PlaceGiven → Place
place given = record {
  file = option_map string_bytes given.file;
  door = door given.door;
  secret_file = option_map string_bytes given.secret_file;
}

abbrev pub command_line : Line → CommandLine
command_line (line.Script limits tuning digest) = Script limits tuning digest
command_line (line.Init file limits digest) = Init (string_bytes file) limits digest
command_line (line.Ask given clock order) = Ask (place given) clock (instruction_of order)
command_line (line.Check file) = Check (string_bytes file)
command_line (line.Export file tenant to) = Export (string_bytes file) (string_bytes tenant) (string_bytes to)
command_line (line.Import file given leap) = Import (string_bytes file) (string_bytes given) leap
command_line (line.Serve file leap tuning given) = Serve (string_bytes file) leap tuning (serving given)
command_line (line.Tell at secret order) = Tell (door at) (option_map string_bytes secret) (string_bytes order)
