-- A command line's meaning, by its matches.
use Rattle.std.specs.Prelude.{ℕ, Bool, false, ◌/◌, ◌^◌, ◌&&◌, List, codes, min, nat_le, unwrap_or}
use Rattle.std.specs.Prelude.{Option, Some, None, if◌then◌else◌}
use Rattle.std.specs.Option.{option_map_or}
use Rattle.std.specs.Str.{bytes_eq}
use Rattle.clap.specs.Words.{Kinds, Row, Text, fault_of, first_of, found_of, rows_of, subcommand_of}
use Rattle.clap.specs.declared.parser.matches.ArgMatches.{ArgMatches}
use Rattle.bh_event.specs.Given.{Given}
use Rattle.bh_event.specs.Orders.{instruction_by}
use Rattle.bh_event.specs.declared.name.OrderName.{OrderName}
use Rattle.bh_types.specs.Limits.{HostLimits, HostTuning}
use Rattle.bh_types.specs.declared.block_digest.BlockDigest.{BlockDigest}
use Rattle.bh_types.specs.declared.block_digest.BlockDigest.TheVariants.{Sha256, Fast}
use Rattle.bh_words.specs.Commands.{subcommand_named, the_command}
use Rattle.bh_words.specs.Lines.{CommandLine}
use Rattle.bh_words.specs.Lines as line
pub use Rattle.bh_words.specs.Numbers.{◌>>=◌, number_of}
use Rattle.bh_words.specs.Options.{option_of, word}
use Rattle.bh_words.specs.Sizes.{sized}
use Rattle.bh_words.specs.declared.lines.ClockTyped.{ClockTyped}
use Rattle.bh_words.specs.declared.lines.Leap.{Leap}
use Rattle.bh_words.specs.declared.lines.Leap.TheVariants.{Days, Any}
use Rattle.bh_words.specs.declared.options.OptionName.{OptionName}
use Rattle.bh_words.specs.declared.options.OptionName.TheVariants as option
use Rattle.bh_words.specs.declared.subcommands.Subcommand.{Subcommand}
use Rattle.bh_words.specs.declared.subcommands.Subcommand.TheVariants as subcommand

-- the values found for the options of a subcommand
abbrev pub rows_in : ArgMatches → List Row
rows_in m = rows_of (found_of m)

-- ---- the value of an option

abbrev pub text_at : OptionName → List Row → Option Text
text_at o rows = first_of (word o) rows

abbrev pub number_at : ℕ → OptionName → List Row → Option ℕ
number_at bits o rows = text_at o rows >>= number_of bits

-- an option without a value was given
abbrev pub is_given : OptionName → List Row → Bool
is_given o rows = option_map_or (λ text. bytes_eq text (codes "true")) (text_at o rows) false

-- as the values of an order's fields; an option without a value is always a choice
abbrev pub given_at : List Row → Given
given_at rows = record {
  text = λ field. text_at (option_of field) rows;
  number = λ field. number_at 64 (option_of field) rows;
  choice = λ field. Some (is_given (option_of field) rows);
}

-- a port's number and a socket's path, as far as they are given
abbrev pub door_at : OptionName → OptionName → List Row → line.Door
door_at port socket rows = record { port = number_at 16 port rows; socket = text_at socket rows }

abbrev pub doors_at : List Row → line.Doors
doors_at rows = record {
  clients = door_at option.Port option.Socket rows;
  socket_group = text_at option.SocketGroup rows;
  operators = door_at option.OperatorPort option.OperatorSocket rows;
  operator_secret_file = text_at option.OperatorSecretFile rows;
}

unfoldable pub serving_at : List Row → Option line.Serving
serving_at rows = do
  timeout ← number_at 64 option.Timeout rows
  connections ← number_at 32 option.Connections rows
  clock_step ← number_at 64 option.ClockStep rows
  Some (record {
    doors = doors_at rows;
    count = number_at 64 option.Count rows;
    log = is_given option.Log rows;
    timeout = timeout;
    connections = connections;
    spool = text_at option.Spool rows;
    clock_step = clock_step;
    keep_garbage = number_at 64 option.KeepGarbage rows;
  })

-- however far the clock is ahead of the last stamp, or at most some days, or one
abbrev pub leap_of : Bool → Option ℕ → Leap
leap_of force days = if force then Any else Days (unwrap_or days 1)

abbrev pub leap_at : List Row → Leap
leap_at rows = leap_of (is_given option.Force rows) (number_at 32 option.ClockLeap rows)

abbrev pub clock_at : List Row → ClockTyped
clock_at rows = record {
  at = number_at 64 option.At rows;
  days = number_at 32 option.ClockLeap rows;
  force = is_given option.Force rows;
}

abbrev pub place_at : List Row → line.Place
place_at rows = record {
  file = text_at option.HostFile rows;
  door = door_at option.OperatorPort option.OperatorSocket rows;
  secret_file = text_at option.OperatorSecretFile rows;
}

abbrev pub limits_of : ℕ → ℕ → Option HostLimits
limits_of min_part max_body =
    if nat_le min_part (2 ^ 30) && (nat_le 1 max_body && nat_le max_body (2 ^ 30))
    then Some (record { min_part = min_part; max_body = max_body }) else None

abbrev pub tuning_of : ℕ → ℕ → Option HostTuning
tuning_of block_size cache_blocks =
    if nat_le 1 block_size && (nat_le block_size 1_048_576 && nat_le cache_blocks 65_536)
    then Some (record { block_size = block_size; cache_blocks = cache_blocks }) else None

-- the number of whole blocks in some bytes, at most the maximum of the cache
abbrev pub blocks_in : ℕ → ℕ → ℕ
blocks_in bytes block_size = min (bytes / block_size) 65_536

-- if bytes are given, the number of blocks doesn't count
abbrev pub cache_of : ℕ → ℕ → Option ℕ → ℕ
cache_of block_size cache_blocks cache_bytes = option_map_or (λ bytes. blocks_in bytes block_size) cache_bytes cache_blocks

unfoldable pub limits_at : List Row → Option HostLimits
limits_at rows = do
  min_part ← number_at 64 option.MinPart rows
  max_body ← number_at 64 option.MaxBody rows
  limits_of min_part max_body

unfoldable pub tuning_at : List Row → Option HostTuning
tuning_at rows = do
  block_size ← number_at 64 option.BlockSize rows
  cache_blocks ← number_at 64 option.CacheBlocks rows
  tuning_of block_size (cache_of block_size cache_blocks (number_at 64 option.CacheBytes rows))

-- the digest function with this name
abbrev pub digest_of : Text → Option BlockDigest
digest_of text = if bytes_eq text (codes "sha256") then Some Sha256 else (if bytes_eq text (codes "fast") then Some Fast else None)

abbrev pub digest_at : List Row → Option (Option BlockDigest)
digest_at rows = do
  text ← text_at option.Digest rows
  Some (digest_of text)

-- ---- the subcommands

abbrev pub script : List Row → Option CommandLine
script rows = do
  limits ← limits_at rows
  tuning ← tuning_at rows
  digest ← digest_at rows
  Some (line.Script limits tuning digest)

abbrev pub init : List Row → Option CommandLine
init rows = do
  file ← text_at option.File rows
  limits ← limits_at rows
  digest ← digest_at rows
  Some (line.Init file limits digest)

-- an order with its place and clock
abbrev pub ask : OrderName → List Row → Option CommandLine
ask name rows = do
  order ← instruction_by name (given_at rows)
  Some (line.Ask (place_at rows) (clock_at rows) order)

abbrev pub check : List Row → Option CommandLine
check rows = do
  file ← text_at option.File rows
  Some (line.Check file)

abbrev pub export : List Row → Option CommandLine
export rows = do
  file ← text_at option.File rows
  tenant ← text_at option.Tenant rows
  to ← text_at option.To rows
  Some (line.Export file tenant to)

abbrev pub import_ : List Row → Option CommandLine
import_ rows = do
  file ← text_at option.File rows
  given ← text_at option.From rows
  Some (line.Import file given (leap_at rows))

abbrev pub serve : List Row → Option CommandLine
serve rows = do
  file ← text_at option.File rows
  tuning ← tuning_at rows
  serving ← serving_at rows
  Some (line.Serve file (leap_at rows) tuning serving)

abbrev pub tell : List Row → Option CommandLine
tell rows = do
  order ← text_at option.Order rows
  Some (line.Tell (door_at option.Port option.Socket rows) (text_at option.SecretFile rows) order)

abbrev pub line_at : Subcommand → List Row → Option CommandLine
line_at subcommand.Script = script
line_at subcommand.Init = init
line_at (subcommand.Order name) = ask name
line_at subcommand.Check = check
line_at subcommand.Export = export
line_at subcommand.Import = import_
line_at subcommand.Serve = serve
line_at subcommand.Tell = tell

-- the line of a subcommand's name and matches
abbrev pub line_in : Text × List Row → Option CommandLine
line_in met = do
  subcommand ← subcommand_named met.0
  line_at subcommand met.1

-- the line of a subcommand's matches
abbrev pub line_of : Option (Text × List Row) → Option CommandLine
line_of met = met >>= line_in

-- the line of some words, by `clap`'s matches for the program's command; sizes may have a unit
unfoldable pub told_by : List Text → Option CommandLine
told_by words = line_of (subcommand_of the_command (sized words))

-- `clap`'s first fault in some words, by its kinds; none if it accepts them
unfoldable pub faults_of : List Text → Kinds
faults_of words = fault_of the_command (sized words)
