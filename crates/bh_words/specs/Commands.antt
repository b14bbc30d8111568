-- The program's subcommands, as `clap` describes them.
use Rattle.std.specs.Prelude.{List, [], ◌∷◌, ◌++◌, codes, find, map, fold, true, false, Option, option_map}
use Rattle.std.specs.Option.{option_or}
use Rattle.std.specs.Str.{bytes_eq}
use Rattle.clap.specs.Words.{App, Shape, Text, with_rule, with_subcommand}
use Rattle.clap.specs.Simple.{new_shape}
use Rattle.bh_event.specs.Names.{fields, named, reach}
use Rattle.bh_event.specs.Names as names
use Rattle.bh_event.specs.declared.name.OrderName.{OrderName}
use Rattle.bh_event.specs.declared.name.OrderName.TheVariants as order
use Rattle.bh_event.specs.declared.name.Reach.{Reach}
use Rattle.bh_event.specs.declared.name.Reach.TheVariants as on
use Rattle.bh_words.specs.Options.{option_of, rule}
use Rattle.bh_words.specs.declared.options.OptionName.{OptionName}
use Rattle.bh_words.specs.declared.options.OptionName.TheVariants.{File, HostFile, To, From, Tenant, At, ClockLeap, Force, Port, Socket}
use Rattle.bh_words.specs.declared.options.OptionName.TheVariants.{SocketGroup, Count, Log, Timeout, Connections, Spool, ClockStep}
use Rattle.bh_words.specs.declared.options.OptionName.TheVariants.{MinPart, MaxBody, BlockSize, CacheBlocks, CacheBytes, Digest}
use Rattle.bh_words.specs.declared.options.OptionName.TheVariants.{OperatorPort, OperatorSocket, OperatorSecretFile, SecretFile}
use Rattle.bh_words.specs.declared.options.OptionName.TheVariants.{KeepGarbage, Order}
use Rattle.bh_words.specs.declared.subcommands.Subcommand.{Subcommand}
use Rattle.bh_words.specs.declared.subcommands.Subcommand.TheVariants as subcommand

abbrev pub word : Subcommand → Text
word subcommand.Script = codes "script"
word subcommand.Init = codes "init"
word (subcommand.Order name) = names.word name
word subcommand.Check = codes "check"
word subcommand.Export = codes "export"
word subcommand.Import = codes "import"
word subcommand.Serve = codes "serve"
word subcommand.Tell = codes "tell"

-- ---- options

-- an order is carried out on a file or by a server, or by a server alone
abbrev server : List OptionName
server = OperatorPort ∷ OperatorSocket ∷ OperatorSecretFile ∷ []

abbrev clock : List OptionName
clock = At ∷ ClockLeap ∷ Force ∷ []

abbrev pub place_options : Reach → List OptionName
place_options on.Host = HostFile ∷ server ++ clock
place_options on.Files = HostFile ∷ server
place_options on.Server = server

-- each field's option, and then those of where an order is carried out
abbrev pub order_options : OrderName → List OptionName
order_options name = map option_of (fields name) ++ place_options (reach name)

abbrev pub options : Subcommand → List OptionName
options subcommand.Script = BlockSize ∷ MinPart ∷ MaxBody ∷ CacheBlocks ∷ CacheBytes ∷ Digest ∷ []
options subcommand.Init = File ∷ MinPart ∷ MaxBody ∷ Digest ∷ []
options (subcommand.Order name) = order_options name
options subcommand.Check = File ∷ []
options subcommand.Export = File ∷ Tenant ∷ To ∷ []
options subcommand.Import = File ∷ From ∷ ClockLeap ∷ Force ∷ []
options subcommand.Serve = File ∷ Port ∷ Socket ∷ SocketGroup ∷ Count ∷ Log ∷ Timeout ∷ Connections ∷ Spool ∷ ClockLeap ∷ ClockStep
    ∷ Force ∷ BlockSize ∷ CacheBlocks ∷ CacheBytes ∷ KeepGarbage ∷ OperatorPort ∷ OperatorSocket ∷ OperatorSecretFile ∷ []
options subcommand.Tell = Port ∷ Socket ∷ SecretFile ∷ Order ∷ []

-- ---- names

-- those that are no order
abbrev own_subcommands : List Subcommand
own_subcommands = subcommand.Script ∷ subcommand.Init ∷ subcommand.Check ∷ subcommand.Export ∷ subcommand.Import ∷ subcommand.Serve
    ∷ subcommand.Tell ∷ []

abbrev pub own_named : Text → Option Subcommand
own_named name = find (λ s. bytes_eq (word s) name) own_subcommands

abbrev pub subcommand_named : Text → Option Subcommand
subcommand_named name = option_or (own_named name) (option_map subcommand.Order (named name))

-- all, in the order of the help
abbrev pub subcommands : List Subcommand
subcommands = subcommand.Script ∷ subcommand.Init ∷ subcommand.Order order.TenantAdd ∷ subcommand.Order order.Quota
    ∷ subcommand.Order order.TenantRemove ∷ subcommand.Order order.KeyAdd ∷ subcommand.Order order.KeyRemove ∷ subcommand.Order order.Keys
    ∷ subcommand.Order order.Usage ∷ subcommand.Order order.Tenants ∷ subcommand.Order order.Report ∷ subcommand.Check
    ∷ subcommand.Order order.Sweep ∷ subcommand.Order order.Backup ∷ subcommand.Export ∷ subcommand.Import ∷ subcommand.Serve
    ∷ subcommand.Tell ∷ subcommand.Order order.Stop ∷ subcommand.Order order.Health ∷ subcommand.Order order.Metrics
    ∷ subcommand.Order order.ClockAccept ∷ []

-- a command with these options
abbrev pub shape : Text → List OptionName → Shape
shape name chosen = record (new_shape name) { rules = map rule chosen }

-- a command with one more option, and with one more subcommand
abbrev pub with_options : App → List OptionName → App
with_options = fold (λ a o. with_rule a (rule o))

abbrev pub with_subcommands : App → List Subcommand → App
with_subcommands = fold (λ a s. with_subcommand a (shape (word s) (options s)))

-- the program's command: a subcommand is required; without any word it prints its help, and on
-- request its version
abbrev pub the_command : App
the_command = record {
  top = record (new_shape (codes "bucketd")) {
    is_leaf = false;
    arg_required_else_help = true;
    subcommand_required = true;
    has_version = true;
  };
  subs = map (λ s. shape (word s) (options s)) subcommands;
}
