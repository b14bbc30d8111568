-- The options of the subcommands, as `clap` describes them: each has one value, or none.
use Rattle.std.specs.Prelude.{ℕ, ◌-◌, ◌*◌, ◌^◌, [], ◌∷◌, codes, decimal, true, Some}
use Rattle.clap.specs.Words.{Rule, Text, new_rule}
use Rattle.clap.specs.declared.builder.action.ArgAction.TheVariants.{SetTrue}
use Rattle.clap.specs.declared.builder.value_parser.ValueParser.TheVariants.{Unsigned}
use Rattle.bh_event.specs.declared.name.Field.{Field}
use Rattle.bh_event.specs.declared.name.Field.TheVariants as field
use Rattle.bh_types.specs.Limits.{default_limits, default_tuning}
use Rattle.bh_words.specs.declared.options.OptionName.{OptionName}
use Rattle.bh_words.specs.declared.options.OptionName.TheVariants.{File, HostFile, To, From, Tenant, Name, Secret, Quota, WithObjects, At}
use Rattle.bh_words.specs.declared.options.OptionName.TheVariants.{ClockLeap, Force, Limit, Port, Socket, SocketGroup, Count, Log}
use Rattle.bh_words.specs.declared.options.OptionName.TheVariants.{Timeout, Connections, Spool, ClockStep, MinPart, MaxBody}
use Rattle.bh_words.specs.declared.options.OptionName.TheVariants.{BlockSize, CacheBlocks, CacheBytes, KeepGarbage, Digest, OperatorPort}
use Rattle.bh_words.specs.declared.options.OptionName.TheVariants.{OperatorSocket, OperatorSecretFile, SecretFile, Order}

-- an option is written `--word value` or `--word=value`
abbrev pub word : OptionName → Text
word File = codes "file"
word HostFile = codes "file"
word To = codes "to"
word From = codes "from"
word Tenant = codes "tenant"
word Name = codes "name"
word Secret = codes "secret"
word Quota = codes "quota"
word WithObjects = codes "with-objects"
word At = codes "at"
word ClockLeap = codes "clock-leap"
word Force = codes "force"
word Limit = codes "limit"
word Port = codes "port"
word Socket = codes "socket"
word SocketGroup = codes "socket-group"
word Count = codes "count"
word Log = codes "log"
word Timeout = codes "timeout"
word Connections = codes "connections"
word Spool = codes "spool"
word ClockStep = codes "clock-step"
word MinPart = codes "min-part"
word MaxBody = codes "max-body"
word BlockSize = codes "block-size"
word CacheBlocks = codes "cache-blocks"
word CacheBytes = codes "cache-bytes"
word KeepGarbage = codes "keep-garbage"
word Digest = codes "digest"
word OperatorPort = codes "operator-port"
word OperatorSocket = codes "operator-socket"
word OperatorSecretFile = codes "operator-secret-file"
word SecretFile = codes "secret-file"
word Order = codes "LINE"

-- the option that gives a field's value
abbrev pub option_of : Field → OptionName
option_of field.Tenant = Tenant
option_of field.Quota = Quota
option_of field.WithObjects = WithObjects
option_of field.Name = Name
option_of field.Secret = Secret
option_of field.Limit = Limit
option_of field.To = To

abbrev pub described : OptionName → Rule
described o = record (new_rule (word o)) { long = Some (word o) }

-- the option is required
abbrev pub required : Rule → Rule
required a = record a { required = true }

-- a word by its place, without a name before it
abbrev pub placed : OptionName → Rule
placed o = required (new_rule (word o))

-- the value is any text
abbrev pub text : OptionName → Rule
text o = required (described o)

-- the value is a number from `least` to `most` in decimal digits
abbrev pub number : OptionName → ℕ → ℕ → Rule
number o least most = record (described o) { parser = Some (Unsigned least most) }

-- the option has no value: it is given, or it isn't
abbrev pub flag : OptionName → Rule
flag o = record (described o) { action = Some SetTrue }

-- a missing option has this value
abbrev pub preset : ℕ → Rule → Rule
preset value a = record a { defaults = decimal value ∷ [] }

-- so has one whose value is any text
abbrev pub worded : Text → Rule → Rule
worded value a = record a { defaults = value ∷ [] }

-- the maximum of 64 bits
abbrev pub greatest : ℕ
greatest = 2 ^ 64 - 1

abbrev pub rule : OptionName → Rule
rule File = text File
rule HostFile = described HostFile
rule To = text To
rule From = text From
rule Tenant = text Tenant
rule Name = text Name
rule Secret = text Secret
rule Quota = required (number Quota 0 greatest)
rule WithObjects = flag WithObjects
rule At = number At 0 greatest
rule ClockLeap = number ClockLeap 0 3_000_000
rule Force = flag Force
rule Limit = required (number Limit 0 4_294_967_295)
rule Port = number Port 0 65_535
rule Socket = described Socket
rule SocketGroup = described SocketGroup
rule Count = number Count 1 4_294_967_295
rule Log = flag Log
rule Timeout = preset 30 (number Timeout 1 3_600)
rule Connections = preset 4_096 (number Connections 1 65_536)
rule Spool = described Spool
rule ClockStep = preset 3_600 (number ClockStep 1 4_294_967_295)
rule MinPart = preset default_limits.min_part (number MinPart 0 (2 ^ 30))
rule MaxBody = preset default_limits.max_body (number MaxBody 1 (2 ^ 30))
rule BlockSize = preset default_tuning.block_size (number BlockSize 1 1_048_576)
rule CacheBlocks = preset default_tuning.cache_blocks (number CacheBlocks 0 65_536)
rule CacheBytes = number CacheBytes 0 (65_536 * 1_048_576)
rule KeepGarbage = number KeepGarbage 0 greatest
rule Digest = worded (codes "sha256") (described Digest)
rule OperatorPort = number OperatorPort 0 65_535
rule OperatorSocket = described OperatorSocket
rule OperatorSecretFile = described OperatorSecretFile
rule SecretFile = described SecretFile
rule Order = placed Order
