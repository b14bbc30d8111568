-- The operators' orders: each with its word, and the fields whose values it has.
use Rattle.std.specs.Prelude.{Bool, true, false, List, ℕ, [], ◌∷◌, codes, find, Option}
use Rattle.std.specs.Option.{option_map_or}
use Rattle.std.specs.Str.{bytes_eq}
use Rattle.bh_event.specs.declared.name.Field.{Field}
use Rattle.bh_event.specs.declared.name.Field.TheVariants as field
use Rattle.bh_event.specs.declared.name.OrderName.{OrderName}
use Rattle.bh_event.specs.declared.name.OrderName.TheVariants.{TenantAdd, Quota, TenantRemove, KeyAdd, KeyRemove, Keys, Usage, Tenants}
use Rattle.bh_event.specs.declared.name.OrderName.TheVariants.{Report, Sweep, Backup, Stop, Health, Metrics, ClockAccept}
use Rattle.bh_event.specs.declared.name.Reach.{Reach}
use Rattle.bh_event.specs.declared.name.Reach.TheVariants.{Host, Files, Server}

abbrev pub word : OrderName → List ℕ
word TenantAdd = codes "tenant-add"
word Quota = codes "quota"
word TenantRemove = codes "tenant-remove"
word KeyAdd = codes "key-add"
word KeyRemove = codes "key-remove"
word Keys = codes "keys"
word Usage = codes "usage"
word Tenants = codes "tenants"
word Report = codes "report"
word Sweep = codes "sweep"
word Backup = codes "backup"
word Stop = codes "stop"
word Health = codes "health"
word Metrics = codes "metrics"
word ClockAccept = codes "clock-accept"

abbrev pub fields : OrderName → List Field
fields TenantAdd = field.Tenant ∷ field.Quota ∷ []
fields Quota = field.Tenant ∷ field.Quota ∷ []
fields TenantRemove = field.Tenant ∷ field.WithObjects ∷ []
fields KeyAdd = field.Tenant ∷ field.Name ∷ field.Secret ∷ []
fields KeyRemove = field.Tenant ∷ field.Name ∷ []
fields Keys = field.Tenant ∷ []
fields Usage = field.Tenant ∷ []
fields Sweep = field.Limit ∷ []
fields Backup = field.To ∷ []
fields other = []

-- a copy is of a host's files; a server is asked for what it does itself; any other is done on a host
abbrev pub reach : OrderName → Reach
reach Backup = Files
reach Stop = Server
reach Health = Server
reach Metrics = Server
reach ClockAccept = Server
reach other = Host

abbrev pub names : List OrderName
names = TenantAdd ∷ Quota ∷ TenantRemove ∷ KeyAdd ∷ KeyRemove ∷ Keys ∷ Usage ∷ Tenants ∷ Report ∷ Sweep ∷ Backup ∷ Stop ∷ Health
    ∷ Metrics ∷ ClockAccept ∷ []

abbrev pub named : List ℕ → Option OrderName
named text = find (λ name. bytes_eq (word name) text) names

abbrev is_on_host : Reach → Bool
is_on_host Host = true
is_on_host other = false

-- the word of an order on a host, which alone is an event
abbrev pub is_event_word : List ℕ → Bool
is_event_word text = option_map_or (λ name. is_on_host (reach name)) (named text) false
