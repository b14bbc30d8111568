-- The JSON object that tells an order, its members in the order of their keys.
use Rattle.std.specs.Prelude.{ℕ, ◌≤◌, Bool, List, codes}
use Rattle.serde_json.specs.Data.{Data, Members, null, number, unsigned, boolean, string, object, member, no_members}
use Rattle.bh_event.specs.Events.{Order, AddTenant, SetQuota, RemoveTenant, AddKey, RemoveKey, ShowUsage, ShowKeys}
use Rattle.bh_event.specs.Events.{Message, Requested, Ordered}
use Rattle.bh_event.specs.Events.{SweepOrdered, ReportOrdered, TenantsOrdered}
use Rattle.bh_event.specs.Orders.{Instruction, ToDo, ToCopy, ToStop, ToAnswer}
use Rattle.bh_event.specs.declared.order.Asked.{Asked}
use Rattle.bh_event.specs.declared.order.Asked.TheVariants.{Health, Metrics, ClockAccept}

-- an object with `at`, which a server doesn't look at
abbrev told : Members → Data
told others = object (member (codes "at") (number (unsigned 0)) others)

abbrev pub tenant_add : List ℕ → ℕ → Data
tenant_add tenant quota =
    told (member (codes "op") (string (codes "tenant-add")) (member (codes "quota") (number (unsigned quota))
    (member (codes "tenant") (string tenant) no_members)))

abbrev pub quota_set : List ℕ → ℕ → Data
quota_set tenant quota =
    told (member (codes "op") (string (codes "quota")) (member (codes "quota") (number (unsigned quota))
    (member (codes "tenant") (string tenant) no_members)))

abbrev pub tenant_remove : List ℕ → Bool → Data
tenant_remove tenant with_objects =
    told (member (codes "op") (string (codes "tenant-remove")) (member (codes "tenant") (string tenant)
    (member (codes "with_objects") (boolean with_objects) no_members)))

abbrev pub key_add : List ℕ → List ℕ → List ℕ → Data
key_add tenant name secret =
    told (member (codes "name") (string name) (member (codes "op") (string (codes "key-add"))
    (member (codes "secret") (string secret) (member (codes "tenant") (string tenant) no_members))))

abbrev pub key_remove : List ℕ → List ℕ → Data
key_remove tenant name =
    told (member (codes "name") (string name) (member (codes "op") (string (codes "key-remove"))
    (member (codes "tenant") (string tenant) no_members)))

abbrev pub usage : List ℕ → Data
usage tenant = told (member (codes "op") (string (codes "usage")) (member (codes "tenant") (string tenant) no_members))

abbrev pub keys : List ℕ → Data
keys tenant = told (member (codes "op") (string (codes "keys")) (member (codes "tenant") (string tenant) no_members))

abbrev pub sweep : ℕ → Data
sweep limit = told (member (codes "limit") (number (unsigned limit)) (member (codes "op") (string (codes "sweep")) no_members))

abbrev pub report : Data
report = told (member (codes "op") (string (codes "report")) no_members)

abbrev pub tenants : Data
tenants = told (member (codes "op") (string (codes "tenants")) no_members)

abbrev pub backup : List ℕ → Data
backup to = told (member (codes "op") (string (codes "backup")) (member (codes "to") (string to) no_members))

-- an order that a server alone carries out has no `at`
abbrev pub server_object : List ℕ → Data
server_object op = object (member (codes "op") (string op) no_members)

abbrev pub asked_word : Asked → List ℕ
asked_word Health = codes "health"
asked_word Metrics = codes "metrics"
asked_word ClockAccept = codes "clock-accept"

abbrev pub object_of : Order → Data
object_of (AddTenant tenant bytes) = tenant_add tenant bytes
object_of (SetQuota tenant bytes) = quota_set tenant bytes
object_of (RemoveTenant tenant with_objects) = tenant_remove tenant with_objects
object_of (AddKey tenant name secret) = key_add tenant name secret
object_of (RemoveKey tenant name) = key_remove tenant name
object_of (ShowUsage tenant) = usage tenant
object_of (ShowKeys tenant) = keys tenant

-- the greatest limit of a sweep
abbrev pub greatest_limit : ℕ
greatest_limit = 4_294_967_295

abbrev pub IsLimited : Message → Type 0
IsLimited (SweepOrdered limit) = limit ≤ greatest_limit
IsLimited other = Unit {0}

-- a request is told by no object
abbrev pub object_in : Message → Data
object_in (Requested bytes) = null
object_in (Ordered order) = object_of order
object_in (SweepOrdered limit) = sweep limit
object_in ReportOrdered = report
object_in TenantsOrdered = tenants

abbrev pub object_of_order : Instruction → Data
object_of_order (ToDo message) = object_in message
object_of_order (ToCopy to) = backup to
object_of_order ToStop = server_object (codes "stop")
object_of_order (ToAnswer asked) = server_object (asked_word asked)

abbrev pub IsInRange : Instruction → Type 0
IsInRange (ToDo message) = IsLimited message
IsInRange other = Unit {0}
