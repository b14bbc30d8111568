-- Events of a host, as contracts see them.
use Rattle.std.specs.Prelude.{ℕ, Bool, List, Option, Some, None}
use Rattle.std.specs.String.{string_bytes}
use Rattle.bh_event.specs.declared.event.Command as command
use Rattle.bh_event.specs.declared.event.Command.TheVariants.{TenantAdd, Quota, TenantRemove, KeyAdd, KeyRemove, Usage, Keys}
use Rattle.bh_event.specs.declared.event.Event.{Event}
use Rattle.bh_event.specs.declared.event.Message as asked
use Rattle.bh_event.specs.declared.event.Message.TheVariants as event
use Rattle.bh_event.specs.declared.order.HostOrder.{HostOrder}
use Rattle.bh_event.specs.declared.order.HostOrder.TheVariants.{Command, Sweep, Report, Tenants}

-- an operator's order; names and secrets are bytes
pub data Order : Type 0 where
  AddTenant : (tenant : List ℕ) (quota : ℕ) → Order
  SetQuota : (tenant : List ℕ) (quota : ℕ) → Order
  RemoveTenant : (tenant : List ℕ) (with_objects : Bool) → Order
  AddKey : (tenant : List ℕ) (name : List ℕ) (secret : List ℕ) → Order
  RemoveKey : (tenant : List ℕ) (name : List ℕ) → Order
  ShowUsage : (tenant : List ℕ) → Order
  ShowKeys : (tenant : List ℕ) → Order

-- the tenant of an order
abbrev pub tenant_of : Order → List ℕ
tenant_of (AddTenant tenant quota) = tenant
tenant_of (SetQuota tenant quota) = tenant
tenant_of (RemoveTenant tenant with_objects) = tenant
tenant_of (AddKey tenant name secret) = tenant
tenant_of (RemoveKey tenant name) = tenant
tenant_of (ShowUsage tenant) = tenant
tenant_of (ShowKeys tenant) = tenant

-- the bytes of a request, an order, or an operator's request about all tenants: a sweep that
-- removes at most `limit`, a report, or a list
pub data Message : Type 0 where
  Requested : (bytes : List ℕ) → Message
  Ordered : (order : Order) → Message
  SweepOrdered : (limit : ℕ) → Message
  ReportOrdered : Message
  TenantsOrdered : Message

-- at a reading of the clock, in seconds since 1970
pub record Arrival : Type 0 where
  pub reading : ℕ
  pub message : Message

abbrev pub order_of : command.Command → Order
order_of (TenantAdd tenant quota) = AddTenant (string_bytes tenant) quota
order_of (Quota tenant quota) = SetQuota (string_bytes tenant) quota
order_of (TenantRemove tenant with_objects) = RemoveTenant (string_bytes tenant) with_objects
order_of (KeyAdd tenant name secret) = AddKey (string_bytes tenant) (string_bytes name) (string_bytes secret)
order_of (KeyRemove tenant name) = RemoveKey (string_bytes tenant) (string_bytes name)
order_of (Usage tenant) = ShowUsage (string_bytes tenant)
order_of (Keys tenant) = ShowKeys (string_bytes tenant)

-- what is ordered of a host, as a message
abbrev pub message_of : HostOrder → Message
message_of (Command command) = Ordered (order_of command)
message_of (Sweep limit) = SweepOrdered limit
message_of Report = ReportOrdered
message_of Tenants = TenantsOrdered

-- the tenant that a message names as its own: that of an order on a tenant
abbrev pub tenant_in : Message → Option (List ℕ)
tenant_in (Ordered order) = Some (tenant_of order)
tenant_in message = None

abbrev pub message_view : asked.Message → Message
message_view (event.Request bytes) = Requested bytes.items
message_view (event.Order order) = message_of order

abbrev pub arrival : Event → Arrival
arrival e = record { reading = e.reading; message = message_view e.message }
