-- An operator's order, by the values of its fields: a line for each.
use Rattle.std.specs.Prelude.{ℕ, nat_le, List, Option, Some, None, if◌then◌else◌}
use Rattle.std.specs.String.{string_bytes}
use Rattle.bh_event.specs.Events.{Order, AddTenant, SetQuota, RemoveTenant, AddKey, RemoveKey, ShowUsage, ShowKeys}
use Rattle.bh_event.specs.Events.{Message, Ordered, SweepOrdered, ReportOrdered, TenantsOrdered, Arrival, message_of}
use Rattle.bh_event.specs.Given.{Given, ◌>>=◌}
use Rattle.bh_event.specs.declared.name.Field.TheVariants as field
use Rattle.bh_event.specs.declared.name.OrderName.{OrderName}
use Rattle.bh_event.specs.declared.name.OrderName.TheVariants as name
use Rattle.bh_event.specs.declared.order.Asked.{Asked}
use Rattle.bh_event.specs.declared.order.Asked.TheVariants.{Health, Metrics, ClockAccept}
use Rattle.bh_event.specs.declared.order.Order.{Order as OrderRead}
use Rattle.bh_event.specs.declared.order.Order.TheVariants.{Host, Backup, Stop, Server}

-- what an order tells: what is done on a host, which is an event; to copy a host to a new file; to
-- end a server; or what a server is asked about itself
pub data Instruction : Type 0 where
  ToDo : (message : Message) → Instruction
  ToCopy : (to : List ℕ) → Instruction
  ToStop : Instruction
  ToAnswer : (asked : Asked) → Instruction

abbrev pub instruction_of : OrderRead → Instruction
instruction_of (Host order) = ToDo (message_of order)
instruction_of (Backup to) = ToCopy (string_bytes to)
instruction_of Stop = ToStop
instruction_of (Server asked) = ToAnswer asked

-- at a reading of the clock, in seconds since 1970
abbrev pub arrival_at : ℕ → Message → Arrival
arrival_at reading message = record { reading = reading; message = message }

abbrev told : Order → Option Instruction
told order = Some (ToDo (Ordered order))

-- a limit is at most 4294967295
abbrev pub sweep_limited : ℕ → Option Instruction
sweep_limited limit = if nat_le limit 4_294_967_295 then Some (ToDo (SweepOrdered limit)) else None

-- each order needs a value for each of its fields
abbrev pub instruction_by : OrderName → Given → Option Instruction
instruction_by name.TenantAdd given = do
  tenant ← given.text field.Tenant
  quota ← given.number field.Quota
  told (AddTenant tenant quota)
instruction_by name.Quota given = do
  tenant ← given.text field.Tenant
  quota ← given.number field.Quota
  told (SetQuota tenant quota)
instruction_by name.TenantRemove given = do
  tenant ← given.text field.Tenant
  with_objects ← given.choice field.WithObjects
  told (RemoveTenant tenant with_objects)
instruction_by name.KeyAdd given = do
  tenant ← given.text field.Tenant
  key ← given.text field.Name
  secret ← given.text field.Secret
  told (AddKey tenant key secret)
instruction_by name.KeyRemove given = do
  tenant ← given.text field.Tenant
  key ← given.text field.Name
  told (RemoveKey tenant key)
instruction_by name.Keys given = do
  tenant ← given.text field.Tenant
  told (ShowKeys tenant)
instruction_by name.Usage given = do
  tenant ← given.text field.Tenant
  told (ShowUsage tenant)
instruction_by name.Tenants given = Some (ToDo TenantsOrdered)
instruction_by name.Report given = Some (ToDo ReportOrdered)
instruction_by name.Sweep given = do
  limit ← given.number field.Limit
  sweep_limited limit
instruction_by name.Backup given = do
  to ← given.text field.To
  Some (ToCopy to)
instruction_by name.Stop given = Some ToStop
instruction_by name.Health given = Some (ToAnswer Health)
instruction_by name.Metrics given = Some (ToAnswer Metrics)
instruction_by name.ClockAccept given = Some (ToAnswer ClockAccept)
