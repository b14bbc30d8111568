-- What a server reads in the object of an order.
use Rattle.std.proofs.Common.{◌≡◌, ◌≤◌, ℕ, List, Some, refl, arith, le-leb}
use Rattle.std.proofs.lemmas.Str.{is_utf8-from_IsUtf8}
use Rattle.std.specs.Str.{IsUtf8}
use Rattle.std.specs.String.{string_bytes}
use Rattle.serde_json.specs.Data.{Data, depth}
use Rattle.serde_json.specs.Read.{read, max_depth}
use Rattle.serde_json.proofs.OnLiterals.{serde_json_on_literals}
use Rattle.bh_event.specs.Events.{Order, AddTenant, SetQuota, RemoveTenant, AddKey, RemoveKey, ShowUsage, ShowKeys, Ordered, order_of}
use Rattle.bh_event.specs.Events.{SweepOrdered, ReportOrdered, TenantsOrdered}
use Rattle.bh_event.specs.Lines.{order_in, ordered_by, value_in}
use Rattle.bh_event.specs.Orders.{Instruction, ToDo, ToCopy, ToStop, ToAnswer, instruction_of}
use Rattle.bh_event.specs.declared.order.Asked.{Asked}
use Rattle.bh_event.specs.declared.order.Asked.TheVariants.{Health, Metrics, ClockAccept}
use Rattle.bh_event.specs.declared.order.HostOrder.TheVariants.{Command, Sweep, Report, Tenants}
use Rattle.bh_event.specs.declared.order.Order.{Order as OrderTold}
use Rattle.bh_event.specs.declared.order.Order.TheVariants.{Host, Backup, Stop, Server}
use Rattle.bh_telling.specs.Objects.{IsInRange, object_of_order}

-- ---- what is read

command_read : (order : Order) → order_in (object_of_order (ToDo (Ordered order))) ≡ Some (ToDo (Ordered order))
unfolding serde_json_on_literals
command_read (AddTenant tenant quota) = refl
command_read (SetQuota tenant quota) = refl
command_read (RemoveTenant tenant with_objects) = refl
command_read (AddKey tenant name secret) = refl
command_read (RemoveKey tenant name) = refl
command_read (ShowUsage tenant) = refl
command_read (ShowKeys tenant) = refl

sweep_read : (limit : ℕ) → limit ≤ 4_294_967_295 → order_in (object_of_order (ToDo (SweepOrdered limit))) ≡ Some (ToDo (SweepOrdered limit))
unfolding serde_json_on_literals
sweep_read limit most = rw (le-leb limit 4_294_967_295 most) refl

report_read : order_in (object_of_order (ToDo ReportOrdered)) ≡ Some (ToDo ReportOrdered)
unfolding serde_json_on_literals
report_read = refl

tenants_read : order_in (object_of_order (ToDo TenantsOrdered)) ≡ Some (ToDo TenantsOrdered)
unfolding serde_json_on_literals
tenants_read = refl

backup_read : (to : List ℕ) → order_in (object_of_order (ToCopy to)) ≡ Some (ToCopy to)
unfolding serde_json_on_literals
backup_read to = refl

stop_read : order_in (object_of_order ToStop) ≡ Some ToStop
unfolding serde_json_on_literals
stop_read = refl

asked_read : (asked : Asked) → order_in (object_of_order (ToAnswer asked)) ≡ Some (ToAnswer asked)
unfolding serde_json_on_literals
asked_read Health = refl
asked_read Metrics = refl
asked_read ClockAccept = refl

order_read : (order : OrderTold) → IsInRange (instruction_of order) → order_in (object_of_order (instruction_of order)) ≡ Some (instruction_of order)
order_read (Host (Command command)) limited = command_read (order_of command)
order_read (Host (Sweep limit)) limited = sweep_read limit limited
order_read (Host Report) limited = report_read
order_read (Host Tenants) limited = tenants_read
order_read (Backup to) limited = backup_read (string_bytes to)
order_read Stop limited = stop_read
order_read (Server asked) limited = asked_read asked

value_is : (text : List ℕ) (d : Data) → IsUtf8 text → read text ≡ Some d → value_in text ≡ Some d
value_is text d valid e = rw (is_utf8-from_IsUtf8 text valid) e

read_is : (text : List ℕ) (d : Data) (order : Instruction) → IsUtf8 text → read text ≡ Some d → order_in d ≡ Some order → ordered_by text ≡ Some order
read_is text d order valid e f = rw (value_is text d valid e) f

pub told_back : (order : OrderTold) (text : List ℕ) → IsInRange (instruction_of order) → IsUtf8 text
    → read text ≡ Some (object_of_order (instruction_of order)) → ordered_by text ≡ Some (instruction_of order)
told_back order text limited valid e = read_is text _ _ valid e (order_read order limited)

-- ---- no object nests deeper than a reader goes

flat_command : (order : Order) → depth (object_of_order (ToDo (Ordered order))) ≤ max_depth
flat_command (AddTenant tenant quota) = omega arith
flat_command (SetQuota tenant quota) = omega arith
flat_command (RemoveTenant tenant with_objects) = omega arith
flat_command (AddKey tenant name secret) = omega arith
flat_command (RemoveKey tenant name) = omega arith
flat_command (ShowUsage tenant) = omega arith
flat_command (ShowKeys tenant) = omega arith

pub flat_order : (order : OrderTold) → depth (object_of_order (instruction_of order)) ≤ max_depth
flat_order (Host (Command command)) = flat_command (order_of command)
flat_order (Host (Sweep limit)) = omega arith
flat_order (Host Report) = omega arith
flat_order (Host Tenants) = omega arith
flat_order (Backup to) = omega arith
flat_order Stop = omega arith
flat_order (Server Health) = omega arith
flat_order (Server Metrics) = omega arith
flat_order (Server ClockAccept) = omega arith
