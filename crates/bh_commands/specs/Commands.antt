-- Work on a host, and its printed text.
use Rattle.std.specs.Prelude.{◌≡◌, ℕ, false, List, Option, is_some, option_and_then}
use Rattle.bh_event.specs.Events.{Arrival, message_of}
use Rattle.bh_event.specs.Orders.{arrival_at}
use Rattle.bh_tables.specs.Typed.{Tables}
use Rattle.bh_storage.specs.Calls.{Seen, Clean, IsAtRest}
use Rattle.bh_host.specs.Runs.{Told}
use Rattle.bh_connection.specs.Connections.{IsApplied, IsTakenBack}
use Rattle.bh_connection.specs.Listening.{WasVisited}
use Rattle.bh_connection.specs.Operators.{is_sweep}
use Rattle.bh_connection.specs.Visits.{RanFor}
use Rattle.bh_maintenance.specs.Printing.{IsLine, IsNothing}
use Rattle.bh_maintenance.specs.declared.printed.Printed.{Printed}
use Rattle.bh_task.specs.Doors.{socket_in}
use Rattle.bh_commands.specs.declared.asked.Serving.{Serving}
use Rattle.bh_commands.specs.declared.asked.Work.{Work}
use Rattle.bh_commands.specs.declared.asked.Work.TheVariants as work

-- the operators' secret, if there is a door for them and they have one
abbrev pub secret_in : Serving → Option (List ℕ)
secret_in serving = option_and_then (λ o. o.secret) serving.operator

-- the path of the operators' socket, if they have one
abbrev pub operator_socket_in : Serving → Option (List ℕ)
operator_socket_in serving = option_and_then (λ o. socket_in o.door) serving.operator

-- ---- work on a storage

-- if it is intact or open, it was so before; it is still at rest, under its limits
pub record StaysReady {H : Type 0} (IsIntact IsOpen : H → Type 0) (IsSound : Tables → Type 0) (seen : H → Seen) (old new : H) : Type 0 where
  pub intact : IsIntact new → IsIntact old
  pub opened : IsIntact new → IsOpen new → IsOpen old
  pub ready : Clean IsIntact IsOpen new → IsAtRest IsSound (seen new)
  pub limits : (seen new).limits ≡ (seen old).limits

module _ {H : Type 0} (IsIntact IsOpen : H → Type 0) (seen : H → Seen) (left : H → Tables → Type 0) where
  -- an event was applied, with the promises of `bh_host::apply`. Its reply is printed, and unless
  -- that is a refusal, a crash leaves the tables that are then current
  pub record IsTold (event : Arrival) (old new : H) (printed : Printed) : Type 0 where
    pub told : Told
    pub applied : IsApplied IsIntact IsOpen seen left event told old new
    pub line : IsLine told.1 printed
    pub kept : printed.status ≡ 0 → IsIntact new → (x : Tables) → left new x → x ≡ (seen new).now

  -- so it was, and after a sweep packs may have gone of which nothing is named: no table shows that, and a crash leaves
  -- nothing new
  pub record HasObeyed (event : Arrival) (old new : H) (printed : Printed) : Type 0 where
    pub mid : H
    pub told : IsTold event old mid printed
    pub intact : IsIntact new → IsIntact mid
    pub back : IsTakenBack IsIntact IsOpen seen left mid new
    pub others : is_sweep event.message ≡ false → new ≡ mid

  -- requests were applied in turn, and orders if there is a port for operators, and no other event;
  -- nothing is printed
  pub record HasServed (serving : Serving) (old new : H) (printed : Printed) : Type 0 where
    pub ran : IsIntact new → RanFor (is_some serving.operator) IsOpen seen left old new
    pub visited : WasVisited IsIntact IsOpen seen left (secret_in serving) old new
    pub printed_is : IsNothing printed

  -- the work was done at a reading; connections use the machine's clock
  abbrev pub HasDone : Work → ℕ → H → H → Printed → Type 0
  HasDone (work.Order order) reading old new printed = HasObeyed (arrival_at reading (message_of order)) old new printed
  HasDone (work.Serve serving) reading old new printed = HasServed serving old new printed
