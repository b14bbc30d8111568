use Rattle.std.specs.List.{All}
use Rattle.bh_connection.specs.Each.{IsGoing}
use Rattle.examples.proofs.connections.requests.Given as goal

abbrev pub invariant-loop-event : goal.invariant-loop-event
invariant-loop-event l = All IsGoing l.arrivals.items
