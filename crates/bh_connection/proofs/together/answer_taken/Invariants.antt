use Rattle.std.proofs.Common.{◌≡◌, ◌≤◌, ◌+◌, ◌-◌, List, length, take, drop, map, vec_len, vec_capacity}
use Rattle.bh_event.specs.Events.{arrival}
use Rattle.bh_host.specs.Resting.{StaysAtRest}
use Rattle.bh_connection.specs.Connections.{Ends}
use Rattle.bh_connection.specs.Each.{ends}
use Rattle.bh_connection.specs.Together.{AllTaken, HasServedMore}
use Rattle.bh_connection.proofs.together.answer_taken.Given as goal

-- so far these were answered, the rest is as it came, and there is room for it
abbrev pub invariant-groups : goal.invariant-groups
invariant-groups g l = record {
  stays : StaysAtRest g.H.Storage.IsIntact g.H.Storage.IsOpen g.H.Storage.IsSoundStore g.H.Storage.seen g.H.Storage.left l.fn.host l.host;
  within : l.done ≤ length l.fn.arrivals;
  same : length l.arrivals ≡ length l.fn.arrivals;
  count : vec_len l.serveds ≡ vec_len l.fn.serveds + l.done;
  room : vec_capacity l.serveds ≡ vec_capacity l.fn.serveds;
  rest : drop l.done l.arrivals ≡ drop l.done l.fn.arrivals;
  served : (befores : List Ends)
      → AllTaken (g.H.Storage.seen l.fn.host).limits befores (map (ends g.R.Source.remaining g.R.Source.transfers g.W.Sink.contents g.W.Sink.transfers) l.fn.arrivals) (map arrival l.events)
      → HasServedMore g.H.Storage.IsIntact g.H.Storage.IsOpen g.H.Storage.seen g.H.Storage.left (take l.done befores)
      (map (ends g.R.Source.remaining g.R.Source.transfers g.W.Sink.contents g.W.Sink.transfers) (take l.done l.arrivals))
      l.fn.serveds.items l.serveds.items l.fn.host l.host;
}

abbrev pub decreases-groups : goal.decreases-groups
decreases-groups g l = length l.events - l.done
