use Rattle.std.proofs.Common.{◌≡◌, ◌≤◌, length, take, drop, map, vec_len, vec_capacity}
use Rattle.std.specs.Prelude.{All}
use Rattle.bh_event.specs.Events.{arrival}
use Rattle.bh_connection.specs.Each.{ends}
use Rattle.bh_connection.specs.Together.{IsAnswerable, AllTaken}
use Rattle.bh_connection.proofs.taking.take_all.Given as goal

-- so far these were read, the rest is as it came, and there is room for it
abbrev pub invariant-loop-index : goal.invariant-loop-index
invariant-loop-index g l = record {
  answerable : All IsAnswerable l.arrivals;
  count : vec_len l.events ≡ l.index;
  room : length l.fn.arrivals ≤ vec_capacity l.events;
  rest : drop l.index l.arrivals ≡ drop l.index l.fn.arrivals;
  taken : AllTaken l.limits
      (map (ends g.R.Source.remaining g.R.Source.transfers g.W.Sink.contents g.W.Sink.transfers) (take l.index l.fn.arrivals))
      (map (ends g.R.Source.remaining g.R.Source.transfers g.W.Sink.contents g.W.Sink.transfers) (take l.index l.arrivals)) (map arrival l.events.items);
}
