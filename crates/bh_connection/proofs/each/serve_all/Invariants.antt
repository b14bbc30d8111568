use Rattle.std.proofs.Common.{◌≡◌, ◌+◌, take, drop, map, vec_len, vec_capacity}
use Rattle.bh_host.specs.Resting.{StaysAtRest}
use Rattle.bh_connection.specs.Each.{ends}
use Rattle.bh_connection.specs.Together.{HasServedMore}
use Rattle.bh_connection.proofs.each.serve_all.Given as goal

-- so far these were served, the rest is as it came, and there is room for it
abbrev pub invariant-loop-index : goal.invariant-loop-index
invariant-loop-index g l = record {
  stays : StaysAtRest g.H.Storage.IsIntact g.H.Storage.IsOpen g.H.Storage.IsSoundStore g.H.Storage.seen g.H.Storage.left l.fn.host l.host;
  count : vec_len l.serveds ≡ vec_len l.fn.serveds + l.index;
  room : vec_capacity l.serveds ≡ vec_capacity l.fn.serveds;
  rest : drop l.index l.arrivals ≡ drop l.index l.fn.arrivals;
  served : HasServedMore g.H.Storage.IsIntact g.H.Storage.IsOpen g.H.Storage.seen g.H.Storage.left
      (map (ends g.R.Source.remaining g.R.Source.transfers g.W.Sink.contents g.W.Sink.transfers) (take l.index l.fn.arrivals)) (map (ends g.R.Source.remaining g.R.Source.transfers g.W.Sink.contents g.W.Sink.transfers) (take l.index l.arrivals))
      l.fn.serveds.items l.serveds.items l.fn.host l.host;
}
