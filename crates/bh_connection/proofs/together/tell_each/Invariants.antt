use Rattle.std.proofs.Common.{◌≡◌, ◌+◌, take, drop, map, vec_len, vec_capacity}
use Rattle.bh_host.specs.Answers.{told}
use Rattle.bh_connection.specs.Each.{ends}
use Rattle.bh_connection.specs.Together.{HasTold}
use Rattle.bh_connection.proofs.together.tell_each.Given as goal

-- so far these were told, the rest is as it came, and there is room for it
abbrev pub invariant-loop-index : goal.invariant-loop-index
invariant-loop-index g l = record {
  count : vec_len l.serveds ≡ vec_len l.fn.serveds + l.index;
  room : vec_capacity l.serveds ≡ vec_capacity l.fn.serveds;
  rest : drop l.index l.arrivals ≡ drop l.index l.fn.arrivals;
  told : HasTold (map told (take l.index l.tolds))
      (map (ends g.R.Source.remaining g.R.Source.transfers g.W.Sink.contents g.W.Sink.transfers) (take l.index l.fn.arrivals))
      (map (ends g.R.Source.remaining g.R.Source.transfers g.W.Sink.contents g.W.Sink.transfers) (take l.index l.arrivals)) l.fn.serveds.items l.serveds.items;
}
