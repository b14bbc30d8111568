use Rattle.std.proofs.Common.{◌≡◌, vec_capacity, vec_len}
use Rattle.bh_connection.specs.Each.{ends}
use Rattle.bh_connection.specs.Groups.{HasJoined}
use Rattle.bh_connection.proofs.group.join.Given as goal

-- so far these joined
abbrev pub invariant-loop-joined : goal.invariant-loop-joined
invariant-loop-joined g l = record {
  operated : g.A.Acceptor.operated l.acceptor ≡ g.A.Acceptor.operated l.fn.acceptor;
  capacity : vec_capacity l.arrivals ≡ vec_capacity l.fn.arrivals;
  count : vec_len l.arrivals ≡ l.joined;
  joined : HasJoined (ends g.A.Reader.Source.remaining g.A.Reader.Source.transfers g.A.Writer.Sink.contents g.A.Writer.Sink.transfers) l.reading (g.A.Acceptor.calls l.fn.acceptor) (g.A.Acceptor.calls l.acceptor) l.fn.arrivals.items l.arrivals.items;
}
