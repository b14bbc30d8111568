use Rattle.std.proofs.Common.{◌≡◌, map, take, length}
use Rattle.std.specs.List.{zip}
use Rattle.bh_http.specs.Transfers.{Logs}
use Rattle.bh_connection.specs.Each.{ends}
use Rattle.bh_connection.specs.Groups.{Closed}
use Rattle.bh_connection.proofs.group.close_each.Given as goal

-- so far these were closed
abbrev pub invariant-loop-arrival : goal.invariant-loop-arrival
invariant-loop-arrival g l = record {
  operated : g.A.Acceptor.operated l.acceptor ≡ g.A.Acceptor.operated l.fn.acceptor;
  closed : Logs (g.A.Acceptor.calls l.fn.acceptor) (g.A.Acceptor.calls l.acceptor)
      (map (λ p. Closed (ends g.A.Reader.Source.remaining g.A.Reader.Source.transfers g.A.Writer.Sink.contents g.A.Writer.Sink.transfers p.0) p.1) (take (length l.yielded) (zip l.fn.arrivals.items l.serveds)));
}
