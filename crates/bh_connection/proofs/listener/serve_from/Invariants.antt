use Rattle.std.proofs.Common.{◌≡◌, ◌≤◌, ◌-◌, false, List, length, option_map}
use Rattle.bh_host.specs.Resting.{StaysAtRest}
use Rattle.bh_connection.specs.Groups.{in_groups}
use Rattle.bh_connection.specs.Listening.{AllOpen}
use Rattle.bh_connection.specs.Visits.{NoneStops, Visit}
use Rattle.bh_connection.proofs.ListeningLemmas.{HasCome}
use Rattle.bh_connection.proofs.listener.serve_from.Given as goal

-- so far these groups came, which are so many visits, and none stopped it or met a store that is shut
abbrev pub invariant-groups : goal.invariant-groups
invariant-groups g l = record {
  stays : StaysAtRest g.H.Storage.IsIntact g.H.Storage.IsOpen g.H.Storage.IsSoundStore g.H.Storage.seen g.H.Storage.left l.fn.host l.host;
  operated : g.A.Acceptor.operated l.acceptor ≡ g.A.Acceptor.operated l.fn.acceptor;
  alive : g.H.BackUp.lost l.fn.host ≡ false → g.H.BackUp.lost l.host ≡ false;
  within : l.served ≤ l.count;
  listened : (groups : List (List Visit)) × (length (in_groups groups) ≡ l.served) × AllOpen (in_groups groups) × NoneStops (in_groups groups)
      × HasCome g.H.Storage.IsIntact g.H.Storage.IsOpen g.H.Storage.seen g.H.Storage.left g.H.BackUp.shows (option_map (λ s. s.now) l.fn.secret)
      (g.A.Acceptor.operated l.fn.acceptor) (g.A.Acceptor.calls l.fn.acceptor) (g.A.Acceptor.calls l.acceptor) groups l.fn.host l.host;
}

abbrev pub decreases-groups : goal.decreases-groups
decreases-groups g l = l.count - l.served
