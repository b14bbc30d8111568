use Rattle.std.proofs.Common.{map}
use Rattle.bh_connection.specs.Each.{ends}
use Rattle.bh_connection.proofs.EachLemmas.{only_more, served_alone}
use Rattle.bh_connection.proofs.each.serve_each.Goals as goal

pub returns-clause-served : goal.returns-clause-served
returns-clause-served g c =
    let at = ends g.R.Source.remaining g.R.Source.transfers g.W.Sink.contents g.W.Sink.transfers in
    only_more g.H.Storage.IsIntact g.H.Storage.IsOpen g.H.Storage.seen g.H.Storage.left (map at c.args.arrivals.now) (map at c.serve_all.new.arrivals)
    _ c.serve_all.new.serveds.items c.args.host.now c.serve_all.new.host c.in_ok-serveds.ensures.items c.serve_all.ensures.served

pub returns-clause-alone : goal.returns-clause-alone
returns-clause-alone g c = λ intact.
    let at = ends g.R.Source.remaining g.R.Source.transfers g.W.Sink.contents g.W.Sink.transfers in
    served_alone g.H.Storage.IsIntact g.H.Storage.IsOpen g.H.Storage.seen g.H.Storage.left (map at c.args.arrivals.now) (map at c.serve_all.new.arrivals)
    c.serve_all.new.serveds.items c.args.host.now c.serve_all.new.host intact (returns-clause-served g c)
