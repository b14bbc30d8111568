use Rattle.std.proofs.Common.{[], None, sym, ◌∙◌, arith}
use Rattle.std.proofs.lemmas.Bool.{false≢true}
use Rattle.std.proofs.lemmas.Result.{err_from_is_err_and}
use Rattle.bh_connection.proofs.ListeningLemmas.{ran_nothing, nothing_came, counted_of}
use Rattle.bh_connection.proofs.listener.serve_listener.Goals as goal

pub returns-in_err-make_ready-clause-ran : goal.returns-in_err-make_ready-clause-ran
returns-in_err-make_ready-clause-ran g c = λ intact. ran_nothing g.H.Storage.IsIntact g.H.Storage.IsOpen g.H.Storage.seen g.H.Storage.left g.H.BackUp.shows _ c.args.host.now

pub returns-in_err-make_ready-clause-visited : goal.returns-in_err-make_ready-clause-visited
returns-in_err-make_ready-clause-visited g c = ([], nothing_came g.H.Storage.IsIntact g.H.Storage.IsOpen g.H.Storage.seen g.H.Storage.left g.H.BackUp.shows _ c.args.host.now)

pub returns-in_err-make_ready-clause-lost : goal.returns-in_err-make_ready-clause-lost
returns-in_err-make_ready-clause-lost g c = λ was now. absurd (false≢true (sym was ∙ now))

pub returns-in_err-make_ready-clause-counted : goal.returns-in_err-make_ready-clause-counted
returns-in_err-make_ready-clause-counted g c =
    let p = err_from_is_err_and c.from_residual.result c.from_residual.ensures.1 in
    rw p.1 ([], nothing_came g.H.Storage.IsIntact g.H.Storage.IsOpen g.H.Storage.seen g.H.Storage.left g.H.BackUp.shows _ c.args.host.now, tt, (omega arith, tt))

pub returns-clause-counted : goal.returns-clause-counted
returns-clause-counted g c = rw c.secret.ensures at (counted_of g.H.Storage.IsIntact g.H.Storage.IsOpen g.H.Storage.seen g.H.Storage.left _ _ g.H.BackUp.lost None None c.args.count c.serve_from.result c.args.host.now c.serve_from.new.host c.serve_from.ensures.listened)
