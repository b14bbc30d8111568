use Rattle.std.proofs.Common.{[], sym, ◌∙◌, arith}
use Rattle.std.proofs.lemmas.Result.{err_from_is_err_and}
use Rattle.std.proofs.lemmas.Bool.{false≢true}
use Rattle.bh_connection.proofs.ListeningLemmas.{ran_nothing, nothing_came}
use Rattle.bh_connection.proofs.listener.serve_port.Goals as goal

pub returns-in_err-clients-clause-ran : goal.returns-in_err-clients-clause-ran
returns-in_err-clients-clause-ran g c = λ intact. ran_nothing g.H.Storage.IsIntact g.H.Storage.IsOpen g.H.Storage.seen g.H.Storage.left g.H.BackUp.shows _ c.args.host.now

pub returns-in_err-clients-clause-visited : goal.returns-in_err-clients-clause-visited
returns-in_err-clients-clause-visited g c = ([], nothing_came g.H.Storage.IsIntact g.H.Storage.IsOpen g.H.Storage.seen g.H.Storage.left g.H.BackUp.shows _ c.args.host.now)

pub returns-in_err-listener-in-Some-clause-ran : goal.returns-in_err-listener-in-Some-clause-ran
returns-in_err-listener-in-Some-clause-ran g c = λ intact. ran_nothing g.H.Storage.IsIntact g.H.Storage.IsOpen g.H.Storage.seen g.H.Storage.left g.H.BackUp.shows _ c.args.host.now

pub returns-in_err-listener-in-Some-clause-visited : goal.returns-in_err-listener-in-Some-clause-visited
returns-in_err-listener-in-Some-clause-visited g c = ([], nothing_came g.H.Storage.IsIntact g.H.Storage.IsOpen g.H.Storage.seen g.H.Storage.left g.H.BackUp.shows _ c.args.host.now)

pub returns-in_err-clients-clause-lost : goal.returns-in_err-clients-clause-lost
returns-in_err-clients-clause-lost g c = λ was now. absurd (false≢true (sym was ∙ now))

pub returns-in_err-listener-in-Some-clause-lost : goal.returns-in_err-listener-in-Some-clause-lost
returns-in_err-listener-in-Some-clause-lost g c = λ was now. absurd (false≢true (sym was ∙ now))

pub returns-in-None-clause-lost : goal.returns-in-None-clause-lost
returns-in-None-clause-lost g c = rw c.in-None.is c.serve_listener.ensures.lost

pub returns-clause-lost : goal.returns-clause-lost
returns-clause-lost g c = rw c.in-Some.is c.serve_listener-in-Some.ensures.lost

pub returns-in_err-clients-clause-counted : goal.returns-in_err-clients-clause-counted
returns-in_err-clients-clause-counted g c =
    let p = err_from_is_err_and c.from_residual.result c.from_residual.ensures.1 in
    rw p.1 ([], nothing_came g.H.Storage.IsIntact g.H.Storage.IsOpen g.H.Storage.seen g.H.Storage.left g.H.BackUp.shows _ c.args.host.now, tt, (omega arith, tt))

pub returns-in_err-listener-in-Some-clause-counted : goal.returns-in_err-listener-in-Some-clause-counted
returns-in_err-listener-in-Some-clause-counted g c =
    let p = err_from_is_err_and c.from_residual-in_err-listener-in-Some.result c.from_residual-in_err-listener-in-Some.ensures.1 in
    rw p.1 ([], nothing_came g.H.Storage.IsIntact g.H.Storage.IsOpen g.H.Storage.seen g.H.Storage.left g.H.BackUp.shows _ c.args.host.now, tt, (omega arith, tt))

pub returns-in-None-clause-counted : goal.returns-in-None-clause-counted
returns-in-None-clause-counted g c = rw c.in-None.is c.serve_listener.ensures.counted

pub returns-clause-counted : goal.returns-clause-counted
returns-clause-counted g c = rw c.in-Some.is c.serve_listener-in-Some.ensures.counted
