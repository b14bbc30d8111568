use Rattle.std.proofs.Common.{option_map, [], ◌∷◌, refl, sym, subst, inr, ◌∙◌}
use Rattle.bh_http.specs.Transfers.{Logs}
use Rattle.bh_http.proofs.TransferLemmas.{logs_then}
use Rattle.bh_connection.specs.Each.{ends}
use Rattle.bh_connection.specs.Groups.{Accepted, ToldReading, ToldNone, Opened, begins_with}
use Rattle.bh_connection.specs.Listening.{Serves}
use Rattle.bh_connection.proofs.ListeningLemmas.{at_err}
use Rattle.bh_connection.proofs.group.serve_group.Goals as goal

pub returns-in_err-reading-clause-comes : goal.returns-in_err-reading-clause-comes
returns-in_err-reading-clause-comes g c =
    at_err c.from_residual-in_err-reading.result _ c.from_residual-in_err-reading.ensures.0 (
      Accepted c.in_ok-caller.caller ∷ ToldNone ∷ [],
      record {
        which = inr (c.in_ok-caller.caller, refl);
        calls = logs_then _ _ _ (Accepted c.in_ok-caller.caller ∷ []) (ToldNone ∷ []) c.in_ok-caller.ensures.calls c.in_err-reading.ensures.calls;
        same = refl;
      },
    )

pub returns-in-Request-clause-comes : goal.returns-in-Request-clause-comes
returns-in-Request-clause-comes g c =
    let before = ends g.A.Reader.Source.remaining g.A.Reader.Source.transfers g.A.Writer.Sink.contents g.A.Writer.Sink.transfers c.open-first.result in
    let told = subst (λ r. Logs (g.A.Acceptor.calls c.accept.new.self) (g.A.Acceptor.calls c.seconds.new.self) (ToldReading r ∷ [])) (sym c.open-first.ensures.reading) c.in_ok-reading.ensures.calls in
    let began = logs_then _ _ _ (Accepted c.in_ok-caller.caller ∷ []) (ToldReading before.reading ∷ Opened before ∷ []) c.in_ok-caller.ensures.calls
    (logs_then _ _ _ (ToldReading before.reading ∷ []) (Opened before ∷ []) told c.open-first.ensures.calls) in
    subst (λ o. Serves g.H.Storage.IsIntact g.H.Storage.IsOpen g.H.Storage.seen g.H.Storage.left g.H.BackUp.shows (option_map (λ s. s.now) c.args.secret) o (g.A.Acceptor.calls c.args.acceptor.now) (g.A.Acceptor.calls c.serve_clients.new.acceptor) c.serve_clients.result c.args.host.now c.serve_clients.new.host)
    (c.open-first.ensures.operated ∙ c.seconds.ensures.operated ∙ c.accept.ensures.operated)
    (c.serve_clients.ensures.serves _ (subst (λ k. Logs (g.A.Acceptor.calls c.args.acceptor.now) (g.A.Acceptor.calls c.open-first.new.self) (begins_with k before)) c.in-Request.is began))

pub returns-in-Operator-clause-comes : goal.returns-in-Operator-clause-comes
returns-in-Operator-clause-comes g c =
    let before = ends g.A.Reader.Source.remaining g.A.Reader.Source.transfers g.A.Writer.Sink.contents g.A.Writer.Sink.transfers c.open-first.result in
    let told = subst (λ r. Logs (g.A.Acceptor.calls c.accept.new.self) (g.A.Acceptor.calls c.seconds.new.self) (ToldReading r ∷ [])) (sym c.open-first.ensures.reading) c.in_ok-reading.ensures.calls in
    let began = logs_then _ _ _ (Accepted c.in_ok-caller.caller ∷ []) (ToldReading before.reading ∷ Opened before ∷ []) c.in_ok-caller.ensures.calls
    (logs_then _ _ _ (ToldReading before.reading ∷ []) (Opened before ∷ []) told c.open-first.ensures.calls) in
    subst (λ o. Serves g.H.Storage.IsIntact g.H.Storage.IsOpen g.H.Storage.seen g.H.Storage.left g.H.BackUp.shows (option_map (λ s. s.now) c.args.secret) o (g.A.Acceptor.calls c.args.acceptor.now) (g.A.Acceptor.calls c.serve_one.new.acceptor) c.serve_one.result c.args.host.now c.serve_one.new.host)
    (c.open-first.ensures.operated ∙ c.seconds.ensures.operated ∙ c.accept.ensures.operated)
    (c.serve_one.ensures.serves _ began)
