use Rattle.std.proofs.Common.{option_map, [], subst}
use Rattle.bh_http.proofs.TransferLemmas.{logs_then}
use Rattle.bh_host.specs.declared.reply.Caller.TheVariants.{Request}
use Rattle.bh_connection.specs.Each.{ends}
use Rattle.bh_connection.specs.Groups.{begins_with}
use Rattle.bh_connection.specs.Listening.{Serves}
use Rattle.bh_connection.proofs.group.serve_clients.Goals as goal

pub returns-in-Some-clause-serves : goal.returns-in-Some-clause-serves
returns-in-Some-clause-serves g c = λ begun p.
    subst (λ o. Serves g.H.Storage.IsIntact g.H.Storage.IsOpen g.H.Storage.seen g.H.Storage.left g.H.BackUp.shows (option_map (λ s. s.now) c.args.secret) o begun (g.A.Acceptor.calls c.serve_several.new.acceptor) c.serve_several.result c.args.host.now c.serve_several.new.host) c.room_for_more.ensures.operated
    (c.serve_several.ensures.serves (option_map (λ s. s.now) c.args.secret) begun _ p c.in-Some.ensures.calls)

pub returns-in-None-clause-serves : goal.returns-in-None-clause-serves
returns-in-None-clause-serves g c = λ begun p.
    subst (λ o. Serves g.H.Storage.IsIntact g.H.Storage.IsOpen g.H.Storage.seen g.H.Storage.left g.H.BackUp.shows (option_map (λ s. s.now) c.args.secret) o begun (g.A.Acceptor.calls c.serve_one.new.acceptor) c.serve_one.result c.args.host.now c.serve_one.new.host) c.room_for_more.ensures.operated
    (c.serve_one.ensures.serves begun (logs_then begun _ _ (begins_with Request (ends g.A.Reader.Source.remaining g.A.Reader.Source.transfers g.A.Writer.Sink.contents g.A.Writer.Sink.transfers c.args.first)) [] p c.in-None.ensures.calls))
