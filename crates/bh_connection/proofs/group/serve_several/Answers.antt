use Rattle.std.proofs.Common.{◌≡◌, ◌∷◌, ◌++◌, List, None, map, length, take, drop, refl, sym, ap, subst, ◌∙◌, arith}
use Rattle.std.specs.List.{flat_map, list_any}
use Rattle.std.proofs.lemmas.List.{length-map, take_at}
use Rattle.std.proofs.lemmas.List.Elements.{All-cons, All-map, All-same}
use Rattle.std.proofs.lemmas.List.Folds.{flat_map-map}
use Rattle.bh_host.specs.declared.reply.Caller.TheVariants.{Request}
use Rattle.bh_http.specs.Transfers.{Logs}
use Rattle.bh_http.proofs.TransferLemmas.{logs_then}
use Rattle.bh_connection.specs.Connections.{Ends}
use Rattle.bh_connection.specs.Each.{IsGoing, HasServed, ends}
use Rattle.bh_connection.specs.Groups.{begins_with, closes_with, joins_with}
use Rattle.bh_connection.specs.Listening.{is_shut}
use Rattle.bh_connection.specs.declared.served.Served.{Served}
use Rattle.bh_connection.proofs.EachLemmas.{only_more}
use Rattle.bh_connection.proofs.ListeningLemmas.{several_served}
use Rattle.bh_connection.proofs.group.serve_several.Goals as goal

pub serve_together-requires-clause-going : goal.serve_together-requires-clause-going
serve_together-requires-clause-going g c =
    let came = c.gathered-arrivals.ensures.joined None tt in
    All-same IsGoing _ _ (c.as_mut_slice.ensures.value ∙ came.is) (All-cons IsGoing c.args.first came.more c.requires.going came.going)

pub returns-clause-serves : goal.returns-clause-serves
returns-clause-serves g c = λ secret begun mid p q.
    let at = ends g.A.Reader.Source.remaining g.A.Reader.Source.transfers g.A.Writer.Sink.contents g.A.Writer.Sink.transfers in
    let came = c.gathered-arrivals.ensures.joined mid q in
    let are : c.as_mut_slice.result.now ≡ c.args.first ∷ came.more = c.as_mut_slice.ensures.value ∙ came.is in
    let afters : List Ends = map at c.serve_together.new.arrivals in
    let serveds = c.serve_together.new.serveds.items in
    let P : Ends → Type 0 = λ e. e.reading ≡ c.args.first.reading in
    let count : length c.gathered-arrivals.result.items ≡ length (c.args.first ∷ came.more) = ap (λ l. length l) came.is in
    let sliced : length c.as_mut_slice.result.now ≡ length (c.args.first ∷ came.more) = ap (λ l. length l) are in
    let many = length-map (c.args.first ∷ came.more) at in
    let all = take c.gathered-arrivals.result.len (c.serve_together.new.arrivals ++ drop (length c.serve_together.new.arrivals) c.gathered-arrivals.result.items) in
    let Q : List _ → List Served → Type 0 = λ l s. Logs (g.A.Acceptor.calls c.gathered-arrivals.new.acceptor) (g.A.Acceptor.calls c.close_each.new.acceptor) (closes_with (map at l) s) in
    let back = take_at c.serve_together.new.arrivals (drop (length c.serve_together.new.arrivals) c.gathered-arrivals.result.items) c.gathered-arrivals.result.len
    (omega (arith, c.serve_together.ensures.same, c.gathered-arrivals.result.ok.0, count, sliced)) in
    let served = subst (λ l. HasServed g.H.Storage.IsIntact g.H.Storage.IsOpen g.H.Storage.seen g.H.Storage.left (map at l) afters serveds c.args.host.now c.serve_together.new.host) are
    (only_more g.H.Storage.IsIntact g.H.Storage.IsOpen g.H.Storage.seen g.H.Storage.left _ afters _ serveds c.args.host.now c.serve_together.new.host c.requires.room.1.serveds c.serve_together.ensures.served) in
    let joins : List _ = flat_map (joins_with Request) (map at came.more) in
    several_served g.H.Storage.IsIntact g.H.Storage.IsOpen g.H.Storage.seen g.H.Storage.left g.H.BackUp.shows secret _ begun _ (map at (c.args.first ∷ came.more)) afters serveds c.args.first.reading _ _ _ served
    (omega (arith, many, count, c.gathered-arrivals.ensures.several)) (omega (arith, many, count, c.gathered-arrivals.ensures.count, c.requires.room.1.few))
    (All-cons P (at c.args.first) (map at came.more) refl (All-map P at came.more came.at))
    (logs_then begun _ _ (begins_with Request (at c.args.first) ++ joins) (closes_with afters serveds)
    (logs_then begun mid _ (begins_with Request (at c.args.first)) joins p (subst (Logs mid (g.A.Acceptor.calls c.gathered-arrivals.new.acceptor)) (sym (flat_map-map (joins_with Request) at came.more)) came.calls))
    (subst (λ l. Q l serveds) back (subst (λ s. Q all s) c.as_slice.ensures.value c.close_each.ensures.closed)))
    (omega (arith, c.len.ensures, c.serve_together.ensures.count, ap length c.requires.room.1.serveds, sliced, many)) refl refl (c.any_shut.ensures ∙ ap (list_any (λ (s : Served). is_shut s.trouble)) c.as_slice-2.ensures.value)
