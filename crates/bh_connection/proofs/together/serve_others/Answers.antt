use Rattle.std.proofs.Common.{◌<◌, length, arith}
use Rattle.std.proofs.lemmas.List.Elements.{All-get_or, All-same, All-take}
use Rattle.bh_connection.specs.Each.{ends}
use Rattle.bh_connection.specs.Together.{IsAnswerable}
use Rattle.bh_connection.proofs.TogetherLemmas.{others_split}
use Rattle.bh_connection.proofs.together.serve_others.Goals as goal

pub returns-clause-served : goal.returns-clause-served
returns-clause-served g c = λ befores untaken.
    let at = ends g.R.Source.remaining g.R.Source.transfers g.W.Sink.contents g.W.Sink.transfers in
    let split = c.split_at_mut-first in
    let nows = c.args.arrivals.now in
    let d = c.index-first-0.result in
    let lt : 0 < length split.result.0.now = omega (arith, split.ensures.front_len) in
    let ready = All-get_or IsAnswerable split.result.0.now 0 d lt (All-same IsAnswerable _ _ split.ensures.front (All-take IsAnswerable 1 nows c.requires.answerable)) in
    others_split g.H.Storage.IsIntact g.H.Storage.IsOpen g.H.Storage.seen g.H.Storage.left at c.args.error befores nows split.result.0.now split.result.1.now c.serve_all.new.arrivals d c.leave-served.new.arrival _ _ _ c.leave-served.result c.args.host.now c.serve_all.new.host
    c.requires.some split.ensures.front split.ensures.back ready.1 c.leave-served.ensures.left c.push_reserved.ensures.items c.serve_all.ensures.stays.intact c.serve_all.ensures.served untaken
