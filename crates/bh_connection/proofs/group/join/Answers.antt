use Rattle.std.proofs.Common.{refl, sym, rules, ◌∙◌}
use Rattle.bh_connection.specs.Each.{ends}
use Rattle.bh_connection.proofs.GroupLemmas.{joined_none, joined_one, joined_then}
use Rattle.bh_connection.proofs.group.join.Goals as goal

pub loop-joined-init : goal.loop-joined-init
loop-joined-init g c = record {
  operated = refl;
  capacity = refl;
  count = sym c.len-joined.ensures;
  joined = joined_none (ends g.A.Reader.Source.remaining g.A.Reader.Source.transfers g.A.Writer.Sink.contents g.A.Writer.Sink.transfers) _ _ c.args.arrivals.now.items;
}

pub loop-joined-preserved : goal.loop-joined-preserved
loop-joined-preserved g c =
    let so_far = c.loop-joined.invariant in
    record {
      operated = c.open-next.ensures.operated ∙ c.accept_more.ensures.operated ∙ so_far.operated;
      capacity = c.push_reserved.ensures.capacity ∙ so_far.capacity;
      count = search rules;
      joined = joined_then (ends g.A.Reader.Source.remaining g.A.Reader.Source.transfers g.A.Writer.Sink.contents g.A.Writer.Sink.transfers) _ _ _ _ _ _ _ so_far.joined
          (joined_one (ends g.A.Reader.Source.remaining g.A.Reader.Source.transfers g.A.Writer.Sink.contents g.A.Writer.Sink.transfers) _ _ _ _ _ _ c.open-next.result c.push_reserved.ensures.items c.open-next.ensures.going c.open-next.ensures.reading c.if-not-accept_more.ensures.calls c.open-next.ensures.calls);
    }
