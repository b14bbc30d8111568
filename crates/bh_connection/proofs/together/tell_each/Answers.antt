use Rattle.std.proofs.Common.{◌<◌, ◌≤◌, length, refl, sym, subst, arith, rules}
use Rattle.std.proofs.lemmas.List.Elements.{All-get_or}
use Rattle.bh_host.specs.Answers.{told}
use Rattle.bh_connection.specs.Each.{ends}
use Rattle.bh_connection.specs.Together.{IsAnswerable}
use Rattle.bh_connection.proofs.EachLemmas.{same_at, rest_next}
use Rattle.bh_connection.proofs.TogetherLemmas.{has_told_none, told_next, told_all}
use Rattle.bh_connection.proofs.together.tell_each.Goals as goal

pub loop-index-init : goal.loop-index-init
loop-index-init g c = record { count = search rules; room = refl; rest = refl; told = has_told_none c.args.serveds.now.items }

pub tell-served-requires-clause-answerable : goal.tell-served-requires-clause-answerable
tell-served-requires-clause-answerable g c =
    let firsts = c.args.arrivals.now in
    let nows = c.loop-index.arrivals in
    let i = c.loop-index.index in
    let d = c.index-arrivals-index.result in
    let lt : i < length firsts = omega (arith, c.loop-index-test.true, c.loop-index.auto.arrivals) in
    subst IsAnswerable (sym (same_at nows firsts i d c.loop-index.invariant.rest)) (All-get_or IsAnswerable firsts i d lt c.requires.answerable)

pub loop-index-preserved : goal.loop-index-preserved
loop-index-preserved g c =
    let firsts = c.args.arrivals.now in
    let nows = c.loop-index.arrivals in
    let i = c.loop-index.index in
    let d = c.index-arrivals-index.result in
    let so_far = c.loop-index.invariant in
    let lt : i < length firsts = omega (arith, c.loop-index-test.true, c.loop-index.auto.arrivals) in
    let lt2 : i < length nows = omega (arith, c.loop-index-test.true, c.loop-index.auto.arrivals) in
    let lt3 : i < length c.args.tolds.now = omega (arith, lt, c.requires.whole) in
    record {
      count = search rules;
      room = search rules;
      rest = rest_next nows firsts i c.tell-served.new.arrival so_far.rest;
      told = told_next (ends g.R.Source.remaining g.R.Source.transfers g.W.Sink.contents g.W.Sink.transfers) told c.args.tolds.now firsts nows _ i d _ c.tell-served.new.arrival _ _ _ _ _ c.tell-served.result
          lt lt2 lt3 (same_at nows firsts i d so_far.rest) refl c.index-tolds-index.is c.push_reserved.ensures.items so_far.told c.tell-served.ensures.told;
    }

pub returns-clause-told : goal.returns-clause-told
returns-clause-told g c =
    let i = c.loop-index.index in
    let le : length c.args.arrivals.now ≤ i = omega (arith, c.loop-index-test.false, c.loop-index.auto.arrivals) in
    told_all (ends g.R.Source.remaining g.R.Source.transfers g.W.Sink.contents g.W.Sink.transfers) told c.args.tolds.now c.args.arrivals.now c.loop-index.arrivals i c.args.serveds.now.items c.loop-index.serveds.items
    (omega (arith, le, c.requires.whole)) le (omega (arith, c.loop-index-test.false, c.loop-index.auto.arrivals)) c.loop-index.invariant.told
