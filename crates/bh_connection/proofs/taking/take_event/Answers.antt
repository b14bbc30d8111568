use Rattle.std.proofs.Common.{Bool, refl, sym, ap, ◌∙◌}
use Rattle.bh_connection.specs.Each.{ends}
use Rattle.bh_connection.proofs.taking.take_event.Goals as goal

pub returns-in-Ok-clause-taken : goal.returns-in-Ok-clause-taken
returns-in-Ok-clause-taken g c =
    let R = g.R.Source in
    let before = ends g.R.Source.remaining g.R.Source.transfers g.W.Sink.contents g.W.Sink.transfers c.args.arrival.now in
    let inner = c.take_whole.new.reader.inner in
    let going = c.requires.going.0 in
    record {
      bytes = c.in-Ok.bytes.items;
      is = refl;
      took = c.in-Ok.ensures.took;
      gave = c.in-Ok.ensures.gave;
      going = going;
      same = ap (λ (f : Bool). record before { left = R.remaining inner; gave = R.transfers inner; reader_failed = f }) (c.in-Ok.ensures.going ∙ sym going);
    }

pub returns-in-Err-clause-untaken : goal.returns-in-Err-clause-untaken
returns-in-Err-clause-untaken g c =
    let (taken, took, gave) = c.in-Err.ensures.within in
    record { bytes = taken; took = took; gave = gave; failed = c.in-Err.ensures.failed; going = c.requires.going.1; same = refl }
