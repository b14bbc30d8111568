use Rattle.bh_pages.proofs.Taking.{begun, begun_low, none_shown}
use Rattle.bh_pages.proofs.reading.Reading.begin.Goals as goal

pub returns-clause-underway : goal.returns-clause-underway
returns-clause-underway c rows are = record {
  low = begun_low c.args.asked.now c.in_ok-start.field-0.items c.in_ok-start.ensures;
  few = c.first_count.ensures;
  part = record {
    room = none_shown c.args.asked.now c.new.result c.new.ensures;
    whole = begun c.args.asked.now rows are c.new.result c.new.ensures c.in_ok-start.field-0.items c.in_ok-start.ensures;
  };
}
