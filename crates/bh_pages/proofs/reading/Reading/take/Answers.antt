use Rattle.std.proofs.Common.{◌<◌, ◌≤◌, subst, ◌∙◌}
use Rattle.bh_pages.proofs.Taking.{full, last, lines_begin, key_under, goes_on}
use Rattle.bh_pages.proofs.reading.Reading.take.Goals.{then-listed-asked-via-then-listed-asked, then-listed-asked-via-else-listed-asked+then-lines-self}
use Rattle.bh_pages.proofs.reading.Reading.take.Goals as goal

pub returns-then-listed-asked-clause-took : goal.returns-then-listed-asked-clause-took
returns-then-listed-asked-clause-took c rows are was next =
    let added = c.in_ok-add_all.ensures (lines_begin c.args.asked.now rows are c.args.self.now was c.args.lines.now next) in
    elim c.then-listed-asked.branch [
      | then-listed-asked-via-then-listed-asked w ↦ full c.args.asked.now rows are c.args.self.now was c.args.lines.now next c.add_all.new.self added (subst (λ n. c.args.asked.now.max < n) (c.len-listed.ensures ∙ c.add_all.new.self.entries.ok.0) w.if-listed-asked.true)
      | then-listed-asked-via-else-listed-asked+then-lines-self w ↦ last c.args.asked.now rows are c.args.self.now was c.args.lines.now next c.add_all.new.self added w.if-lines-self.true
    ]

pub returns-clause-took : goal.returns-clause-took
returns-clause-took c rows are was next =
    let added = c.in_ok-add_all.ensures (lines_begin c.args.asked.now rows are c.args.self.now was c.args.lines.now next) in
    let on = c.in_ok-self.ensures in
    let room = subst (λ n. n ≤ c.args.asked.now.max) (c.len-listed.ensures ∙ c.add_all.new.self.entries.ok.0) c.if-listed-asked.false in
    let all = c.if-lines-self.false in
    let under = key_under c.args.asked.now rows are c.args.self.now was c.args.lines.now next c.add_all.new.self added room all on.key on.last in
    let there = goes_on c.args.asked.now rows are c.args.self.now was c.args.lines.now next c.add_all.new.self added room all on.key on.last c.in_ok-self.field-0.items (on.place under.0) in
    record {
      low = there.0;
      few = c.next_count-self.ensures;
      part = there.1;
    }
