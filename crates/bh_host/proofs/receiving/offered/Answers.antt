use Rattle.bh_host.proofs.receiving.offered.Goals as goal

pub returns-in_ok-sent_text-in-Whole-clause-told : goal.returns-in_ok-sent_text-in-Whole-clause-told
returns-in_ok-sent_text-in-Whole-clause-told c tables found = rw c.in-Whole.is c.in_ok-sent_text-in-Whole.ensures

pub returns-in-Planned-clause-told : goal.returns-in-Planned-clause-told
returns-in-Planned-clause-told c tables measured = rw c.in-Planned.is (c.found.ensures.told tables (rw c.in-Planned.is at measured))
