use Rattle.std.proofs.Common.{false, ◌∙◌}
use Rattle.bh_open.proofs.packs.see_packs.Goals as goal

pub returns-clause-back : goal.returns-clause-back
returns-clause-back g c clean =
    let was = c.take_back.ensures.follows.clean clean in
    let its = c.read_packs-found.ensures in
    c.take_back.ensures.back clean ∙ (λ i. record { now = its.kept was i; kept = its.kept was i; inside = false; limit = its.follows.limit i })
