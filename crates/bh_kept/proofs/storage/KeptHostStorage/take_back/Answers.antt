use Rattle.std.proofs.Common.{sym, subst}
use Rattle.sqlite.specs.Files.{over_files}
use Rattle.bh_storage.specs.Calls.{TakesBack}
use Rattle.bh_dispatch.specs.Seeing as recalling
use Rattle.bh_kept.specs.Kept as kept
use Rattle.bh_kept.proofs.storage.KeptHostStorage.take_back.Goals as goal

pub returns-in-Some-clause-intact : goal.returns-in-Some-clause-intact
returns-in-Some-clause-intact g c intact = subst (λ o. kept.IsIntact g.P.Shelf o) (sym c.in-Some.is) (c.take_back.ensures.intact intact)

pub returns-in-Some-clause-opened : goal.returns-in-Some-clause-opened
returns-in-Some-clause-opened g c intact up = subst (λ o. kept.IsOpen g.P.Shelf o) (sym c.in-Some.is) (c.take_back.ensures.opened intact up)

pub returns-in-Some-clause-survives : goal.returns-in-Some-clause-survives
returns-in-Some-clause-survives g c intact x may = subst (λ o. kept.left g.P.Shelf o x) (sym c.in-Some.is) (c.take_back.ensures.survives intact x may)

pub returns-in-Some-clause-back : goal.returns-in-Some-clause-back
returns-in-Some-clause-back g c clean =
    subst (λ o. TakesBack (kept.seen g.P.Shelf c.args.self.now.limits o) (recalling.seen over_files g.P.Shelf c.take_back.new.self)) (sym c.in-Some.is) (c.take_back.ensures.back clean)
