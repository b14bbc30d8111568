use Rattle.std.proofs.Common.{refl, sym, subst}
use Rattle.bh_kept.specs.Kept as kept
use Rattle.bh_kept.proofs.Keeping.{within_kept}
use Rattle.bh_kept.proofs.storage.KeptHostStorage.begin.Goals as goal

pub returns-in-Some-clause-within : goal.returns-in-Some-clause-within
returns-in-Some-clause-within g c = within_kept c.args.self.now _ c.in-Some.storage c.begin.new.self c.in-Some.is refl c.begin.ensures.within

pub returns-in-Some-clause-survives : goal.returns-in-Some-clause-survives
returns-in-Some-clause-survives g c intact x may = subst (λ o. kept.left g.P.Shelf o x) (sym c.in-Some.is) (c.begin.ensures.survives intact x may)
