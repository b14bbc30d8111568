use Rattle.std.proofs.Common.{Some, sym, ap, ◌∙◌}
use Rattle.std.proofs.lemmas.Result.{IfOk-at_ok}
use Rattle.bh_objects.proofs.dates.version_date.Goals as goal

pub returns-in-Some-new-clause-found : goal.returns-in-Some-new-clause-found
returns-in-Some-new-clause-found g c clean =
    ap Some c.in-Some-new.ensures.1 ∙ sym c.in-Some.is ∙ rw c.as_str.ensures.value at (IfOk-at_ok _ c.in_ok-or_trouble.ensures.ok c.find_until.ensures.found clean)

pub returns-in-None-clause-found : goal.returns-in-None-clause-found
returns-in-None-clause-found g c clean = sym c.in-None.is ∙ rw c.as_str.ensures.value at (IfOk-at_ok _ c.in_ok-or_trouble.ensures.ok c.find_until.ensures.found clean)
