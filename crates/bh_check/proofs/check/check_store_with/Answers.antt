use Rattle.bh_check.proofs.LostLemmas.{some_so}
use Rattle.bh_check.proofs.check.check_store_with.Goals as goal

pub returns-in-Ok-clause-lost : goal.returns-in-Ok-clause-lost
returns-in-Ok-clause-lost g c = some_so _ _ (λ it more. some_so _ _ (λ lost its. (c.in-Ok.ensures.keeps, its)) it.lost more) c.in-Ok.found c.in-Ok.ensures.lost
