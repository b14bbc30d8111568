use Rattle.std.proofs.Common.{arith}
use Rattle.std.proofs.lemmas.Grind.{common_steps}
use Rattle.bh_http.proofs.BodyLemmas.{whole_gives}
use Rattle.bh_http.proofs.body.WholeBodyBody.next.Goals as goal

pub returns-clause-gives : goal.returns-clause-gives
returns-clause-gives c = whole_gives _ _ _ (grind (arith, common_steps))
