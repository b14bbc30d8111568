use Rattle.std.proofs.Common.{refl, ap, rules, arith}
use Rattle.std.proofs.lemmas.Grind.{common_steps}
use Rattle.bh_http.specs.Bodies.{is_fault}
use Rattle.bh_link.proofs.Coming.{end_is_none, came_front, came_end, came_fault}
use Rattle.bh_link.proofs.link.LinkBody.next.Goals as goal

pub returns-in-Ok-eq0-clause-none : goal.returns-in-Ok-eq0-clause-none
returns-in-Ok-eq0-clause-none g c = came_end _ _ _ c.in-Ok-eq0.field-0 (search rules) c.in-Ok-eq0.ensures.bytes.0 c.in-Ok-eq0.ensures.transfer refl (end_is_none _ _ c.requires.going)

pub returns-in-Ok-clause-gives : goal.returns-in-Ok-clause-gives
returns-in-Ok-clause-gives g c = came_front _ _ _ _ c.in-Ok.count c.in-Ok.ensures.within.0 c.in-Ok.ensures.bytes.0 c.in-Ok.ensures.transfer (grind (arith, common_steps)) (ap is_fault c.requires.going)

pub returns-in-Err-clause-none : goal.returns-in-Err-clause-none
returns-in-Err-clause-none g c = came_fault _ _ c.in-Err.ensures.bytes c.in-Err.ensures.transfer refl refl
