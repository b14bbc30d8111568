use Rattle.bh_create.proofs.Resting.{at_rest}
use Rattle.examples.proofs.retried.retry.Goals as goal

pub answers-requires : goal.answers-requires
answers-requires g c clean =
    c.new-storage.ensures.rests (at_rest _ _ _ _ _ c.in-Ok.ensures.given.0 c.in-Ok.ensures.given.1 c.in-Ok.ensures.made (rw c.new-storage.ensures.host at clean))
