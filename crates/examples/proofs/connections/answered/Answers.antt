use Rattle.bh_create.proofs.Resting.{at_rest}
use Rattle.examples.proofs.connections.answered.Goals as goal

pub answers-requires : goal.answers-requires
answers-requires c clean =
    c.new-in-Ok.ensures.rests (at_rest _ _ _ _ _ c.in-Ok.ensures.given.0 c.in-Ok.ensures.given.1 c.in-Ok.ensures.made (rw c.new-in-Ok.ensures.host at clean))
