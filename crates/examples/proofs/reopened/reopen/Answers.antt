use Rattle.bh_create.proofs.Resting.{at_rest}
use Rattle.examples.proofs.reopened.reopen.Goals as goal

pub answered-requires : goal.answered-requires
answered-requires g c clean =
    c.new-storage.ensures.rests (at_rest _ _ _ _ _ c.in-Ok.ensures.given.0 c.in-Ok.ensures.given.1 c.in-Ok.ensures.made (rw c.new-storage.ensures.host at clean))
