use Rattle.bh_create.proofs.Resting.{at_rest}
use Rattle.examples.proofs.breaks.ending_of.Goals as goal

pub pass-requires : goal.pass-requires
pass-requires c clean =
    c.new-storage.ensures.rests (at_rest _ _ _ _ _ c.in-Ok.ensures.given.0 c.in-Ok.ensures.given.1 c.in-Ok.ensures.made (rw c.new-storage.ensures.host at clean))
