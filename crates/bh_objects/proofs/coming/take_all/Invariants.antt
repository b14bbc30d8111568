use Rattle.bh_objects.specs.Storing.{IsTaken}
use Rattle.bh_objects.proofs.coming.take_all.Given as goal

-- what came so far is hashed, and stored or waiting
abbrev pub invariant-taking : goal.invariant-taking
invariant-taking g l =
    IsTaken g.S.Store g.P.Shelf g.D.Digester.digest_of l.fn.blocks.cache.now l.fn.draft l.draft (g.B.Body.coming l.fn.body) (g.B.Body.coming l.body) l.fn.connection l.connection l.hasher

abbrev pub decreases-taking : goal.decreases-taking
decreases-taking g l = (g.B.Body.coming l.body).due
