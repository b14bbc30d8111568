use Rattle.std.proofs.Common.{◌≡◌, None}
use Rattle.sha2.specs.Hashers.{Holds256}
use Rattle.bh_http.specs.Bodies.{Gives}
use Rattle.bh_tables.specs.Schema.{Octets}
use Rattle.bh_objects.proofs.bodies.hash_coming.Given as goal

-- so far some of the body came, and is hashed
abbrev pub invariant-taking : goal.invariant-taking
invariant-taking g l = record {
  going : (g.B.Body.coming l.body).broken ≡ None;
  came : (given : Octets) × Gives (g.B.Body.coming l.fn.body) (g.B.Body.coming l.body) given × Holds256 l.hasher given;
}

abbrev pub decreases-taking : goal.decreases-taking
decreases-taking g l = (g.B.Body.coming l.body).due
