use Rattle.std.proofs.Common.{◌≡◌, ◌++◌, ℕ, List, None}
use Rattle.bh_http.specs.Bodies.{Gives}
use Rattle.bh_connection.proofs.taking.take_body.Given as goal

-- so far these bytes came, and were appended
abbrev pub invariant-taking : goal.invariant-taking
invariant-taking g l = record {
  going : (g.B.Body.coming l.body).broken ≡ None;
  came : (given : List ℕ) × Gives (g.B.Body.coming l.fn.body) (g.B.Body.coming l.body) given × (l.bytes.items ≡ l.fn.bytes.items ++ given);
}

abbrev pub decreases-taking : goal.decreases-taking
decreases-taking g l = (g.B.Body.coming l.body).due
