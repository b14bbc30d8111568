use Rattle.std.proofs.Common.{◌≡◌, None}
use Rattle.bh_http.specs.Bodies.{Gives}
use Rattle.bh_http.proofs.body.collect.Given as goal

-- so far some of the body came
abbrev pub invariant-taking : goal.invariant-taking
invariant-taking g l = record {
  going : (g.B.Body.coming l.body).broken ≡ None;
  gives : Gives (g.B.Body.coming l.fn.body) (g.B.Body.coming l.body) l.bytes.items;
}

abbrev pub decreases-taking : goal.decreases-taking
decreases-taking g l = (g.B.Body.coming l.body).due
