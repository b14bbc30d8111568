use Rattle.std.proofs.Common.{◌≡◌, ◌≤◌, length, take, None}
use Rattle.bh_http.specs.Bodies.{Gives}
use Rattle.bh_objects.proofs.coming.fill.Given as goal

-- the buffer begins with what came so far
abbrev pub invariant-filling : goal.invariant-filling
invariant-filling g l = record {
  fits : l.count ≤ length l.buffer;
  going : (g.B.Body.coming l.body).broken ≡ None;
  gives : Gives (g.B.Body.coming l.fn.body) (g.B.Body.coming l.body) (take l.count l.buffer);
}

abbrev pub decreases-filling : goal.decreases-filling
decreases-filling g l = (g.B.Body.coming l.body).due
