use Rattle.std.proofs.Common.{◌≡◌, ◌++◌}
use Rattle.bh_storage.specs.Calls.{Clean, Within}
use Rattle.bh_storage.specs.Plans.{to_come}
use Rattle.bh_host.proofs.delivery.gather.Given as goal

-- the bytes so far, and then what is still to come, are all
abbrev pub invariant-pieces : goal.invariant-pieces
invariant-pieces g l = record {
  within : Within g.H.Storage.IsIntact g.H.Storage.IsOpen g.H.Storage.seen g.H.Storage.left l.fn.host l.host;
  opens : g.H.Storage.IsOpen l.fn.host → g.H.Storage.IsIntact l.host → g.H.Storage.IsOpen l.host;
  same : Clean g.H.Storage.IsIntact g.H.Storage.IsOpen l.host → g.H.Storage.seen l.host ≡ g.H.Storage.seen l.fn.host;
  all : Clean g.H.Storage.IsIntact g.H.Storage.IsOpen l.host → l.bytes.items ++ to_come l.left (g.H.Storage.seen l.fn.host).now ≡ l.fn.head.items ++ to_come l.fn.plan (g.H.Storage.seen l.fn.host).now;
}

abbrev pub decreases-pieces : goal.decreases-pieces
decreases-pieces g l = l.left.left
