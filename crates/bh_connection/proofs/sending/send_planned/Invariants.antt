use Rattle.std.proofs.Common.{◌≡◌, ◌+◌, ◌<◌, ◌^◌, ◌++◌, ℕ, List, length}
use Rattle.bh_storage.specs.Calls.{Clean, IsAtRest, LeavesNothingNew}
use Rattle.bh_storage.specs.Plans.{to_come}
use Rattle.bh_connection.proofs.Pieces.{Gone}
use Rattle.bh_connection.proofs.sending.send_planned.Given as goal

-- what went out, the piece, and what the plan is still to give, are all
abbrev pub invariant-pieces : goal.invariant-pieces
invariant-pieces g l = record {
  intact : g.H.Storage.IsIntact l.host → g.H.Storage.IsIntact l.fn.host;
  stays_open : g.H.Storage.IsIntact l.host → g.H.Storage.IsOpen l.host;
  rest : Clean g.H.Storage.IsIntact g.H.Storage.IsOpen l.host → IsAtRest g.H.Storage.IsSoundStore (g.H.Storage.seen l.host);
  same : Clean g.H.Storage.IsIntact g.H.Storage.IsOpen l.host → (g.H.Storage.seen l.host).now ≡ (g.H.Storage.seen l.fn.host).now;
  limits : (g.H.Storage.seen l.host).limits ≡ (g.H.Storage.seen l.fn.host).limits;
  survives : g.H.Storage.IsIntact l.host → LeavesNothingNew g.H.Storage.left l.fn.host l.host;
  fits : l.sent + (length l.piece.items + l.left.left) < 2 ^ 64;
  gone : (gone : List ℕ)
      × Gone (g.W.Sink.contents l.fn.writer.inner) (g.W.Sink.contents l.writer.inner) (g.W.Sink.transfers l.fn.writer.inner) (g.W.Sink.transfers l.writer.inner) l.writer.failed l.sent gone
      × (g.H.Storage.IsIntact l.host → gone ++ (l.piece.items ++ to_come l.left (g.H.Storage.seen l.fn.host).now)
      ≡ l.fn.reply.head.items ++ to_come l.fn.reply.plan (g.H.Storage.seen l.fn.host).now);
  measured : g.H.Storage.IsIntact l.host → l.left.left ≡ length (to_come l.left (g.H.Storage.seen l.fn.host).now);
}

abbrev pub decreases-pieces : goal.decreases-pieces
decreases-pieces g l = l.left.left
