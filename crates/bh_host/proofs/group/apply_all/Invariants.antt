use Rattle.std.proofs.Common.{◌≡◌, length, take, map, vec_len, vec_capacity}
use Rattle.std.specs.Prelude.{All}
use Rattle.bh_event.specs.Events.{arrival}
use Rattle.bh_storage.specs.Calls.{Clean, Within, IsWorking}
use Rattle.bh_host.specs.Answers.{told}
use Rattle.bh_host.specs.Groups.{RanTogether, HasSmallReply}
use Rattle.bh_host.proofs.group.apply_all.Given as goal

-- the events so far were applied, and there is room for the other replies
abbrev pub invariant-loop-event : goal.invariant-loop-event
invariant-loop-event g l = record {
  within : Within g.H.Storage.IsIntact g.H.Storage.IsOpen g.H.Storage.seen g.H.Storage.left l.fn.host l.host;
  opens : g.H.Storage.IsOpen l.fn.host → g.H.Storage.IsIntact l.host → g.H.Storage.IsOpen l.host;
  working : Clean g.H.Storage.IsIntact g.H.Storage.IsOpen l.host → IsWorking g.H.Storage.IsSoundStore (g.H.Storage.seen l.host);
  count : vec_len l.tolds ≡ l.event-index;
  room : vec_capacity l.tolds ≡ length l.events;
  small : All HasSmallReply l.tolds.items;
  ran : Clean g.H.Storage.IsIntact g.H.Storage.IsOpen l.host
      → RanTogether (take l.event-index (map arrival l.events)) (map told l.tolds.items) (g.H.Storage.seen l.fn.host).now (g.H.Storage.seen l.host).now;
}
