use Rattle.std.proofs.Common.{◌≡◌, length, take, map, vec_len, vec_capacity}
use Rattle.bh_event.specs.Events.{arrival}
use Rattle.bh_host.specs.Answers.{told}
use Rattle.bh_host.specs.Resting.{StaysAtRest}
use Rattle.bh_host.specs.Runs.{RanOn}
use Rattle.bh_host.proofs.events.run.Given as goal

-- so far it ran, and there is room for the rest
abbrev pub invariant-loop-event : goal.invariant-loop-event
invariant-loop-event g l = record {
  stays : StaysAtRest g.H.Storage.IsIntact g.H.Storage.IsOpen g.H.Storage.IsSoundStore g.H.Storage.seen g.H.Storage.left l.fn.host l.host;
  count : vec_len l.dones ≡ l.event-index;
  room : vec_capacity l.dones ≡ length l.events;
  ran : g.H.Storage.IsIntact l.host → RanOn g.H.Storage.IsOpen g.H.Storage.seen g.H.Storage.left (take l.event-index (map arrival l.events)) (map told l.dones.items) l.fn.host l.host;
}
