use Rattle.std.proofs.Common.{◌≡◌, List, length, take, map, None, vec_len, vec_capacity}
use Rattle.std.specs.List.{AllZip}
use Rattle.std.specs.Prelude.{All, IfSome}
use Rattle.bh_event.specs.Events.{Arrival, arrival}
use Rattle.bh_tables.specs.Typed.{Tables}
use Rattle.bh_host.specs.Answers.{told}
use Rattle.bh_host.specs.Groups.{last_stamp, HasSmallReply, IsReadAlike}
use Rattle.bh_host.specs.Resting.{StaysAtRest}
use Rattle.bh_host.proofs.Running.{RanAfter}
use Rattle.bh_host.proofs.Grouped.{LeftByGroup}
use Rattle.bh_host.proofs.together.apply_together.Given as goal

-- so far each was applied by itself, after what the group left, and there is room for the rest
abbrev pub invariant-loop-event : goal.invariant-loop-event
invariant-loop-event g l = record {
  stays : StaysAtRest g.H.Storage.IsIntact g.H.Storage.IsOpen g.H.Storage.IsSoundStore g.H.Storage.seen g.H.Storage.left l.fn.host l.host;
  count : vec_len l.tolds ≡ l.event-index;
  room : vec_capacity l.tolds ≡ length l.events;
  small : All HasSmallReply l.tolds.items;
  ran : g.H.Storage.IsIntact l.host → (others : List Arrival) → AllZip (IsReadAlike (g.H.Storage.seen l.fn.host).limits) (map arrival l.events) others
      → (start : Tables) → (g.H.Storage.IsOpen l.fn.host → (g.H.Storage.seen l.fn.host).now ≡ start)
      → RanAfter g.H.Storage.IsOpen g.H.Storage.seen g.H.Storage.left start (LeftByGroup g.H.Storage.IsOpen g.H.Storage.seen g.H.Storage.left others l.fn.host)
      (take l.event-index others) (map told l.tolds.items) l.host;
  acknowledged : IfSome (last_stamp None (map told l.tolds.items)) (λ _. g.H.Storage.IsIntact l.host → (x : Tables) → g.H.Storage.left l.host x → x ≡ (g.H.Storage.seen l.host).now);
}
