use Rattle.std.proofs.Common.{◌≡◌, ℕ, ◌+◌, List, [], ◌∷◌, ◌++◌, length, take, map, Option, None, Some, rules, subst, sym, ap, ◌∙◌, arith}
use Rattle.std.specs.Prelude.{All, IfSome}
use Rattle.std.proofs.lemmas.List.{map-append}
use Rattle.std.proofs.lemmas.List.Elements.{All-push}
use Rattle.bh_event.specs.Events.{arrival}
use Rattle.bh_storage.specs.Plans.{to_come}
use Rattle.bh_tables.specs.Typed.{Tables}
use Rattle.bh_host.specs.Answers.{told}
use Rattle.bh_host.specs.Groups.{last_stamp, tolds_in, count_of, planned_in, HasSmallReply}
use Rattle.bh_host.specs.Replies.{reply_bytes}
use Rattle.bh_host.specs.Runs.{RanFrom}
use Rattle.bh_host.specs.declared.event.Told.{Told as ToldOf}
use Rattle.bh_host.proofs.Alike.{all_alike, alike_more, alike_last}
use Rattle.bh_host.proofs.Resting.{stays_then}
use Rattle.bh_host.proofs.Running.{RanAfter, each_alone}
use Rattle.bh_host.proofs.Grouped.{LeftByGroup, if_some, last_of, group_failed, group_ran, each_ran, from_here, ran_would}
use Rattle.bh_host.proofs.together.apply_together.Goals as goal

pub loop-event-init : goal.loop-event-init
loop-event-init g c =
    let H = g.H.Storage in
    let old = c.args.host.now in
    let mid = c.apply_group.new.host in
    let failed = c.in_default.ensures in
    let none = sym c.in_ok-tolds.ensures.items in
    let Acks : List ToldOf → Type 0 = λ ds. IfSome (last_stamp None (map told ds)) (λ _. H.IsIntact mid → (x : Tables) → H.left mid x → x ≡ (H.seen mid).now) in
    record {
      stays = failed.stays;
      count = search rules;
      room = search rules;
      small = search rules;
      ran = λ intact others zip start shows. subst (λ ds. RanAfter H.IsOpen H.seen H.left start (LeftByGroup H.IsOpen H.seen H.left others old) [] (map told ds) mid) none
          (group_failed H.IsOpen H.seen H.left (H.seen old).limits (map arrival c.args.events.now) others start old mid
          (λ opened. (c.requires.rest (failed.stays.intact intact, opened)).limits) zip shows (failed.untouched intact) (failed.crash intact));
      acknowledged = subst Acks none tt;
    }

pub loop-event-preserved : goal.loop-event-preserved
loop-event-preserved g c =
    let H = g.H.Storage in
    let so_far = c.loop-event.invariant in
    let one = rw c.in-Told.is at c.apply_in_pieces.ensures in
    let done = c.in-Told.told in
    let before = c.loop-event.tolds.items in
    let new = c.apply_in_pieces.new.host in
    let Acks : Option ℕ → Type 0 = λ o. IfSome o (λ _. H.IsIntact new → (x : Tables) → H.left new x → x ≡ (H.seen new).now) in
    let said : map told c.push_reserved.new.self.items ≡ map told before ++ told done ∷ [] = ap (map told) c.push_reserved.ensures.items ∙ map-append told before (done ∷ []) in
    record {
      stays = stays_then so_far.stays one.stays;
      count = search rules;
      room = search rules;
      small = subst (All HasSmallReply) (sym c.push_reserved.ensures.items) (All-push HasSmallReply before done so_far.small one.small);
      ran = λ intact others zip start shows.
          subst (λ ds. RanAfter H.IsOpen H.seen H.left start (LeftByGroup H.IsOpen H.seen H.left others c.args.host.now) (take (c.loop-event.event-index + 1) others) ds new) (sym said)
          (alike_more H.IsIntact H.IsOpen H.seen H.left (H.seen c.args.host.now).limits start (LeftByGroup H.IsOpen H.seen H.left others c.args.host.now) c.args.events.now others
          c.loop-event.event-index c.event-item.result (map told before) done.stamp (reply_bytes done.reply) c.loop-event.host new zip c.loop-event-test.true c.event-item.is
          (λ i opened. (so_far.stays.ready (one.stays.intact i, opened)).limits ∙ so_far.stays.limits) (so_far.ran (one.stays.intact intact) others zip start shows) intact one.happened);
      acknowledged = subst (λ ds. Acks (last_stamp None ds)) (sym said) (subst Acks (sym (last_of (map told before) (told done) None)) one.happened.acknowledged);
    }

-- in one transaction
pub returns-in-Ok-clause-goes_on : goal.returns-in-Ok-clause-goes_on
returns-in-Ok-clause-goes_on g c = λ intact others zip.
    let H = g.H.Storage in
    let done = c.in-Ok.ensures in
    group_ran H.IsOpen H.seen H.left (H.seen c.args.host.now).limits c.args.events.now others c.in-Ok.group c.args.host.now c.apply_group.new.host
    (λ opened. (c.requires.rest (done.stays.intact intact, opened)).limits) zip c.requires.some done.whole (done.ran intact) (done.acknowledged intact)

pub returns-in-Ok-clause-ran : goal.returns-in-Ok-clause-ran
returns-in-Ok-clause-ran g c = λ intact.
    let H = g.H.Storage in
    let came = take (count_of c.in-Ok.group) (map arrival c.args.events.now) in
    let said = tolds_in (H.seen c.apply_group.new.host).now c.in-Ok.group in
    from_here H.IsOpen H.seen H.left came said c.args.host.now c.apply_group.new.host
    (returns-in-Ok-clause-goes_on g c intact (map arrival c.args.events.now) (all_alike (H.seen c.args.host.now).limits (map arrival c.args.events.now)))

pub returns-in-Ok-clause-alone : goal.returns-in-Ok-clause-alone
returns-in-Ok-clause-alone g c = λ intact.
    let came = take (count_of c.in-Ok.group) (map arrival c.args.events.now) in
    let said = tolds_in (g.H.Storage.seen c.apply_group.new.host).now c.in-Ok.group in
    each_alone g.H.Storage.IsOpen g.H.Storage.seen g.H.Storage.left came said c.args.host.now c.apply_group.new.host (returns-in-Ok-clause-ran g c intact)

pub returns-in-Ok-clause-crash : goal.returns-in-Ok-clause-crash
returns-in-Ok-clause-crash g c = λ intact.
    let came = take (count_of c.in-Ok.group) (map arrival c.args.events.now) in
    let said = tolds_in (g.H.Storage.seen c.apply_group.new.host).now c.in-Ok.group in
    ran_would g.H.Storage.IsOpen g.H.Storage.seen g.H.Storage.left came said c.args.host.now c.apply_group.new.host (returns-in-Ok-clause-ran g c intact)

pub returns-in-Ok-clause-open : goal.returns-in-Ok-clause-open
returns-in-Ok-clause-open g c = if_some c.in-Ok.group.planned _ (λ intact. (c.in-Ok.ensures.ran intact).1)

-- each in its own, up to one whose object is still to be read
pub returns-in-Planned-clause-goes_on : goal.returns-in-Planned-clause-goes_on
returns-in-Planned-clause-goes_on g c = λ intact others zip start shows.
    let H = g.H.Storage in
    let it = c.loop-event in
    let one = rw c.in-Planned.is at c.apply_in_pieces.ensures in
    let reply = c.in-Planned.reply in
    let old = c.args.host.now in
    let new = c.apply_in_pieces.new.host in
    let limits = (H.seen old).limits in
    let bytes = reply.head.items ++ to_come reply.plan (H.seen new).now in
    let count : length it.tolds.items ≡ it.event-index = omega (arith, it.invariant.count, it.tolds.ok.0) in
    subst (λ k. RanFrom H.IsOpen H.seen H.left start (take (k + 1) others) (map told it.tolds.items ++ (Some reply.stamp, bytes) ∷ []) old new) (sym count)
    (alike_last H.IsIntact H.IsOpen H.seen H.left limits start (LeftByGroup H.IsOpen H.seen H.left others old) c.args.events.now others
    it.event-index c.event-item.result (map told it.tolds.items) reply.stamp bytes old it.host new zip c.loop-event-test.true c.event-item.is
    (λ i opened. (it.invariant.stays.ready (one.stays.intact i, opened)).limits ∙ it.invariant.stays.limits) (it.invariant.ran (one.stays.intact intact) others zip start shows) intact one.happened)

pub returns-in-Planned-clause-ran : goal.returns-in-Planned-clause-ran
returns-in-Planned-clause-ran g c = λ intact.
    let H = g.H.Storage in
    let came = map arrival c.args.events.now in
    let said = map told c.loop-event.tolds.items ++ planned_in (H.seen c.apply_in_pieces.new.host).now (Some c.in-Planned.reply) in
    from_here H.IsOpen H.seen H.left (take (length c.loop-event.tolds.items + 1) came) said c.args.host.now c.apply_in_pieces.new.host
    (returns-in-Planned-clause-goes_on g c intact came (all_alike (H.seen c.args.host.now).limits came))

pub returns-in-Planned-clause-alone : goal.returns-in-Planned-clause-alone
returns-in-Planned-clause-alone g c = λ intact.
    let H = g.H.Storage in
    let came = take (length c.loop-event.tolds.items + 1) (map arrival c.args.events.now) in
    let said = map told c.loop-event.tolds.items ++ planned_in (H.seen c.apply_in_pieces.new.host).now (Some c.in-Planned.reply) in
    each_alone H.IsOpen H.seen H.left came said c.args.host.now c.apply_in_pieces.new.host (returns-in-Planned-clause-ran g c intact)

pub returns-in-Planned-clause-crash : goal.returns-in-Planned-clause-crash
returns-in-Planned-clause-crash g c = λ intact.
    let H = g.H.Storage in
    let came = take (length c.loop-event.tolds.items + 1) (map arrival c.args.events.now) in
    let said = map told c.loop-event.tolds.items ++ planned_in (H.seen c.apply_in_pieces.new.host).now (Some c.in-Planned.reply) in
    ran_would H.IsOpen H.seen H.left came said c.args.host.now c.apply_in_pieces.new.host (returns-in-Planned-clause-ran g c intact)

pub returns-in-Planned-clause-open : goal.returns-in-Planned-clause-open
returns-in-Planned-clause-open g c = λ intact. ((rw c.in-Planned.is at c.apply_in_pieces.ensures.happened).applied intact).1

pub returns-in-Planned-clause-acknowledged : goal.returns-in-Planned-clause-acknowledged
returns-in-Planned-clause-acknowledged g c =
    let H = g.H.Storage in
    let new = c.apply_in_pieces.new.host in
    let reply = c.in-Planned.reply in
    let one = rw c.in-Planned.is at c.apply_in_pieces.ensures in
    let Acks : Option ℕ → Type 0 = λ o. IfSome o (λ _. H.IsIntact new → (x : Tables) → H.left new x → x ≡ (H.seen new).now) in
    subst Acks (sym (last_of (map told c.loop-event.tolds.items) (Some reply.stamp, reply.head.items ++ to_come reply.plan (H.seen new).now) None)) one.happened.acknowledged

-- each in its own, all of them
pub returns-clause-goes_on : goal.returns-clause-goes_on
returns-clause-goes_on g c = λ intact others zip start shows.
    let H = g.H.Storage in
    let it = c.loop-event in
    let count : length it.tolds.items ≡ it.event-index = omega (arith, it.invariant.count, it.tolds.ok.0) in
    each_ran H.IsOpen H.seen H.left (H.seen c.args.host.now).limits c.args.events.now others it.event-index it.tolds.items start c.args.host.now it.host zip
    c.loop-event-test.false count shows (it.invariant.ran intact others zip start shows)

pub returns-clause-ran : goal.returns-clause-ran
returns-clause-ran g c = λ intact.
    let H = g.H.Storage in
    let came = map arrival c.args.events.now in
    from_here H.IsOpen H.seen H.left (take (length c.loop-event.tolds.items + 0) came) (map told c.loop-event.tolds.items ++ []) c.args.host.now c.loop-event.host
    (returns-clause-goes_on g c intact came (all_alike (H.seen c.args.host.now).limits came))

pub returns-clause-alone : goal.returns-clause-alone
returns-clause-alone g c = λ intact.
    let came = take (length c.loop-event.tolds.items + 0) (map arrival c.args.events.now) in
    let said = map told c.loop-event.tolds.items ++ [] in
    each_alone g.H.Storage.IsOpen g.H.Storage.seen g.H.Storage.left came said c.args.host.now c.loop-event.host (returns-clause-ran g c intact)

pub returns-clause-crash : goal.returns-clause-crash
returns-clause-crash g c = λ intact.
    let came = take (length c.loop-event.tolds.items + 0) (map arrival c.args.events.now) in
    let said = map told c.loop-event.tolds.items ++ [] in
    ran_would g.H.Storage.IsOpen g.H.Storage.seen g.H.Storage.left came said c.args.host.now c.loop-event.host (returns-clause-ran g c intact)
