-- Visits after visits.
use Rattle.std.proofs.Common.{◌≡◌, ◌<◌, ◌≤◌, ◌+◌, ℕ, Bool, true, false, List, [], ◌∷◌, ◌++◌, map, length, refl, sym, ap, subst, ◌∙◌, Option, Some, None, Result, Ok, Err, append-nil, append_assoc, length-append, inl, inr, arith, ◌||◌}
use Rattle.std.specs.Prelude.{All, IsErr, MatchResult, filter_map, option_map}
use Rattle.std.specs.List.{flat_map, cons_option, list_any}
use Rattle.std.proofs.lemmas.List.{length-map}
use Rattle.std.proofs.lemmas.Bool.{false≢true}
use Rattle.std.proofs.lemmas.List.Elements.{All-nil, All-push, filter_map-append}
use Rattle.std.proofs.lemmas.Grind.{flat_map-append}
use Rattle.bh_types.specs.Limits.{HostLimits}
use Rattle.bh_event.specs.Events.{Arrival as Event}
use Rattle.bh_tables.specs.Typed.{Tables}
use Rattle.bh_storage.specs.Calls.{Seen}
use Rattle.bh_host.specs.Runs.{Told, RanOn}
use Rattle.bh_http.specs.Transfers.{Logs}
use Rattle.bh_http.proofs.TransferLemmas.{logs_nothing, logs_then}
use Rattle.bh_host.proofs.Running as running
use Rattle.bh_host.specs.declared.reply.Caller.{Caller}
use Rattle.bh_host.specs.declared.reply.Caller.TheVariants.{Request, Operator}
use Rattle.bh_host.specs.Turns.{request_at}
use Rattle.bh_connection.specs.Connections.{Ends, Outcome, IsTakenBack}
use Rattle.bh_connection.specs.Each as each
use Rattle.bh_connection.specs.Each.{Row, RunsGoOn, HasServed}
use Rattle.bh_connection.specs.Groups.{Call, Closed, IsGroup, begins_with, calls_of, in_groups}
use Rattle.bh_connection.specs.declared.group.Grouped.{Grouped}
use Rattle.bh_connection.specs.declared.served.Served.{Served}
use Rattle.bh_connection.specs.declared.served.Visited.{Visited}
use Rattle.bh_connection.specs.Operators.{Heard, CutOff, NotHeard, NoOrder, Obeyed, Copied, Stopping, Notes, Obeys, is_stopping}
use Rattle.bh_connection.specs.Visits.{Visit, OfClient, OfOperator, CameBy, AllCame, IsAdmitted, AllAdmitted, DidBy, NotedBy, NoneStops, RanFor, event_of, told_of, event_heard, told_heard, is_stop, sweeps}
use Rattle.bh_connection.specs.Listening.{AllOpen, DidGroup, HasListened, HasServedAll, HasStopped, IsServed, Serves, VisitedAs, WereCounted, is_shut, trouble_of}
use Rattle.bh_connection.proofs.EachLemmas.{ran_stays, ran_applied, ran_back, ran_with, run_alone, ran_no_request}
use Rattle.bh_connection.proofs.GroupLemmas.{clients, all_came, all_admitted, none_stop, none_sweep, events_of, tolds_of, all_open, some_shut, calls_in, calls_are, is_group}

-- ---- groups after groups

-- one group more
pub logs_more : (a b c : Option (List Call)) (groups : List (List Visit)) (group : List Visit) → Logs a b (flat_map calls_of groups) → Logs b c (calls_of group)
    → Logs a c (flat_map calls_of (groups ++ group ∷ []))
logs_more a b c groups group p q =
    let all : flat_map calls_of (groups ++ group ∷ []) ≡ flat_map calls_of groups ++ calls_of group =
    flat_map-append calls_of groups (group ∷ []) ∙ ap (λ l. flat_map calls_of groups ++ l) (append-nil (calls_of group)) in
    subst (Logs a c) (sym all) (logs_then a b c (flat_map calls_of groups) (calls_of group) p q)

pub in_more : (groups : List (List Visit)) (group : List Visit) → in_groups (groups ++ group ∷ []) ≡ in_groups groups ++ group
in_more groups group = flat_map-append (λ g. g) groups (group ∷ []) ∙ ap (λ l. in_groups groups ++ l) (append-nil group)

came_both : (secret : Option (List ℕ)) (limits : HostLimits) (visits more : List Visit) → AllCame secret limits visits → AllCame secret limits more → AllCame secret limits (visits ++ more)
came_both secret limits [] more all came = came
came_both secret limits (v ∷ visits) more (first, rest) came = (first, came_both secret limits visits more rest came)

admitted_both : (operated : Bool) (visits more : List Visit) → AllAdmitted operated visits → AllAdmitted operated more → AllAdmitted operated (visits ++ more)
admitted_both operated [] more all one = one
admitted_both operated (v ∷ visits) more (first, rest) one = (first, admitted_both operated visits more rest one)

open_both : (visits more : List Visit) → AllOpen visits → AllOpen more → AllOpen (visits ++ more)
open_both [] more all one = one
open_both (v ∷ visits) more (first, rest) one = (first, open_both visits more rest one)

none_both : (visits more : List Visit) → NoneStops visits → NoneStops more → NoneStops (visits ++ more)
none_both [] more all one = one
none_both (v ∷ visits) more (first, rest) one = (first, none_both visits more rest one)

pub open_more : (groups : List (List Visit)) (group : List Visit) → AllOpen (in_groups groups) → AllOpen group → AllOpen (in_groups (groups ++ group ∷ []))
open_more groups group all one = subst AllOpen (sym (in_more groups group)) (open_both (in_groups groups) group all one)

pub none_more : (groups : List (List Visit)) (group : List Visit) → NoneStops (in_groups groups) → NoneStops group → NoneStops (in_groups (groups ++ group ∷ []))
none_more groups group all one = subst NoneStops (sym (in_more groups group)) (none_both (in_groups groups) group all one)

pub stopped_by : (groups : List (List Visit)) (group : List Visit) → NoneStops (in_groups groups) → HasStopped group → HasStopped (in_groups (groups ++ group ∷ []))
stopped_by groups group none stop = record {
  before = in_groups groups ++ stop.before;
  last = stop.last;
  all = in_more groups group ∙ ap (λ g. in_groups groups ++ g) stop.all ∙ sym (append_assoc (in_groups groups) stop.before (stop.last ∷ []));
  going = none_both (in_groups groups) stop.before none stop.going;
  why = stop.why;
}

pub count_more : (groups : List (List Visit)) (group : List Visit) → length (in_groups (groups ++ group ∷ [])) ≡ length (in_groups groups) + length group
count_more groups group = ap (λ (l : List Visit). length l) (in_more groups group) ∙ length-append (in_groups groups) group

-- nothing fails behind the reply to a stop
stop_is_open : (visit : Visit) → NotedBy visit → is_stop visit ≡ true → is_shut (trouble_of visit) ≡ false
stop_is_open (OfClient row) noted is = absurd (false≢true is)
stop_is_open (OfOperator row) noted is = heard row.heard noted is
  where
    heard : (heard : Heard) → Notes heard row.served.trouble → is_stopping heard ≡ true → is_shut row.served.trouble ≡ false
    heard CutOff noted is = absurd (false≢true is)
    heard NotHeard noted is = absurd (false≢true is)
    heard NoOrder noted is = absurd (false≢true is)
    heard (Obeyed event told) noted is = absurd (false≢true is)
    heard (Copied to reply) noted is = absurd (false≢true is)
    heard Stopping noted is = ap is_shut noted

-- ---- runs

-- the readings and the bytes of clients' requests
abbrev requests_of : List Visit → List (ℕ × List ℕ)
requests_of [] = []
requests_of (OfClient row ∷ visits) = cons_option (option_map (λ o. (row.before.reading, o.0)) row.outcome) (requests_of visits)
requests_of (OfOperator row ∷ visits) = requests_of visits

request_more : (reading : ℕ) (outcome : Outcome) (events : List Event) (requests : List (ℕ × List ℕ)) → events ≡ map (λ r. request_at r.0 r.1) requests
    → cons_option (option_map (λ o. request_at reading o.0) outcome) events ≡ map (λ r. request_at r.0 r.1) (cons_option (option_map (λ o. (reading, o.0)) outcome) requests)
request_more reading None events requests same = same
request_more reading (Some o) events requests same = ap (λ t. request_at reading o.0 ∷ t) same

all_requests : (visits : List Visit) → AllAdmitted false visits → filter_map event_of visits ≡ map (λ r. request_at r.0 r.1) (requests_of visits)
all_requests [] admitted = refl
all_requests (OfClient row ∷ visits) (first, rest) = request_more row.before.reading row.outcome (filter_map event_of visits) (requests_of visits) (all_requests visits rest)
all_requests (OfOperator row ∷ visits) (first, rest) = absurd (false≢true first)

module _ {H C : Type 0} (IsIntact IsOpen : H → Type 0) (seen : H → Seen) (left : H → Tables → Type 0) (shows : C → Tables → Type 0) where
  -- a run, and an operator's visit more
  ran_heard : (events : List Event) (tolds : List Told) (heard : Heard) (old mid new : H) → IsIntact new → RanOn IsOpen seen left events tolds old mid
      → Obeys IsIntact IsOpen seen left shows heard mid new
      → RanOn IsOpen seen left (events ++ cons_option (event_heard heard) []) (tolds ++ cons_option (told_heard heard) []) old new
  ran_heard events tolds CutOff old mid new intact ran same = ran_stays IsIntact IsOpen seen left events tolds old mid new ran same
  ran_heard events tolds NotHeard old mid new intact ran same = ran_stays IsIntact IsOpen seen left events tolds old mid new ran same
  ran_heard events tolds NoOrder old mid new intact ran same = ran_stays IsIntact IsOpen seen left events tolds old mid new ran same
  ran_heard events tolds (Obeyed event told) old mid new intact ran did = ran_applied IsIntact IsOpen seen left events tolds event told old mid new intact ran did
  ran_heard events tolds (Copied to reply) old mid new intact ran did =
      ran_stays IsIntact IsOpen seen left events tolds old new new (ran_back IsIntact IsOpen seen left events tolds old mid new intact ran did.stays) refl
  ran_heard events tolds Stopping old mid new intact ran same = ran_stays IsIntact IsOpen seen left events tolds old mid new ran same

  -- a run, and a visit more
  ran_visit : (events : List Event) (tolds : List Told) (visit : Visit) (old mid new : H) → IsIntact new → RanOn IsOpen seen left events tolds old mid
      → DidBy IsIntact IsOpen seen left shows visit mid new
      → RanOn IsOpen seen left (events ++ cons_option (event_of visit) []) (tolds ++ cons_option (told_of visit) []) old new
  ran_visit events tolds (OfClient row) old mid new intact ran did = ran_with IsIntact IsOpen seen left events tolds row.before.reading row.served.ended row.outcome old mid new intact ran did
  ran_visit events tolds (OfOperator row) old mid new intact ran did = ran_heard events tolds row.heard old mid new intact ran did

  pub ran_nothing : (operated : Bool) (old : H) → RanFor operated IsOpen seen left old old
  ran_nothing false old = ran_no_request IsIntact IsOpen seen left old
  ran_nothing true old = ([], [], running.ran_none IsOpen seen left old)

  -- ---- and what each tenant is told in them

  module _ (secret : Option (List ℕ)) where
    has_served : (visits : List Visit) (old new : H) → AllCame secret (seen old).limits visits → (IsIntact new → RanOn IsOpen seen left (filter_map event_of visits) (filter_map told_of visits) old new)
        → HasServedAll IsIntact IsOpen seen left secret visits old new
    has_served visits old new each ran = record {
      each = each;
      ran = ran;
      alone = λ intact. run_alone IsIntact IsOpen seen left (filter_map event_of visits) (filter_map told_of visits) old new (ran intact);
    }

    -- twice nothing changed
    pub back_then : (old mid new : H) → (IsIntact new → IsIntact mid) → IsTakenBack IsIntact IsOpen seen left old mid → IsTakenBack IsIntact IsOpen seen left mid new → IsTakenBack IsIntact IsOpen seen left old new
    back_then old mid new still first second = record {
      same = λ intact up. let (was, same) = second.same intact up in let (before, first_same) = first.same (still intact) was in (before, same ∙ first_same);
      survives = λ intact x leaves. first.survives (still intact) x (second.survives intact x leaves);
    }

    -- visits, and a look that changed nothing
    pub served_still : (visits : List Visit) (old mid new : H) → (IsIntact new → IsIntact mid) → IsTakenBack IsIntact IsOpen seen left mid new → HasServedAll IsIntact IsOpen seen left secret visits old mid
        → HasServedAll IsIntact IsOpen seen left secret visits old new
    served_still visits old mid new still back served =
        has_served visits old new served.each (λ intact. ran_back IsIntact IsOpen seen left (filter_map event_of visits) (filter_map told_of visits) old mid new intact (served.ran (still intact)) back)

    pub nothing_came : (old : H) → HasServedAll IsIntact IsOpen seen left secret [] old old
    nothing_came old = has_served [] old old tt (λ _. running.ran_none IsOpen seen left old)

    -- a run of requests, or of any events
    pub ran_for : (operated : Bool) (visits : List Visit) (old new : H) → IsIntact new → AllAdmitted operated visits → HasServedAll IsIntact IsOpen seen left secret visits old new
        → RanFor operated IsOpen seen left old new
    ran_for false visits old new intact admitted served =
        (requests_of visits, filter_map told_of visits, subst (λ es. RanOn IsOpen seen left es (filter_map told_of visits) old new) (all_requests visits admitted) (served.ran intact))
    ran_for true visits old new intact admitted served = (filter_map event_of visits, filter_map told_of visits, served.ran intact)

    -- visits, and those of a group
    pub served_more : (visits group : List Visit) (old mid new : H) → (IsIntact new → IsIntact mid) → (seen mid).limits ≡ (seen old).limits
        → HasServedAll IsIntact IsOpen seen left secret visits old mid → AllCame secret (seen mid).limits group
        → (IsIntact new → RunsGoOn IsOpen seen left (filter_map event_of group) (filter_map told_of group) mid new)
        → HasServedAll IsIntact IsOpen seen left secret (visits ++ group) old new
    served_more visits group old mid new still limits so_far came goes =
        let P : List Event → List Told → Type 0 = λ es ts. RanOn IsOpen seen left es ts old new in
        has_served (visits ++ group) old new
        (came_both secret (seen old).limits visits group so_far.each (subst (λ l. AllCame secret l group) limits came))
        (λ intact. subst (λ es. P es (filter_map told_of (visits ++ group))) (sym (filter_map-append event_of visits group))
        (subst (P (filter_map event_of visits ++ filter_map event_of group)) (sym (filter_map-append told_of visits group))
        (goes intact old (filter_map event_of visits) (filter_map told_of visits) (so_far.ran (still intact)))))

    -- ---- a group of one

    or_none : (b : Bool) → (b || false) ≡ b
    or_none true = refl
    or_none false = refl

    one_served : (operated : Bool) (a b : Option (List Call)) (visit : Visit) (grouped : Grouped) (old new : H) → IsGroup (visit ∷ []) → IsAdmitted operated visit → Logs a b (calls_of (visit ∷ []))
        → CameBy secret (seen old).limits visit → DidBy IsIntact IsOpen seen left shows visit old new → NotedBy visit
        → grouped.count ≡ 1 → is_stop visit ≡ grouped.stops → grouped.sweeps ≡ sweeps visit → grouped.is_shut ≡ is_shut (trouble_of visit)
        → Serves IsIntact IsOpen seen left shows secret operated a b grouped old new
    one_served operated a b visit grouped old new group admitted calls came did noted count stops swept shut = (
      visit ∷ [],
      record {
        is = group;
        admitted = (admitted, tt);
        calls = calls;
        served = has_served (visit ∷ []) old new (came, tt) (λ intact. ran_visit [] [] visit old old new intact (running.ran_none IsOpen seen left old) did);
        goes_on = λ intact first es ts ran. ran_visit es ts visit first old new intact ran did;
        did = did;
        count = count;
        stopped = λ is. (record { before = []; last = visit; all = refl; going = tt; why = stops ∙ is }, (stop_is_open visit noted (stops ∙ is), tt));
        going = λ is. (stops ∙ is, tt);
        swept = swept ∙ sym (or_none (sweeps visit));
        shut = λ is. inl (sym shut ∙ is);
        opened = λ is. (sym shut ∙ is, tt);
      },
    )

    pub one_is_served : (operated : Bool) (a b c : Option (List Call)) (caller : Caller) (before after : Ends) (visited : Visited) (grouped : Grouped) (old new : H)
        → (caller ≡ Operator → operated ≡ true) → Logs a b (begins_with caller before) → Logs b c (Closed after visited.served ∷ [])
        → VisitedAs IsIntact IsOpen seen left shows secret caller before after visited old new
        → grouped.count ≡ 1 → grouped.stops ≡ visited.stops → grouped.sweeps ≡ visited.sweeps → grouped.is_shut ≡ is_shut visited.served.trouble
        → Serves IsIntact IsOpen seen left shows secret operated a c grouped old new
    one_is_served operated a b c Request before after visited grouped old new admitted began closed (came, going, still) count stops swept shut =
        one_served operated a c (OfClient (record { before = before; after = after; served = visited.served; outcome = came.outcome })) grouped old new
        (tt, omega arith) tt (logs_then a b c (begins_with Request before) (Closed after visited.served ∷ []) began closed) came.came came.did tt count (sym (stops ∙ going)) (swept ∙ still) shut
    one_is_served operated a b c Operator before after visited grouped old new admitted began closed came count stops swept shut =
        one_served operated a c (OfOperator (record { before = before; after = after; served = visited.served; heard = came.heard })) grouped old new
        refl (admitted refl) (logs_then a b c (begins_with Operator before) (Closed after visited.served ∷ []) began closed) came.hears came.obeys came.notes count
        (sym (stops ∙ came.told)) (swept ∙ came.swept) shut

    -- ---- a group of clients

    did_several : (visits : List Visit) (old new : H) → 1 < length visits → HasServedAll IsIntact IsOpen seen left secret visits old new → DidGroup IsIntact IsOpen seen left shows secret visits old new
    did_several [] old new some served = absurd (omega (arith, some))
    did_several (visit ∷ []) old new some served = absurd (omega (arith, some))
    did_several (visit ∷ next ∷ visits) old new some served = served

    pub several_served : (operated : Bool) (a b : Option (List Call)) (befores afters : List Ends) (serveds : List Served) (reading : ℕ) (grouped : Grouped) (old new : H)
        → HasServed IsIntact IsOpen seen left befores afters serveds old new → 1 < length befores → length befores ≤ 64 → All (λ (e : Ends). e.reading ≡ reading) befores
        → Logs a b (calls_in befores afters serveds)
        → grouped.count ≡ length befores → grouped.stops ≡ false → grouped.sweeps ≡ false → grouped.is_shut ≡ list_any (λ (s : Served). is_shut s.trouble) serveds
        → Serves IsIntact IsOpen seen left shows secret operated a b grouped old new
    several_served operated a b befores afters serveds reading grouped old new (rows, is) some few at calls count stops swept shut =
        let P : List Event → List Told → Type 0 = λ es ts. RanOn IsOpen seen left es ts old new in
        let G : List Event → List Told → Type 0 = λ es ts. RunsGoOn IsOpen seen left es ts old new in
        let many : length (clients rows) ≡ length befores = length-map rows (λ (row : Row). OfClient row) ∙ sym (length-map rows (λ (row : Row). row.before)) ∙ ap (λ (l : List Ends). length l) is.befores in
        let shuts : grouped.is_shut ≡ list_any (λ (s : Served). is_shut s.trouble) (map (λ (row : Row). row.served) rows) = shut ∙ ap (list_any (λ (s : Served). is_shut s.trouble)) (sym is.served) in
        let served : HasServedAll IsIntact IsOpen seen left secret (clients rows) old new =
        has_served (clients rows) old new (all_came secret (seen old).limits rows is.each)
        (λ intact. subst (λ es. P es (filter_map told_of (clients rows))) (sym (events_of rows)) (subst (P (filter_map each.event_of rows)) (sym (tolds_of rows)) (is.ran intact))) in (
          clients rows,
          record {
            is = is_group rows befores reading is.befores (omega (arith, some)) few at;
            admitted = all_admitted operated rows;
            calls = subst (Logs a b) (sym (calls_are rows befores afters serveds is.befores is.afters is.served)) calls;
            served = served;
            goes_on = λ intact. subst (λ es. G es (filter_map told_of (clients rows))) (sym (events_of rows)) (subst (G (filter_map each.event_of rows)) (sym (tolds_of rows)) (is.goes_on intact));
            did = did_several (clients rows) old new (omega (arith, some, many)) served;
            count = count ∙ sym many;
            stopped = λ yes. absurd (false≢true (sym stops ∙ yes));
            going = λ _. none_stop rows;
            swept = swept ∙ sym (none_sweep rows);
            shut = λ yes. some_shut rows (sym shuts ∙ yes);
            opened = λ no. all_open rows (sym shuts ∙ no);
          },
        )

pub at_err : {X E : Type 0} (result : Result X E) (Q : X → Type 0) {P : Type 0} → IsErr result → P → MatchResult result Q (λ _. P)
at_err (Ok x) Q failed p = absurd (false≢true failed)
at_err (Err e) Q failed p = p

-- ---- all groups so far

module _ {H C : Type 0} (IsIntact IsOpen : H → Type 0) (seen : H → Seen) (left : H → Tables → Type 0) (shows : C → Tables → Type 0) (secret : Option (List ℕ)) where
  pub record HasCome (operated : Bool) (a b : Option (List Call)) (groups : List (List Visit)) (old new : H) : Type 0 where
    pub each : All IsGroup groups
    pub served : HasServedAll IsIntact IsOpen seen left secret (in_groups groups) old new
    pub admitted : AllAdmitted operated (in_groups groups)
    pub calls : Logs a b (flat_map calls_of groups)

  pub none_come : (operated : Bool) (a : Option (List Call)) (old : H) → HasCome operated a a [] old old
  none_come operated a old = record { each = All-nil IsGroup; served = nothing_came IsIntact IsOpen seen left shows secret old; admitted = tt; calls = logs_nothing a }

  -- a look that changed nothing, and no call
  pub come_still : (operated : Bool) (a b c : Option (List Call)) (groups : List (List Visit)) (old mid new : H) → (IsIntact new → IsIntact mid) → IsTakenBack IsIntact IsOpen seen left mid new → c ≡ b
      → HasCome operated a b groups old mid → HasCome operated a c groups old new
  come_still operated a b c groups old mid new still back same come = record {
    each = come.each;
    served = served_still IsIntact IsOpen seen left shows secret (in_groups groups) old mid new still back come.served;
    admitted = come.admitted;
    calls = subst (λ calls. Logs a calls (flat_map calls_of groups)) (sym same) come.calls;
  }

  pub more_come : (operated op : Bool) (a b c : Option (List Call)) (groups : List (List Visit)) (group : List Visit) (grouped : Grouped) (old mid new : H) → op ≡ operated
      → (IsIntact new → IsIntact mid) → (seen mid).limits ≡ (seen old).limits
      → HasCome operated a b groups old mid → IsServed IsIntact IsOpen seen left shows secret op b c mid new grouped group → HasCome operated a c (groups ++ group ∷ []) old new
  more_come operated op a b c groups group grouped old mid new same still limits come is = record {
    each = All-push IsGroup groups group come.each is.is;
    served = subst (λ v. HasServedAll IsIntact IsOpen seen left secret v old new) (sym (in_more groups group))
        (served_more IsIntact IsOpen seen left shows secret (in_groups groups) group old mid new still limits come.served is.served.each is.goes_on);
    admitted = subst (AllAdmitted operated) (sym (in_more groups group)) (admitted_both operated (in_groups groups) group come.admitted (subst (λ o. AllAdmitted o group) same is.admitted));
    calls = logs_more a b c groups group come.calls is.calls;
  }

-- so many as were asked for
module _ {H : Type 0} (IsIntact IsOpen : H → Type 0) (seen : H → Seen) (left : H → Tables → Type 0) (secret : Option (List ℕ)) where
  pub counted_of : {X E : Type 0} (operated : Bool) (lost : H → Bool) (before after : Option (List Call)) (count : ℕ) (result : Result X E) (old new : H)
      → HasListened IsIntact IsOpen seen left secret operated lost before after count result old new → WereCounted IsIntact IsOpen seen left secret operated count result old new
  counted_of operated lost before after count (Ok x) old new (groups, each, served, admitted, told) = (in_groups groups, served, admitted, told.0)
  counted_of operated lost before after count (Err e) old new (groups, each, served, admitted, (none, told)) = (
    in_groups groups,
    served,
    admitted,
    (elim told [ inl failed ↦ (let few = failed.0 in omega (arith, few)) | inr ended ↦ ended.1 ], none),
  )
