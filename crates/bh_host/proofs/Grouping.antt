-- Events in one transaction.
use Rattle.std.proofs.Common.{◌≡◌, ◌≤◌, ◌<◌, ◌⊎◌, take, drop, length, get_or, ℕ, List, [], ◌∷◌, ◌++◌, ◌+◌, map, Option, Some, None, Result, Ok, Err, refl, sym, ◌∙◌, ap, subst, arith, length-take, inl, inr}
use Rattle.std.specs.Prelude.{IfNone, IfOk, OnErr}
use Rattle.std.proofs.lemmas.List.{map-append, take-append-drop, take_more, take-map, length-map}
use Rattle.bh_types.specs.Limits.{HostLimits}
use Rattle.bh_types.specs.declared.refusal.Refusal.{Refusal}
use Rattle.bh_event.specs.Events.{Arrival, arrival}
use Rattle.bh_event.specs.declared.event.Event.{Event}
use Rattle.bh_http.specs.Bodies.{Gives, IsWhole, whole}
use Rattle.bh_http.specs.Reading.{completed}
use Rattle.bh_http.specs.Views.{Taken, announced_view, with_body}
use Rattle.bh_http.specs.declared.request.Head.{Head}
use Rattle.bh_machine.specs.Machine.{RequestRead}
use Rattle.bh_storage.specs.Calls.{Seen, Within, Stamps}
use Rattle.bh_tables.specs.Typed.{Tables}
use Rattle.bh_view.specs.View.{limits_in, with_latest}
use Rattle.bh_storage.specs.Plans.{to_come}
use Rattle.bh_host.specs.Answers.{told}
use Rattle.bh_host.specs.Groups.{AppliedAt, RanTogether, tolds_in, planned_in, planned_count, count_of}
use Rattle.bh_host.specs.Runs.{Told, Ran}
use Rattle.bh_host.specs.Turns.{IsActDone, IsServed, WouldApplySome}
use Rattle.bh_host.specs.declared.delivery.PlannedReply.{PlannedReply}
use Rattle.bh_host.specs.declared.event.Told.{Told as ToldOf}
use Rattle.bh_host.specs.declared.group.Group.{Group}
use Rattle.bh_host.proofs.Answered.{whole_given, completed_whole}
use Rattle.bh_host.proofs.ToldApart.{told_apart}
use Rattle.bh_host.proofs.Turning.{applied}

-- ---- one event

pub if_ok : {X E : Type 0} (r : Result X E) (P Q : X → Type 0) → ((x : X) → P x → Q x) → IfOk r P → IfOk r Q
if_ok (Ok x) P Q go p = go x p
if_ok (Err e) P Q go p = tt

pub on_err : {X E : Type 0} (r : Result X E) (P : Type 0) → P → OnErr r P
on_err (Ok x) P p = tt
on_err (Err e) P p = p

-- the body of a request that is there as a whole is what was received
pub kept_whole : (limits : HostLimits) (head : Head) (rest all after given : List ℕ) (m : ℕ) (stamped new : Tables) (reply : List ℕ) → head.body_size ≤ length rest → all ≡ take head.body_size rest
    → Gives (whole all) (whole after) given → IsWhole (whole after) → IsActDone limits (RequestRead (Ok (with_body head given))) m stamped new reply
    → IsActDone limits (RequestRead (completed (announced_view head) rest)) m stamped new reply
kept_whole limits head rest all after given m stamped new reply enough is gives came turned =
    let same : ◌≡◌ {A = Result Taken Refusal} (Ok (with_body head given)) (completed (announced_view head) rest) =
    ap (λ (b : List ℕ). Ok (with_body head b)) (whole_given all after given gives (inl came.due) ∙ is) ∙ sym (completed_whole head rest enough) in
    subst (λ (a : Result Taken Refusal). IsActDone limits (RequestRead a) m stamped new reply) same turned

-- an event's turn at its stamp
pub at_stamp : (limits : HostLimits) (event : Arrival) (m : ℕ) (old mid new : Tables) (reply : List ℕ) → limits ≡ limits_in old → Stamps event.reading m old mid
    → IsServed limits event.message m mid new reply → AppliedAt event old new (Some m, reply)
at_stamp limits event m old mid new reply is stamps turns =
    let done = applied limits event m old mid new reply is stamps turns in
    (done, told_apart (limits_in old) event.message m (with_latest m old) new reply done.2)

-- ---- events after events

together_more : (events : List Arrival) (dones : List Told) (event : Arrival) (done : Told) (old mid new : Tables) → RanTogether events dones old mid → AppliedAt event mid new done
    → RanTogether (events ++ event ∷ []) (dones ++ done ∷ []) old new
together_more [] [] event done old mid new same at = (new, subst (λ x. AppliedAt event x new done) same at, refl)
together_more [] (d ∷ dones) event done old mid new ran at = absurd ran
together_more (e ∷ events) [] event done old mid new ran at = absurd ran
together_more (e ∷ events) (d ∷ dones) event done old mid new (x, first, ran) at = (x, first, together_more events dones event done x mid new ran at)

pub together_next : (events : List Event) (i : ℕ) (event : Event) (dones : List Told) (done : Told) (old mid new : Tables) → i < length events → event ≡ get_or events i event
    → RanTogether (take i (map arrival events)) dones old mid → AppliedAt (arrival event) mid new done → RanTogether (take (i + 1) (map arrival events)) (dones ++ done ∷ []) old new
together_next events i event dones done old mid new lt is ran at =
    let next : take (i + 1) events ≡ take i events ++ event ∷ [] = take_more events i event lt ∙ ap (λ e. take i events ++ e ∷ []) (sym is) in
    let came : take (i + 1) (map arrival events) ≡ take i (map arrival events) ++ arrival event ∷ [] =
    take-map arrival (i + 1) events ∙ ap (map arrival) next ∙ map-append arrival (take i events) (event ∷ []) ∙ ap (λ es. es ++ arrival event ∷ []) (sym (take-map arrival i events)) in
    subst (λ es. RanTogether es (dones ++ done ∷ []) old new) (sym came) (together_more (take i (map arrival events)) dones (arrival event) done old mid new ran at)

-- the next one's object is still to be read
pub planned_next : (events : List Event) (i : ℕ) (event : Event) (tolds : List ToldOf) (reply : PlannedReply) (old mid new : Tables) → length tolds ≡ i → i < length events → event ≡ get_or events i event
    → RanTogether (take i (map arrival events)) (map told tolds) old mid → AppliedAt (arrival event) mid new (Some reply.stamp, reply.head.items ++ to_come reply.plan new)
    → RanTogether (take (length tolds + 1) (map arrival events)) (map told tolds ++ planned_in new (Some reply)) old new
planned_next events i event tolds reply old mid new count lt is ran at =
    let done : Told = (Some reply.stamp, reply.head.items ++ to_come reply.plan new) in
    subst (λ k. RanTogether (take (k + 1) (map arrival events)) (map told tolds ++ done ∷ []) old new) (sym count) (together_next events i event (map told tolds) done old mid new lt is ran at)

-- they are a run
pub together_ran : (events : List Arrival) (dones : List Told) (old new : Tables) → RanTogether events dones old new → Ran events dones old new
together_ran [] [] old new same = same
together_ran [] (d ∷ dones) old new ran = absurd ran
together_ran (e ∷ events) [] old new ran = absurd ran
together_ran (e ∷ events) ((None, reply) ∷ dones) old new (mid, at, ran) = absurd at
together_ran (e ∷ events) ((Some m, reply) ∷ dones) old new (mid, (did, apart), ran) = (mid, did, apart, together_ran events dones mid new ran)

-- ---- what their commit would have written

some_or_none : (events more : List Arrival) (dones : List Told) (old new : Tables) → RanTogether events dones old new → (new ≡ old) ⊎ WouldApplySome (events ++ more) old new
some_or_none [] more [] old new same = inl same
some_or_none [] more (d ∷ dones) old new ran = absurd ran
some_or_none (e ∷ events) more [] old new ran = absurd ran
some_or_none (e ∷ events) more ((None, reply) ∷ dones) old new (mid, at, ran) = absurd at
some_or_none (e ∷ events) more ((Some m, reply) ∷ dones) old new (mid, (did, apart), ran) = inr (inr (mid, (m, reply, did), some_or_none events more dones mid new ran))

would_some : (events more : List Arrival) (dones : List Told) (old new : Tables) → 0 < length events → RanTogether events dones old new → WouldApplySome (events ++ more) old new
would_some [] more dones old new some ran = absurd (omega (arith, some))
would_some (e ∷ events) more [] old new some ran = absurd ran
would_some (e ∷ events) more ((None, reply) ∷ dones) old new some (mid, at, ran) = absurd at
would_some (e ∷ events) more ((Some m, reply) ∷ dones) old new some (mid, (did, apart), ran) = inr (mid, (m, reply, did), some_or_none events more dones mid new ran)

-- the first ones of a list, if there are any
first_would : (events : List Arrival) (count : ℕ) (dones : List Told) (old new : Tables) → 0 < length events → 0 < count → RanTogether (take count events) dones old new
    → WouldApplySome events old new
first_would events count dones old new some more ran =
    let any : 0 < length (take count events) = omega (arith, some, more, length-take {A = Arrival}) in
    subst (λ es. WouldApplySome es old new) (take-append-drop count events) (would_some (take count events) (drop count events) dones old new any ran)

-- some event of a group was applied
pub counted : (events : List Event) (group : Group) → 0 < length events → IfNone group.planned (length group.tolds.items ≡ length events) → 0 < count_of group
counted events group some all = go group.planned all
  where
    go : (planned : Option PlannedReply) → IfNone planned (length group.tolds.items ≡ length events) → 0 < length group.tolds.items + planned_count planned
    go None same = omega (arith, same, some)
    go (Some reply) same = omega (arith)

-- a commit that failed may have written this
pub group_would : (events : List Event) (group : Group) (old begun mid x : Tables) → 0 < length events → IfNone group.planned (length group.tolds.items ≡ length events)
    → begun ≡ old → x ≡ mid → RanTogether (take (count_of group) (map arrival events)) (tolds_in mid group) begun mid → WouldApplySome (map arrival events) old x
group_would events group old begun mid x some all same is ran =
    let any : 0 < length (map arrival events) = omega (arith, some, length-map events arrival) in
    let would : WouldApplySome (map arrival events) begun mid = first_would (map arrival events) (count_of group) (tolds_in mid group) begun mid any (counted events group some all) ran in
    subst (λ t. WouldApplySome (map arrival events) t x) same (subst (WouldApplySome (map arrival events) begun) (sym is) would)

-- and one that succeeded did
pub group_committed : (events : List Event) (group : Group) (old begun mid new : Tables) → begun ≡ old → new ≡ mid → RanTogether (take (count_of group) (map arrival events)) (tolds_in mid group) begun mid
    → RanTogether (take (count_of group) (map arrival events)) (tolds_in new group) old new
group_committed events group old begun mid new same is ran =
    let came = take (count_of group) (map arrival events) in
    subst (λ t. RanTogether came (tolds_in t group) old t) (sym is) (subst (λ t. RanTogether came (tolds_in mid group) t mid) same ran)

-- ---- calls inside a transaction

module _ {H : Type 0} {IsIntact IsOpen : H → Type 0} {seen : H → Seen} {left : H → Tables → Type 0} where
  pub within_here : (host : H) → Within IsIntact IsOpen seen left host host
  within_here host = record { intact = λ i. i; opened = λ i o. o; survives = λ o i x l. l; kept = λ clean. refl; limits = refl }

  pub within_then : {old mid new : H} → Within IsIntact IsOpen seen left old mid → (IsOpen old → IsIntact mid → IsOpen mid) → Within IsIntact IsOpen seen left mid new → Within IsIntact IsOpen seen left old new
  within_then first opens second = record {
    intact = λ i. first.intact (second.intact i);
    opened = λ i o. first.opened (second.intact i) (second.opened i o);
    survives = λ was i x l. first.survives was (second.intact i) x (second.survives (opens was (second.intact i)) i x l);
    kept = λ clean. second.kept clean ∙ first.kept (second.intact clean.0, second.opened clean.0 clean.1);
    limits = second.limits ∙ first.limits;
  }
