-- Events that are read alike do the same.
use Rattle.std.proofs.Common.{◌≡◌, ◌<◌, take, length, get_or, ℕ, suc, zero, List, [], ◌∷◌, ◌++◌, ◌+◌, map, Option, Some, None, refl, sym, ◌∙◌, ap, subst, arith, inl, inr}
use Rattle.std.specs.List.{AllZip}
use Rattle.std.proofs.lemmas.List.{get_or-map, length-map, take_more}
use Rattle.std.proofs.lemmas.List.Elements.{AllZip-get_or, length_all_zip}
use Rattle.bh_types.specs.Limits.{HostLimits}
use Rattle.bh_event.specs.Events.{Arrival, arrival}
use Rattle.bh_event.specs.declared.event.Event.{Event}
use Rattle.bh_http.specs.Reading.{Reads}
use Rattle.bh_storage.specs.Calls.{Seen}
use Rattle.bh_tables.specs.Typed.{Tables}
use Rattle.bh_view.specs.View.{limits_in}
use Rattle.bh_host.specs.Groups.{RanTogether, AreReadAlike, IsReadAlike}
use Rattle.bh_host.specs.Runs.{Told, RanFrom}
use Rattle.bh_host.specs.Turns.{Applied, Happened, IsToldApart, WouldApply, WouldApplySome, fixed, request_at}
use Rattle.bh_host.proofs.Running.{RanAfter, applied_limits, from_one, ran-append, remains_stamped}

-- ---- one event

-- what holds of a request by what it is read as holds of each that is read alike
alike : (limits : HostLimits) (event other : Arrival) (P : Arrival → Type 0)
    → ((reading : ℕ) (bytes all : List ℕ) → AreReadAlike limits bytes all → P (request_at reading bytes) → P (request_at reading all)) → IsReadAlike limits event other → P event → P other
alike limits event other P go (inl same) holds = subst P (sym same) holds
alike limits event other P go (inr (reading, bytes, all, is, is_other, reads)) holds = subst P (sym is_other) (go reading bytes all reads (subst P is holds))

applied_alike : (limits : HostLimits) (event other : Arrival) (old new : Tables) (m : ℕ) (reply : List ℕ) → limits_in old ≡ limits → IsReadAlike limits event other
    → Applied event old new (Some m) reply → Applied other old new (Some m) reply
applied_alike limits event other old new m reply same = alike limits event other (λ e. Applied e old new (Some m) reply) go
  where
    go : (reading : ℕ) (bytes all : List ℕ) → AreReadAlike limits bytes all → Applied (request_at reading bytes) old new (Some m) reply → Applied (request_at reading all) old new (Some m) reply
    go reading bytes all reads (stamp, latest, (act, (answer, read, is), turned)) =
        (stamp, latest, (act, (answer, subst (λ l. Reads l all answer) (sym same) (reads answer (subst (λ l. Reads l bytes answer) same read)), is), turned))

apart_alike : (limits : HostLimits) (event other : Arrival) (stamp : Option ℕ) (reply : List ℕ) → IsReadAlike limits event other → IsToldApart event stamp reply → IsToldApart other stamp reply
apart_alike limits event other None reply like = alike limits event other (λ e. reply ≡ fixed e) (λ reading bytes all reads told. told) like
apart_alike limits event other (Some m) reply like = alike limits event other (λ e. IsToldApart e (Some m) reply) (λ reading bytes all reads apart. apart) like

would_alike : (limits : HostLimits) (event other : Arrival) (old x : Tables) → limits_in old ≡ limits → IsReadAlike limits event other → WouldApply event old x → WouldApply other old x
would_alike limits event other old x same like (m, reply, did) = (m, reply, applied_alike limits event other old x m reply same like did)

-- ---- events after events

pub all_alike : (limits : HostLimits) (events : List Arrival) → AllZip (IsReadAlike limits) events events
all_alike limits [] = tt
all_alike limits (e ∷ events) = (inl refl, all_alike limits events)

zip_take : (limits : HostLimits) (n : ℕ) (events others : List Arrival) → AllZip (IsReadAlike limits) events others → AllZip (IsReadAlike limits) (take n events) (take n others)
zip_take limits zero events others zip = tt
zip_take limits (suc n) [] [] zip = tt
zip_take limits (suc n) [] (o ∷ others) zip = absurd zip
zip_take limits (suc n) (e ∷ events) [] zip = absurd zip
zip_take limits (suc n) (e ∷ events) (o ∷ others) (one, rest) = (one, zip_take limits n events others rest)

pub some_alike : (limits : HostLimits) (events others : List Arrival) (old x : Tables) → limits_in old ≡ limits → AllZip (IsReadAlike limits) events others
    → WouldApplySome events old x → WouldApplySome others old x
some_alike limits [] others old x same zip would = absurd would
some_alike limits (e ∷ events) [] old x same zip would = absurd zip
some_alike limits (e ∷ events) (o ∷ others) old x same (one, rest) (inl would) = inl (some_alike limits events others old x same rest would)
some_alike limits (e ∷ events) (o ∷ others) old x same (one, rest) (inr (mid, did, inl is)) = inr (mid, would_alike limits e o old mid same one did, inl is)
some_alike limits (e ∷ events) (o ∷ others) old x same (one, rest) (inr (mid, (m, reply, did), inr would)) =
    inr (mid, (m, reply, applied_alike limits e o old mid m reply same one did), inr (some_alike limits events others mid x (applied_limits e m old mid reply did ∙ same) rest would))

all_together : (limits : HostLimits) (events others : List Arrival) (dones : List Told) (old new : Tables) → limits_in old ≡ limits → AllZip (IsReadAlike limits) events others
    → RanTogether events dones old new → RanTogether others dones old new
all_together limits [] [] dones old new same zip ran = ran
all_together limits [] (o ∷ others) dones old new same zip ran = absurd zip
all_together limits (e ∷ events) [] dones old new same zip ran = absurd zip
all_together limits (e ∷ events) (o ∷ others) [] old new same zip ran = absurd ran
all_together limits (e ∷ events) (o ∷ others) ((None, reply) ∷ dones) old new same zip (mid, at, ran) = absurd at
all_together limits (e ∷ events) (o ∷ others) ((Some m, reply) ∷ dones) old new same (one, rest) (mid, (did, apart), ran) =
    (mid, (applied_alike limits e o old mid m reply same one did, apart_alike limits e o (Some m) reply one apart), all_together limits events others dones mid new (applied_limits e m old mid reply did ∙ same) rest ran)

pub together_alike : (limits : HostLimits) (n : ℕ) (events others : List Arrival) (dones : List Told) (old new : Tables) → limits_in old ≡ limits → AllZip (IsReadAlike limits) events others
    → RanTogether (take n events) dones old new → RanTogether (take n others) dones old new
together_alike limits n events others dones old new same zip = all_together limits (take n events) (take n others) dones old new same (zip_take limits n events others zip)

-- ---- on a storage

module _ {H : Type 0} (IsIntact IsOpen : H → Type 0) (seen : H → Seen) (left : H → Tables → Type 0) where
  happened_alike : (limits : HostLimits) (event other : Arrival) (old new : H) (stamp : Option ℕ) (reply : List ℕ) → (IsIntact new → IsOpen old → limits_in (seen old).now ≡ limits)
      → IsReadAlike limits event other → Happened IsIntact IsOpen seen left event old new stamp reply → Happened IsIntact IsOpen seen left other old new stamp reply
  happened_alike limits event other old new None reply same like did = record {
    applied = did.applied;
    told_apart = λ intact. apart_alike limits event other None reply like (did.told_apart intact);
    acknowledged = tt;
    crash = λ intact x leaves. elim (did.crash intact x leaves) [
      | inl stays ↦ inl stays
      | inr (opened, would) ↦ inr (opened, would_alike limits event other (seen old).now x (same intact opened) like would)
    ];
  }
  happened_alike limits event other old new (Some m) reply same like did = record {
    applied = λ intact. let (was, still, applied) = did.applied intact in (was, still, applied_alike limits event other (seen old).now (seen new).now m reply (same intact was) like applied);
    told_apart = λ intact. apart_alike limits event other (Some m) reply like (did.told_apart intact);
    acknowledged = did.acknowledged;
    crash = tt;
  }

  -- the other event at the same place
  place_alike : (limits : HostLimits) (events : List Event) (others : List Arrival) (i : ℕ) (event : Event) → AllZip (IsReadAlike limits) (map arrival events) others → i < length events
      → event ≡ get_or events i event → IsReadAlike limits (arrival event) (get_or others i (arrival event))
  place_alike limits events others i event zip lt is =
      let at : i < length (map arrival events) = omega (arith, lt, length-map events arrival) in
      let here : get_or (map arrival events) i (arrival event) ≡ arrival event = get_or-map arrival events i event (arrival event) lt ∙ ap arrival (sym is) in
      subst (λ e. IsReadAlike limits e (get_or others i (arrival event))) here
      (AllZip-get_or (IsReadAlike limits) (map arrival events) others i (arrival event) (arrival event) zip at)

  next_place : (limits : HostLimits) (events : List Event) (others : List Arrival) (i : ℕ) (event : Event) → AllZip (IsReadAlike limits) (map arrival events) others → i < length events
      → take (i + 1) others ≡ take i others ++ get_or others i (arrival event) ∷ []
  next_place limits events others i event zip lt =
      let same = length_all_zip (IsReadAlike limits) (map arrival events) others zip in
      take_more others i (arrival event) (omega (arith, lt, same, length-map events arrival))

  -- a run of events that are read alike goes on by one
  pub alike_more : (limits : HostLimits) (start : Tables) (before : Tables → Type 0) (events : List Event) (others : List Arrival) (i : ℕ) (event : Event) (dones : List Told)
      (stamp : Option ℕ) (reply : List ℕ) (mid new : H) → AllZip (IsReadAlike limits) (map arrival events) others → i < length events → event ≡ get_or events i event
      → (IsIntact new → IsOpen mid → limits_in (seen mid).now ≡ limits) → RanAfter IsOpen seen left start before (take i others) dones mid
      → IsIntact new → Happened IsIntact IsOpen seen left (arrival event) mid new stamp reply
      → RanAfter IsOpen seen left start before (take (i + 1) others) (dones ++ (stamp, reply) ∷ []) new
  alike_more limits start before events others i event dones stamp reply mid new zip lt is same ran intact did =
      let other = get_or others i (arrival event) in
      let done = happened_alike limits (arrival event) other mid new stamp reply same (place_alike limits events others i event zip lt is) did in
      subst (λ es. RanAfter IsOpen seen left start before es (dones ++ (stamp, reply) ∷ []) new) (sym (next_place limits events others i event zip lt))
      (from_one IsOpen seen left start before (take i others) dones other stamp reply mid new ran (done.applied intact) (done.told_apart intact) (IsIntact new) intact done.acknowledged done.crash)

  -- and ends with a reply whose object is still to be read
  pub alike_last : (limits : HostLimits) (start : Tables) (before : Tables → Type 0) (events : List Event) (others : List Arrival) (i : ℕ) (event : Event) (dones : List Told)
      (m : ℕ) (reply : List ℕ) (old mid new : H) → AllZip (IsReadAlike limits) (map arrival events) others → i < length events → event ≡ get_or events i event
      → (IsIntact new → IsOpen mid → limits_in (seen mid).now ≡ limits) → RanAfter IsOpen seen left start before (take i others) dones mid
      → IsIntact new → Happened IsIntact IsOpen seen left (arrival event) mid new (Some m) reply
      → RanFrom IsOpen seen left start (take (i + 1) others) (dones ++ (Some m, reply) ∷ []) old new
  alike_last limits start before events others i event dones m reply old mid new zip lt is same ran intact did =
      let other = get_or others i (arrival event) in
      let end = (seen new).now in
      let done = happened_alike limits (arrival event) other mid new (Some m) reply same (place_alike limits events others i event zip lt is) did in
      let (was, still, applied) = done.applied intact in
      let one : Applied other ran.end end (Some m) reply = subst (λ x. Applied other x end (Some m) reply) (ran.now was) applied in
      subst (λ es. RanFrom IsOpen seen left start es (dones ++ (Some m, reply) ∷ []) old new) (sym (next_place limits events others i event zip lt)) (record {
        end = end;
        ran = ran-append (take i others) (other ∷ []) dones ((Some m, reply) ∷ []) start ran.end end ran.ran (end, one, done.told_apart intact, refl);
        now = λ _. refl;
        crash = λ x leaves. remains_stamped [] (take i others) dones other m reply (left old) end x start ran.end ran.ran (done.acknowledged intact x leaves);
      })
