-- Events in one transaction, or each in its own.
use Rattle.std.proofs.Common.{◌≡◌, ◌≤◌, ◌<◌, ◌⊎◌, take, length, ℕ, ◌+◌, List, [], ◌∷◌, ◌++◌, map, Option, Some, None, refl, sym, ◌∙◌, subst, arith, length-take, append-nil, append_assoc, inl, inr}
use Rattle.std.specs.Prelude.{IfNone, IfSome}
use Rattle.std.specs.List.{AllZip}
use Rattle.std.proofs.lemmas.List.{take_all, length-map}
use Rattle.std.proofs.lemmas.List.Elements.{length_all_zip}
use Rattle.bh_types.specs.Limits.{HostLimits}
use Rattle.bh_event.specs.Events.{Arrival, arrival}
use Rattle.bh_event.specs.declared.event.Event.{Event}
use Rattle.bh_storage.specs.Calls.{Seen}
use Rattle.bh_tables.specs.Typed.{Tables}
use Rattle.bh_view.specs.View.{limits_in}
use Rattle.bh_host.specs.Answers.{told}
use Rattle.bh_host.specs.Groups.{RanTogether, tolds_in, count_of, last_stamp, IsReadAlike}
use Rattle.bh_host.specs.Runs.{Told, Ran, RanOn, RanFrom, GoesOn, MayRemain, MayRemainSince}
use Rattle.bh_host.specs.Turns.{WouldApplySome}
use Rattle.bh_host.specs.declared.event.Told.{Told as ToldOf}
use Rattle.bh_host.specs.declared.group.Group.{Group}
use Rattle.bh_host.proofs.Alike.{some_alike, together_alike}
use Rattle.bh_host.proofs.Grouping.{counted, together_ran}
use Rattle.bh_host.proofs.Running.{RanAfter, some_after}

-- ---- the last stamp

pub last_of : (events : List Told) (done : Told) (first : Option ℕ) → last_stamp first (events ++ done ∷ []) ≡ done.0
last_of [] done first = refl
last_of (d ∷ dones) done first = last_of dones done d.0

pub if_some : {A : Type 0} (o : Option A) (P : Type 0) → P → IfSome o (λ _. P)
if_some None P p = tt
if_some (Some x) P p = p

-- ---- a group that was committed: its tables alone remain

together_remains : (events : List Arrival) (dones : List Told) (before : Tables → Type 0) (old end x : Tables) → RanTogether events dones old end → (x ≡ end → before x) → x ≡ end
    → MayRemain events dones before end x
together_remains [] [] before old end x ran go is = inl (go is)
together_remains [] (d ∷ dones) before old end x ran go is = absurd ran
together_remains (e ∷ events) [] before old end x ran go is = absurd ran
together_remains (e ∷ events) ((None, reply) ∷ dones) before old end x (mid, at, ran) go is = absurd at
together_remains (e ∷ events) ((Some m, reply) ∷ dones) before old end x (mid, at, ran) go is = together_remains events dones (λ y. y ≡ end) mid end x ran (λ i. i) is

committed_remains : (events : List Arrival) (dones : List Told) (before : Tables → Type 0) (old end x : Tables) → 0 < length events → RanTogether events dones old end → x ≡ end
    → MayRemain events dones before end x
committed_remains [] dones before old end x some ran is = absurd (omega (arith, some))
committed_remains (e ∷ events) [] before old end x some ran is = absurd ran
committed_remains (e ∷ events) ((None, reply) ∷ dones) before old end x some (mid, at, ran) is = absurd at
committed_remains (e ∷ events) ((Some m, reply) ∷ dones) before old end x some (mid, at, ran) is = together_remains events dones (λ y. y ≡ end) mid end x ran (λ i. i) is

some_taken : (events : List Event) (others : List Arrival) (group : Group) → length others ≡ length events → 0 < length events → IfNone group.planned (length group.tolds.items ≡ length events)
    → 0 < length (take (count_of group) others)
some_taken events others group same some all =
    let more = counted events group some all in
    omega (arith, same, some, more, length-take {A = Arrival})

-- as many events are read alike
as_many : (limits : HostLimits) (events : List Event) (others : List Arrival) → AllZip (IsReadAlike limits) (map arrival events) others → length others ≡ length events
as_many limits events others zip = sym (length_all_zip (IsReadAlike limits) (map arrival events) others zip) ∙ length-map events arrival

-- ---- a group that failed, and was rolled back

failed_remains : (since events : List Arrival) (dones : List Told) (before after : Tables → Type 0) (old end x : Tables) → Ran events dones old end
    → ((y : Tables) → after y → before y ⊎ WouldApplySome (since ++ events) old y) → MayRemainSince since events dones after end x → MayRemainSince since events dones before end x
failed_remains since [] [] before after old end x same go (inl stays) = elim (go x stays) [
  | inl was ↦ inl was
  | inr would ↦ inr (subst (λ t. WouldApplySome since t x) (sym same) (subst (λ es. WouldApplySome es old x) (append-nil since) would))
]
failed_remains since [] [] before after old end x same go (inr would) = inr would
failed_remains since [] (d ∷ dones) before after old end x ran go may = absurd ran
failed_remains since (e ∷ events) [] before after old end x ran go may = absurd ran
failed_remains since (e ∷ events) ((Some m, reply) ∷ dones) before after old end x ran go may = may
failed_remains since (e ∷ events) ((None, reply) ∷ dones) before after old end x (mid, same, apart, ran) go may =
    let more : (y : Tables) → after y → before y ⊎ WouldApplySome ((since ++ e ∷ []) ++ events) old y = λ y stays. elim (go y stays) [
      | inl was ↦ inl was
      | inr would ↦ inr (subst (λ es. WouldApplySome es old y) (sym (append_assoc since (e ∷ []) events)) would)
    ] in
    failed_remains (since ++ e ∷ []) events dones before after old end x (subst (λ t. Ran events dones t end) same ran) more may

-- ---- what remains, by the tables before all of it

ran_some : (events : List Arrival) (dones : List Told) (old new : Tables) → Ran events dones old new → (new ≡ old) ⊎ WouldApplySome events old new
ran_some [] [] old new same = inl same
ran_some [] (d ∷ dones) old new ran = absurd ran
ran_some (e ∷ events) [] old new ran = absurd ran
ran_some (e ∷ events) ((None, reply) ∷ dones) old new (mid, same, apart, ran) = elim (ran_some events dones old new (subst (λ t. Ran events dones t new) same ran)) [
  | inl none ↦ inl none
  | inr would ↦ inr (inl would)
]
ran_some (e ∷ events) ((Some m, reply) ∷ dones) old new (mid, did, apart, ran) = inr (inr (mid, (m, reply, did), ran_some events dones mid new ran))

remains_would : (since events : List Arrival) (dones : List Told) (before : Tables → Type 0) (old end x : Tables) → Ran events dones old end → MayRemainSince since events dones before end x
    → before x ⊎ WouldApplySome (since ++ events) old x
remains_would since [] [] before old end x same (inl was) = inl was
remains_would since [] [] before old end x same (inr would) = inr (subst (λ es. WouldApplySome es old x) (sym (append-nil since)) (subst (λ t. WouldApplySome since t x) same would))
remains_would since [] (d ∷ dones) before old end x ran may = absurd ran
remains_would since (e ∷ events) [] before old end x ran may = absurd ran
remains_would since (e ∷ events) ((None, reply) ∷ dones) before old end x (mid, same, apart, ran) may =
    elim (remains_would (since ++ e ∷ []) events dones before old end x (subst (λ t. Ran events dones t end) same ran) may) [
      | inl was ↦ inl was
      | inr would ↦ inr (subst (λ es. WouldApplySome es old x) (append_assoc since (e ∷ []) events) would)
    ]
remains_would since (e ∷ events) ((Some m, reply) ∷ dones) before old end x (mid, did, apart, ran) may =
    let after : (x ≡ mid) ⊎ WouldApplySome events mid x = elim (remains_would [] events dones (λ y. y ≡ end) mid end x ran may) [
      | inl is ↦ subst (λ t. (t ≡ mid) ⊎ WouldApplySome events mid t) (sym is) (ran_some events dones mid end ran)
      | inr would ↦ inr would
    ] in
    inr (some_after since (e ∷ events) old x (inr (mid, (m, reply, did), after)))

-- ---- on a storage

module _ {H : Type 0} (IsOpen : H → Type 0) (seen : H → Seen) (left : H → Tables → Type 0) where
  -- what a crash may leave after a group that failed
  abbrev pub LeftByGroup : List Arrival → H → Tables → Type 0
  LeftByGroup events old x = left old x ⊎ (IsOpen old × WouldApplySome events (seen old).now x)

  pub group_failed : (limits : HostLimits) (events others : List Arrival) (start : Tables) (old mid : H) → (IsOpen old → limits_in (seen old).now ≡ limits)
      → AllZip (IsReadAlike limits) events others → (IsOpen old → (seen old).now ≡ start) → (IsOpen mid → IsOpen old × ((seen mid).now ≡ (seen old).now))
      → ((x : Tables) → left mid x → LeftByGroup events old x) → RanAfter IsOpen seen left start (LeftByGroup others old) [] [] mid
  group_failed limits events others start old mid same zip shows untouched crash = record {
    end = start;
    ran = refl;
    now = λ opened. (untouched opened).1 ∙ shows (untouched opened).0;
    crash = λ x leaves. inl (elim (crash x leaves) [
      | inl stays ↦ inl stays
      | inr (opened, would) ↦ inr (opened, some_alike limits events others (seen old).now x (same opened) zip would)
    ]);
  }

  failed_ran : (events : List Arrival) (dones : List Told) (start : Tables) (old new : H) → (IsOpen old → (seen old).now ≡ start)
      → RanAfter IsOpen seen left start (LeftByGroup events old) events dones new → RanFrom IsOpen seen left start events dones old new
  failed_ran events dones start old new shows ran = record {
    end = ran.end;
    ran = ran.ran;
    now = ran.now;
    crash = λ x leaves. failed_remains [] events dones (left old) (LeftByGroup events old) start ran.end x ran.ran (λ y stays. elim stays [
      | inl was ↦ inl was
      | inr (opened, would) ↦ inr (subst (λ t. WouldApplySome events t y) (shows opened) would)
    ]) (ran.crash x leaves);
  }

  -- each was applied by itself
  pub each_ran : (limits : HostLimits) (events : List Event) (others : List Arrival) (i : ℕ) (tolds : List ToldOf) (start : Tables) (old new : H)
      → AllZip (IsReadAlike limits) (map arrival events) others → length events ≤ i → length tolds ≡ i → (IsOpen old → (seen old).now ≡ start)
      → RanAfter IsOpen seen left start (LeftByGroup others old) (take i others) (map told tolds) new
      → RanFrom IsOpen seen left start (take (length tolds + 0) others) (map told tolds ++ []) old new
  each_ran limits events others i tolds start old new zip all count shows goes =
      let many = as_many limits events others zip in
      let whole : take i others ≡ others = take_all i others (omega (arith, all, many)) in
      let counted : take (length tolds + 0) others ≡ others = take_all (length tolds + 0) others (omega (arith, count, all, many)) in
      let ran_all : RanFrom IsOpen seen left start others (map told tolds) old new =
      failed_ran others (map told tolds) start old new shows (subst (λ es. RanAfter IsOpen seen left start (LeftByGroup others old) es (map told tolds) new) whole goes) in
      subst (λ es. RanFrom IsOpen seen left start es (map told tolds ++ []) old new) (sym counted)
      (subst (λ ds. RanFrom IsOpen seen left start others ds old new) (sym (append-nil (map told tolds))) ran_all)

  -- all were committed together
  pub group_ran : (limits : HostLimits) (events : List Event) (others : List Arrival) (group : Group) (old new : H) → (IsOpen old → limits_in (seen old).now ≡ limits)
      → AllZip (IsReadAlike limits) (map arrival events) others → 0 < length events → IfNone group.planned (length group.tolds.items ≡ length events)
      → IsOpen old × IsOpen new × RanTogether (take (count_of group) (map arrival events)) (tolds_in (seen new).now group) (seen old).now (seen new).now
      → ((x : Tables) → left new x → x ≡ (seen new).now) → GoesOn IsOpen seen left (take (count_of group) others) (tolds_in (seen new).now group) old new
  group_ran limits events others group old new same zip some all (opened, still, ran) kept = λ start shows.
      let came = take (count_of group) others in
      let said = tolds_in (seen new).now group in
      let alike : RanTogether came said (seen old).now (seen new).now =
      together_alike limits (count_of group) (map arrival events) others said (seen old).now (seen new).now (same opened) zip ran in
      let here : RanTogether came said start (seen new).now = subst (λ t. RanTogether came said t (seen new).now) (shows opened) alike in
      record {
        end = (seen new).now;
        ran = together_ran came said start (seen new).now here;
        now = λ _. refl;
        crash = λ x leaves. committed_remains came said (left old) start (seen new).now x (some_taken events others group (as_many limits events others zip) some all) here (kept x leaves);
      }

  -- from the tables that the storage shows
  pub from_here : (events : List Arrival) (dones : List Told) (old new : H) → GoesOn IsOpen seen left events dones old new → RanOn IsOpen seen left events dones old new
  from_here events dones old new goes =
      let ran : RanFrom IsOpen seen left (seen old).now events dones old new = goes (seen old).now (λ _. refl) in
      record { end = ran.end; ran = ran.ran; now = ran.now; crash = ran.crash }

  -- what a crash may leave was possible before, or is what some of the events would have written
  pub ran_would : (events : List Arrival) (dones : List Told) (old new : H) → RanOn IsOpen seen left events dones old new → (x : Tables) → left new x → left old x ⊎ WouldApplySome events (seen old).now x
  ran_would events dones old new ran x leaves = remains_would [] events dones (left old) (seen old).now ran.end x ran.ran (ran.crash x leaves)
