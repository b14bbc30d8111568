-- A call on a storage, in the words of one that is shown beside what is remembered of its tables.
use Rattle.std.proofs.Common.{arith, ◌≡◌, ◌⊎◌, inl, inr, ℕ, ◌≤◌, max, cond, true, Contains, Option, Some, Result, Ok, Err, OnOk, OnErr, IfOk, bytes_eq, false, refl, sym, ap, ◌∙◌, subst, subst₂}
use Rattle.std.proofs.lemmas.Bool.{le-leb}
use Rattle.bh_http.specs.Bodies.{Coming}
use Rattle.bh_model.specs.Credentials.{authenticate}
use Rattle.bh_model.specs.Runs.{last_reading}
use Rattle.bh_model.specs.State.{Octets, State as Machine}
use Rattle.bh_types.specs.declared.access_key.AccessKeyId.{AccessKeyId}
use Rattle.bh_types.specs.declared.bucket_state.BucketState.{BucketState}
use Rattle.bh_types.specs.declared.refusal.Refusal.TheVariants.{AccessDenied, ClockOutOfRange}
use Rattle.bh_view.proofs.HostChanges.{stamped_again}
use Rattle.bh_view.proofs.PurgeLemmas.{rows_gone}
use Rattle.bh_tables.specs.Typed.{Tables}
use Rattle.bh_view.specs.Bodies.{IsSoundHost}
use Rattle.bh_view.specs.View.{view, latest_of, with_latest, rows_purged}
use Rattle.bh_storage.specs.Calls.{Seen, IsAtRest, IsWorking, Within, StaysAtWork, Commits, TakesBack, Stamps, Purges, Unless, UnlessSpoilt, GivesStep, Operates}
use Rattle.bh_storage.specs.declared.error.Outcome.{Outcome}
use Rattle.bh_storage.specs.declared.error.Outcome.TheVariants.{Done, Spoilt}
use Rattle.bh_storage.specs.declared.error.StepError.{StepError}
use Rattle.bh_storage.specs.declared.error.StepError.TheVariants.{Refused, Failed}
use Rattle.bh_storage.specs.declared.error.Trouble.{Trouble}
use Rattle.bh_memo.specs.Facts.{Facts, nothing, has_no_rule, is_accepted, holds}
use Rattle.bh_memo.specs.Recalled.{recalled}
use Rattle.bh_memo.proofs.Holding.{Forgets, are_so, holds_others, latest_is, mode_of_bucket, mode_by, accepts_same, denies_other}
use Rattle.bh_memo.proofs.Recalling.{holding, alone, nothing_recalled, same_now, same_kept, same_limits, same_inside, works_holding, works_alone}
use Rattle.bh_memo.proofs.Rules.{purged_same}

-- ---- where a call is done

pub ok_with : {X E : Type 0} (result : Result X E) (A B C : Type 0) → (A → B → C) → OnOk result A → OnOk result B → OnOk result C
ok_with (Ok x) A B C f a b = f a b
ok_with (Err e) A B C f a b = tt

pub unless_with : {X E : Type 0} (result : Result X (StepError E)) (A B C : Type 0) → (A → B → C) → Unless result A → Unless result B → Unless result C
unless_with (Ok x) A B C f a b = f a b
unless_with (Err (Refused r)) A B C f a b = f a b
unless_with (Err (Failed trouble)) A B C f a b = tt

pub spoilt_with : {X E : Type 0} (result : Result (Outcome X E) (StepError E)) (A B C : Type 0) → (A → B → C) → UnlessSpoilt result A → UnlessSpoilt result B → UnlessSpoilt result C
spoilt_with (Ok (Done x)) A B C f a b = f a b
spoilt_with (Ok (Spoilt r)) A B C f a b = tt
spoilt_with (Err (Refused r)) A B C f a b = f a b
spoilt_with (Err (Failed trouble)) A B C f a b = tt

-- ---- a storage beside what is remembered

module _ {H R : Type 0} (IsIntact IsOpen : H → Type 0) (inner : H → Seen) (left : H → Tables → Type 0) (host : R → H) (facts : R → Facts) where
  abbrev seen : R → Seen
  seen r = recalled (facts r) (inner (host r))

  abbrev Stays : R → R → Type 0
  Stays = Within (λ r. IsIntact (host r)) (λ r. IsOpen (host r)) seen (λ r. left (host r))

  abbrev IsClean : R → Type 0
  IsClean r = IsIntact (host r) × IsOpen (host r)

  pub within_recalled : (old new : R) → Within IsIntact IsOpen inner left (host old) (host new) → Stays old new
  within_recalled old new w = record {
    intact = w.intact;
    opened = w.opened;
    survives = w.survives;
    kept = λ clean. same_kept (facts new) (inner (host new)) ∙ w.kept clean ∙ sym (same_kept (facts old) (inner (host old)));
    limits = same_limits (facts new) (inner (host new)) ∙ w.limits ∙ sym (same_limits (facts old) (inner (host old)));
  }

  pub within_same : (r : R) → Stays r r
  within_same r = record { intact = λ h. h; opened = λ intact h. h; survives = λ up intact x h. h; kept = λ clean. refl; limits = refl }

  pub within_then : (a b c : R) → (IsOpen (host a) → IsIntact (host b) → IsOpen (host b)) → Stays a b → Stays b c → Stays a c
  within_then a b c opens one two = record {
    intact = λ h. one.intact (two.intact h);
    opened = λ intact up. one.opened (two.intact intact) (two.opened intact up);
    survives = λ up intact x may. one.survives up (two.intact intact) x (two.survives (opens up (two.intact intact)) intact x may);
    kept = λ clean. two.kept clean ∙ one.kept (two.intact clean.0, two.opened clean.0 clean.1);
    limits = two.limits ∙ one.limits;
  }

  module _ (digest : Octets → Octets) (Finishes : Type 0 → Type 0) where
    abbrev AtWork : R → R → Type 0
    AtWork = StaysAtWork (λ r. IsIntact (host r)) (λ r. IsOpen (host r)) (IsSoundHost digest) seen (λ r. left (host r)) Finishes

    -- each fact is so afterwards
    pub goes_on : ((A B C : Type 0) → (A → B → C) → Finishes A → Finishes B → Finishes C) → (old new : R) → StaysAtWork IsIntact IsOpen (IsSoundHost digest) inner left Finishes (host old) (host new)
        → Finishes (IsClean new → holds (facts new) (inner (host new)).now ≡ true) → AtWork old new
    goes_on with old new s so = record {
      within = within_recalled old new s.within;
      opens = s.opens;
      working = with _ _ _ (λ so works clean. subst (IsWorking (IsSoundHost digest)) (sym (alone (facts new) (inner (host new)) (so clean))) (works clean)) so s.working;
    }

    -- no call
    pub stays_same : ((A : Type 0) → A → Finishes A) → (r : R) → (IsClean r → IsWorking (IsSoundHost digest) (seen r)) → AtWork r r
    stays_same give r works = record { within = within_same r; opens = give _ (λ up intact. up); working = give _ works }

-- ---- what is said of the tables

module _ (before after : Facts) (old new : Seen) (clean : Type 0) (was : clean → recalled before old ≡ old) where
  -- it is so of those that are shown
  pub shown : (P : Tables → Tables → Type 0) → clean → holds after new.now ≡ true → P old.now new.now → P (recalled before old).now (recalled after new).now
  shown P c so h = subst₂ (λ (x y : Seen). P x.now y.now) (sym (was c)) (sym (alone after new so)) h

  module _ {X E : Type 0} where
    pub shown_ok : (P : Tables → Tables → Type 0) (result : Result X E) → OnOk result (clean → holds after new.now ≡ true) → OnOk result (clean → P old.now new.now) → OnOk result (clean → P (recalled before old).now (recalled after new).now)
    shown_ok P (Ok x) so h = λ c. shown P c (so c) (h c)
    shown_ok P (Err e) so h = tt

    pub told_ok : (P : X → Tables → Tables → Type 0) (result : Result X E) → OnOk result (clean → holds after new.now ≡ true) → IfOk result (λ x. clean → P x old.now new.now)
        → IfOk result (λ x. clean → P x (recalled before old).now (recalled after new).now)
    told_ok P (Ok x) so h = λ c. shown (P x) c (so c) (h c)
    told_ok P (Err e) so h = tt

    -- of trouble nothing is said
    pub shown_unless : (P : Result X (StepError E) → Tables → Tables → Type 0) → ((trouble : Trouble) (a b : Tables) → P (Err (Failed trouble)) a b) → (result : Result X (StepError E)) → Unless result (clean → holds after new.now ≡ true)
        → (clean → P result old.now new.now) → clean → P result (recalled before old).now (recalled after new).now
    shown_unless P none (Ok x) so h c = shown (P (Ok x)) c (so c) (h c)
    shown_unless P none (Err (Refused r)) so h c = shown (P (Err (Refused r))) c (so c) (h c)
    shown_unless P none (Err (Failed trouble)) so h c = none trouble _ _

  -- a step whose body comes in pieces
  module _ {X Y E : Type 0} (shown_by : Tables → X → Y) (t : Octets) (step : Octets → Option Machine → Result (Y × Option Machine) E) (start end : Coming) where
    abbrev Steps : Tables → Tables → Tables → Result (Outcome X E) (StepError E) → Type 0
    Steps read a b result = Operates (shown_by read) t step clean start end a b result

    pub operates_shown : (result : Result (Outcome X E) (StepError E)) → UnlessSpoilt result (clean → holds after new.now ≡ true) → Steps new.now old.now new.now result
        → Steps (recalled after new).now (recalled before old).now (recalled after new).now result
    operates_shown (Ok (Done x)) so h = record {
      given = h.given;
      gives = h.gives;
      decided = h.decided;
      carries = λ c. shown (λ a b. GivesStep t (step h.given) (shown_by b x) a b) c (so c) (h.carries c);
    }
    operates_shown (Ok (Spoilt r)) so h = record { given = h.given; gives = h.gives; decided = h.decided; carries = λ c. subst (λ (x : Seen). step h.given (view x.now t) ≡ Err r) (sym (was c)) (h.carries c) }
    operates_shown (Err (Refused r)) so h = record {
      given = h.given;
      gives = h.gives;
      decided = h.decided;
      carries = λ c. shown (λ a b. (step h.given (view a t) ≡ Err r) × (b ≡ a)) c (so c) (h.carries c);
    }
    operates_shown (Err (Failed trouble)) so h = record { given = h.given; gives = h.gives; decided = h.decided; carries = λ c. tt }

    -- once all that is remembered of the tenant is forgotten
    pub forgotten : Forgets t before after → (clean → holds before old.now ≡ true) → (result : Result (Outcome X E) (StepError E)) → Steps new.now old.now new.now result → UnlessSpoilt result (clean → holds after new.now ≡ true)
    forgotten forgets so (Ok (Done x)) h = λ c. let it = h.carries c in holds_others t before after old.now new.now forgets it.others it.latest (so c)
    forgotten forgets so (Ok (Spoilt r)) h = tt
    forgotten forgets so (Err (Refused r)) h = λ c. let same = (h.carries c).1 in holds_others t before after old.now new.now forgets (λ u apart. ap (λ (x : Tables). view x u) same) (ap latest_of same) (so c)
    forgotten forgets so (Err (Failed trouble)) h = tt

-- ---- a transaction is begun, committed, taken back

module _ {digest : Octets → Octets} (facts : Facts) (old new : Seen) (IntactBefore OpenBefore IntactAfter : Type 0) (intact : IntactAfter → IntactBefore) where
  pub begins : {X E : Type 0} (OpenAfter : Type 0) (result : Result X E) → (IntactBefore × OpenBefore → IsAtRest (IsSoundHost digest) (recalled facts old)) → OnOk result (IntactAfter → OpenBefore × OpenAfter)
      → OnOk result (IntactAfter → new.now ≡ old.now) → OnOk result (IntactAfter → IsWorking (IsSoundHost digest) new) → OnOk result (IntactAfter → IsWorking (IsSoundHost digest) (recalled facts new))
  begins OpenAfter (Ok x) rests opens same works = λ i.
      let so = holding facts old (rests (intact i, (opens i).0)).sound.sound in
      subst (IsWorking (IsSoundHost digest)) (sym (alone facts new (ap (holds facts) (same i) ∙ so))) (works i)
  begins OpenAfter (Err e) rests opens same works = tt

  module _ (works : IntactBefore × OpenBefore → IsWorking (IsSoundHost digest) (recalled facts old)) where
    stood : IntactAfter → OpenBefore → (recalled facts old).now ≡ old.now
    stood i up = ap (λ (x : Seen). x.now) (works_alone facts old (works (intact i, up)))

    pub commits : {X E : Type 0} (OpenAfter : Type 0) (result : Result X E) → OnOk result (IntactAfter → OpenBefore × OpenAfter) → OnOk result (IntactAfter → Commits old new) → OnOk result (IntactAfter → Commits (recalled facts old) (recalled facts new))
    commits OpenAfter (Ok x) opens done = λ i. let it = done i in record {
      now = same_now facts old new it.now;
      kept = same_kept facts new ∙ it.kept ∙ sym (stood i (opens i).0);
      outside = same_inside facts new ∙ it.outside;
    }
    commits OpenAfter (Err e) opens done = tt

    pub leaves : {X E : Type 0} (OpenAfter : Type 0) (left : Tables → Type 0) (result : Result X E) → OnOk result (IntactAfter → OpenBefore × OpenAfter) → OnOk result (IntactAfter → (x : Tables) → left x → x ≡ old.now)
        → OnOk result (IntactAfter → (x : Tables) → left x → x ≡ (recalled facts old).now)
    leaves OpenAfter left (Ok y) opens all = λ i x may. all i x may ∙ sym (stood i (opens i).0)
    leaves OpenAfter left (Err e) opens all = tt

    pub crashes : {X E : Type 0} (before after : Tables → Type 0) (result : Result X E) → OnErr result (OpenBefore → IntactAfter → (x : Tables) → after x → before x ⊎ (x ≡ old.now))
        → OnErr result (OpenBefore → IntactAfter → (x : Tables) → after x → before x ⊎ (x ≡ (recalled facts old).now))
    crashes before after (Ok y) each = tt
    crashes before after (Err e) each = λ up i x may. elim (each up i x may) [ inl was ↦ inl was | inr is ↦ inr (is ∙ sym (stood i up)) ]

pub kept_err : {X E : Type 0} (facts : Facts) (old new : Seen) (clean : Type 0) (result : Result X E) → OnErr result (clean → new.kept ≡ old.kept) → OnErr result (clean → (recalled facts new).kept ≡ (recalled facts old).kept)
kept_err facts old new clean (Ok x) same = tt
kept_err facts old new clean (Err e) same = λ c. same_kept facts new ∙ same c ∙ sym (same_kept facts old)

pub limits_stay : (before after : Facts) (old new : Seen) → new.limits ≡ old.limits → (recalled after new).limits ≡ (recalled before old).limits
limits_stay before after old new same = same_limits after new ∙ same ∙ sym (same_limits before old)

-- nothing is remembered from then on
pub takes_back : (before after : Facts) (old new : Seen) → after ≡ nothing → TakesBack old new → TakesBack (recalled before old) (recalled after new)
takes_back before after old new none back =
    let is : recalled after new ≡ new = ap (λ f. recalled f new) none ∙ nothing_recalled new in
    record {
      now = ap (λ (x : Seen). x.now) is ∙ back.now ∙ sym (same_kept before old);
      kept = ap (λ (x : Seen). x.kept) is ∙ back.kept ∙ sym (same_kept before old);
      outside = ap (λ (x : Seen). x.inside) is ∙ back.outside;
    }

-- ---- what is known of the tables isn't asked

-- a reading that is not past the last stamp
pub stamps_again : {digest : Octets → Octets} (facts : Facts) (s : Seen) (reading m : ℕ) → IsWorking (IsSoundHost digest) (recalled facts s) → facts.latest ≡ Some m → reading ≤ m → reading ≤ last_reading
    → Stamps reading m (recalled facts s).now (recalled facts s).now
stamps_again {digest} facts s reading m works known low top =
    let so = works_holding facts s works in
    let tables = (recalled facts s).now in
    let last : m ≡ latest_of tables = latest_is facts s.now m known so ∙ ap (λ (x : Seen). latest_of x.now) (sym (works_alone facts s works)) in
    record {
      stamp = ap (λ b. cond b (Ok (max reading (latest_of tables))) (Err ClockOutOfRange)) (le-leb _ _ top) ∙ ap (λ x. Ok x) (omega (arith, last, low));
      is = sym (ap (λ n. with_latest n tables) last ∙ stamped_again tables works.sound.sound);
      latest = sym last;
      views = λ u. refl;
    }

-- a tenant without a rule
pub purges_none : {digest : Octets → Octets} (facts : Facts) (s : Seen) (t : Octets) (at : ℕ) → IsWorking (IsSoundHost digest) (recalled facts s) → Contains facts.quiet t → Purges t at (recalled facts s).now (recalled facts s).now
purges_none {digest} facts s t at works known =
    let so = are_so facts s.now (works_holding facts s works) in
    let tables = (recalled facts s).now in
    let sound = works.sound.sound in
    let is : rows_purged t at tables ≡ tables = purged_same tables t sound (ap (λ (x : Seen). has_no_rule (view x.now t)) (works_alone facts s works) ∙ so.quiet t known) at in
    record {
      is = sym is;
      own = (rows_gone tables tables t at sound (sym is)).shown;
      others = λ u apart. refl;
      latest = refl;
    }

-- a bucket
pub mode_known : {digest : Octets → Octets} (facts : Facts) (s : Seen) (t name : Octets) (state : BucketState) → IsWorking (IsSoundHost digest) (recalled facts s) → Contains facts.buckets (record { tenant = t; bucket = name; state = state })
    → mode_of_bucket name (view (recalled facts s).now t) ≡ Ok state
mode_known facts s t name state works known =
    ap (λ (x : Seen). mode_of_bucket name (view x.now t)) (works_alone facts s works) ∙ mode_by name state (view s.now t) ((are_so facts s.now (works_holding facts s works)).buckets _ known)

-- an access key
module _ {digest : Octets → Octets} (facts : Facts) (s : Seen) (key : AccessKeyId) (known given : Octets) (works : IsWorking (IsSoundHost digest) (recalled facts s)) (there : Contains facts.secrets (record { key = key; secret = known })) where
  accepted : is_accepted (record { key = key; secret = known }) (view (recalled facts s).now key.tenant) ≡ true
  accepted = ap (λ (x : Seen). is_accepted (record { key = key; secret = known }) (view x.now key.tenant)) (works_alone facts s works) ∙ (are_so facts s.now (works_holding facts s works)).secrets _ there

  pub known_accepted : bytes_eq given known ≡ true → authenticate key given (view (recalled facts s).now key.tenant) ≡ Ok tt
  known_accepted same = accepts_same known given (view (recalled facts s).now key.tenant) key accepted same

  pub other_denied : bytes_eq given known ≡ false → authenticate key given (view (recalled facts s).now key.tenant) ≡ Err AccessDenied
  other_denied other = denies_other known given (view (recalled facts s).now key.tenant) key accepted other
