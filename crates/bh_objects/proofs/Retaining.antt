-- GetObjectRetention and PutObjectRetention: the version's date that was read, and the row of dates that was written, are the machine's step.
use Rattle.std.proofs.Common.{◌≡◌, ℕ, zero, suc, ◌≤◌, Bool, true, false, true≢false, cond, is_ok, is_some, ◌&&◌, List, [], ◌∷◌, find, filter, Option, Some, None, option_map, Result, Ok, Err, refl, sym, ap, ◌∙◌, subst, arith}
use Rattle.std.specs.FinMap.{get}
use Rattle.std.specs.List.{AllByRecursion, list_any}
use Rattle.std.proofs.lemmas.Bool.{and_parts}
use Rattle.sqlite_typed.specs.Tests.{bytes_eq}
use Rattle.bh_types.specs.Outcomes.{◌>>=◌}
use Rattle.bh_types.specs.Rejections.{plain, plainly, for_date}
use Rattle.bh_types.specs.declared.bucket_state.BucketState.{BucketState}
use Rattle.bh_types.specs.declared.refusal.Refusal.{Refusal}
use Rattle.bh_types.specs.declared.rejection.Rejection.{Rejection}
use Rattle.bh_types.specs.declared.wanted.Wanted.{Wanted}
use Rattle.bh_types.specs.declared.wanted.Wanted.TheVariants.{Current, Named, Unknown}
use Rattle.bh_model.specs.Entries.{Version, lookup}
use Rattle.bh_model.specs.Operations.{Answer, Outcome, Done, Retention, listed, with_bucket, get_retention, put_retention}
use Rattle.bh_model.specs.Retention.{can_retain, date_of, may_retain, with_date}
use Rattle.bh_model.specs.State.{Octets, State, Bucket}
use Rattle.bh_tables.specs.Typed.{VersionRow, Tables}
use Rattle.bh_tables.specs.Shown.{is_at, is_entry, is_lock}
use Rattle.bh_view.specs.Becomes.{Becomes}
use Rattle.bh_view.specs.Sound.{IsSound}
use Rattle.bh_view.specs.View.{rows_of, id_of, date_in, view, latest_of, limits_in}
use Rattle.bh_view.specs.Wanted.{has_row_id, wanted_row}
use Rattle.bh_view.proofs.DateChanges.{date_found, date_shown, date_added, date_set}
use Rattle.bh_view.proofs.FactLemmas.{all_first}
use Rattle.bh_view.proofs.FilterLemmas.{none_some, first_passes}
use Rattle.bh_view.proofs.FindLemmas.{first_find}
use Rattle.bh_view.proofs.Keys.{octets}
use Rattle.bh_view.proofs.LockChanges.{lock_shown}
use Rattle.bh_view.proofs.SharedLemmas.{shared_none, shared_same}
use Rattle.bh_view.proofs.SortLemmas.{all-sort_by}
use Rattle.bh_view.proofs.WantedLemmas.{wanted_entry}
use Rattle.bh_storage.specs.Calls.{GivesStep, Carries, Decides}
use Rattle.bh_storage.specs.Errors.{step_rejected}
use Rattle.bh_storage.specs.declared.error.StepError.{StepError}
use Rattle.bh_storage.specs.declared.error.StepError.TheVariants.{Refused, Failed}
use Rattle.bh_schema.specs.Rows.{SeenHead, seen_head}
use Rattle.bh_tables.specs.Shown.{newer}
use Rattle.bh_objects.specs.Answers.{head_opened, head_looked}
use Rattle.bh_objects.specs.Dates.{date_at, present_date_in, with_date as with_date_row}
use Rattle.bh_objects.specs.Found.{mode_in}
use Rattle.bh_objects.proofs.Getting.{told, version_of, version_in, its, found_up, refused_up}
use Rattle.bh_objects.proofs.Putting.{HasBucket, has_bucket}

-- ---- the row that was found

all_pass : {T : Type 0} (p : T → Bool) (xs : List T) → AllByRecursion (λ x. p x ≡ true) (filter p xs)
all_pass p [] = tt
all_pass p (x ∷ xs) = elim (p x) as (λ b. p x ≡ b → AllByRecursion (λ y. p y ≡ true) (cond b (x ∷ filter p xs) (filter p xs))) [ true ↦ λ e. (e, all_pass p xs) | false ↦ λ e. all_pass p xs ] refl

-- it is in the bucket and of the key
row_here : (t b k : Octets) (wanted : Wanted) (versions : List VersionRow) (v : VersionRow) → wanted_row t b k wanted versions ≡ Some v → (v.bucket ≡ b) × (v.okey ≡ k)
row_here t b k Current versions v there =
    let passes : is_at t b k v ≡ true = all_first (λ x. is_at t b k x ≡ true) _ v there (all-sort_by newer (λ x. is_at t b k x ≡ true) _ (all_pass (is_at t b k) versions)) in
    let both = and_parts (bytes_eq v.bucket b) (bytes_eq v.okey k) (and_parts (bytes_eq v.tenant t) (bytes_eq v.bucket b && bytes_eq v.okey k) passes).1 in
    ((octets.decides v.bucket b).0 both.0, (octets.decides v.okey k).0 both.1)
row_here t b k (Named id) versions v there =
    let passes = first_passes (has_row_id t b k id) versions v (first_find (has_row_id t b k id) versions ∙ there) in
    let here = and_parts _ _ (and_parts _ _ passes).1 in
    ((octets.decides v.bucket b).0 here.0, (octets.decides v.okey k).0 (and_parts _ _ here.1).0)
row_here t b k Unknown versions v there = absurd (none_some there)

-- it is no marker
opened_zero : (wanted : Wanted) (m : ℕ) (seen head : SeenHead) → head_opened wanted m seen ≡ Ok head → m ≡ 0
opened_zero wanted zero seen head e = refl
opened_zero wanted (suc n) seen head e = absurd (true≢false (sym (ap is_ok e)))

no_marker : (wanted : Wanted) (o : Option VersionRow) (head : SeenHead) → head_looked wanted (option_map seen_head o) ≡ Ok head → (v : VersionRow) → o ≡ Some v → v.marker ≡ 0
no_marker wanted o head e v there = opened_zero wanted v.marker (seen_head v) head (ap (λ p. head_looked wanted (option_map seen_head p)) (sym there) ∙ e)

-- the refusal of an operation on a date
abbrev rejection_in : {X : Type 0} → Result X Rejection → Rejection → Rejection
rejection_in (Ok x) other = other
rejection_in (Err y) other = y

for_date_ok : {X : Type 0} (r : Result X Rejection) (x : X) → for_date r ≡ Ok x → r ≡ Ok x
for_date_ok (Ok y) x e = e
for_date_ok (Err y) x e = absurd (true≢false (sym (ap is_ok e)))

for_date_err : {X Y : Type 0} (r : Result X Rejection) (l : Result Y Rejection) (x : Rejection) → ((y : Rejection) → r ≡ Err y → l ≡ Err y) → for_date r ≡ Err x → for_date l ≡ Err x
for_date_err (Ok y) l x up e = absurd (true≢false (ap is_ok e))
for_date_err (Err y) l x up e = ap for_date (up y refl) ∙ ap (λ r. Err (rejection_in r x)) e

for_date_with : (B : Bucket) (r : Result Version Rejection) → for_date (◌>>=◌ {B = Bucket × Version} r (λ v. Ok (B, v))) ≡ ◌>>=◌ {B = Bucket × Version} (for_date r) (λ v. Ok (B, v))
for_date_with B (Ok v) = refl
for_date_with B (Err x) = refl

abbrev fault_or : Result (Unit {0}) Refusal → Refusal → Refusal
fault_or (Ok u) other = other
fault_or (Err x) other = x

abbrev date_or : Result (Option ℕ) Refusal → Option ℕ → Option ℕ
date_or (Ok date) other = date
date_or (Err x) other = other

abbrev refusal_or : Result (Option ℕ) Refusal → Refusal → Refusal
refusal_or (Ok date) other = other
refusal_or (Err x) other = x

-- a date that may be another may stand on the version
allowed : (able : Bool) (present : Option ℕ) (until at : ℕ) → may_retain able present (Some until) at ≡ Ok tt → able ≡ true
allowed true present until at e = refl
allowed false present until at e = absurd (true≢false (sym (ap is_ok e)))

can_numbered : (locked : Bool) (n : ℕ) → can_retain locked (id_of n) ≡ true → (locked ≡ true) × (1 ≤ n)
can_numbered locked zero e = absurd (true≢false (sym e))
can_numbered locked (suc n) e = (e, omega arith)

-- what is asked before a date is another, and what it is then
asked_ok : (r : Result (Unit {0}) Refusal) (date present : Option ℕ) → ◌>>=◌ {B = Option ℕ} r (λ _. Ok date) ≡ Ok present → (r ≡ Ok tt) × (date ≡ present)
asked_ok (Ok u) date present e = (refl, ap (λ x. date_or x present) e)
asked_ok (Err x) date present e = absurd (true≢false (sym (ap is_ok e)))

asked_err : (r : Result (Unit {0}) Refusal) (date : Option ℕ) (x : Refusal) → ◌>>=◌ {B = Option ℕ} r (λ _. Ok date) ≡ Err x → r ≡ Err x
asked_err (Ok u) date x e = absurd (true≢false (ap is_ok e))
asked_err (Err y) date x e = ap (λ r. Err (refusal_or r x)) e

-- what the machine makes of a version that was looked up
abbrev dated_then : ℕ → Octets → Octets → ℕ → State → Bucket → Result Version Rejection → Result Outcome Rejection
dated_then at b k until s B r = do
  v ← r
  _ ← plainly (may_retain (can_retain B.locked v.id) (date_of k v.id B) (Some until) at)
  Ok (Done, Some (with_bucket b (with_date k v.id (Some until) B) s))

put_in : (b k : Octets) (wanted : Wanted) (at until : ℕ) (v : Option State) (s : State) (B : Bucket) → v ≡ Some s → get s.buckets b ≡ Some B → put_retention at b k wanted until v ≡ dated_then at b k until s B (for_date (told (lookup wanted (listed k B))))
put_in b k wanted at until v s B is there = rw (is, there) refl

abbrev told_date : Octets → Bucket → Option State → Result Version Rejection → Result Outcome Rejection
told_date k B left r = r >>= (λ v. Ok (B, v)) >>= (λ (f : Bucket × Version). Ok (Retention (date_of k f.1.id f.0), left))

module _ (old : Tables) (t b k : Octets) (sound : IsSound old) (mode : BucketState) (found : mode_in b (view old t) ≡ Ok mode) (wanted : Wanted) where
  abbrev h : HasBucket b (view old t) mode
  h = has_bucket b (view old t) mode found

  get_shape : get_retention b k wanted (view old t) ≡ told_date k h.bucket (view old t) (for_date (told (lookup wanted (listed k h.bucket))))
  get_shape =
      let shows : Result (Bucket × Version) Rejection → Result Outcome Rejection = λ r. r >>= (λ (f : Bucket × Version). Ok (Retention (date_of k f.1.id f.0), view old t)) in
      ap (λ r. shows (for_date r)) (version_in b k wanted (view old t) h.state h.bucket h.added h.there) ∙ ap shows (for_date_with h.bucket (told (lookup wanted (listed k h.bucket))))

  put_shape : (at until : ℕ) → put_retention at b k wanted until (view old t) ≡ dated_then at b k until h.state h.bucket (for_date (told (lookup wanted (listed k h.bucket))))
  put_shape at until = put_in b k wanted at until (view old t) h.state h.bucket h.added h.there

  -- a refusal of the lookup
  module _ (x : Rejection) (e : for_date (head_looked wanted (option_map seen_head (wanted_row t b k wanted old.versions))) ≡ Err x) where
    refused_so : for_date (told (lookup wanted (listed k h.bucket))) ≡ Err x
    refused_so = for_date_err _ (told (lookup wanted (listed k h.bucket))) x (λ y is. refused_up old t b k sound mode found wanted y is h) e

    pub get_is_refused : get_retention b k wanted (view old t) ≡ Err x
    get_is_refused = get_shape ∙ ap (told_date k h.bucket (view old t)) refused_so

    pub put_is_refused : (at until : ℕ) → put_retention at b k wanted until (view old t) ≡ Err x
    put_is_refused at until = put_shape at until ∙ ap (dated_then at b k until h.state h.bucket) refused_so

  -- a version
  module _ (head : SeenHead) (e : head_looked wanted (option_map seen_head (wanted_row t b k wanted old.versions)) ≡ Ok head) where
    abbrev row : VersionRow
    row = (its old t b k sound mode found wanted head e).row

    there : wanted_row t b k wanted old.versions ≡ Some row
    there = (its old t b k sound mode found wanted head e).there

    seen : seen_head row ≡ head
    seen = (its old t b k sound mode found wanted head e).seen

    found_so : for_date (told (lookup wanted (listed k h.bucket))) ≡ Ok (version_of row)
    found_so = ap for_date (found_up old t b k sound mode found wanted head e h)

    here : (row.bucket ≡ b) × (row.okey ≡ k)
    here = row_here t b k wanted old.versions row there

    by_seq : find (is_entry t row.seq) old.versions ≡ Some row
    by_seq = wanted_entry old t sound b k wanted row there

    bucket_here : get h.state.buckets row.bucket ≡ Some h.bucket
    bucket_here = subst (λ q. get h.state.buckets q ≡ Some h.bucket) (sym here.0) h.there

    its_date : date_of k (id_of row.id) h.bucket ≡ date_at t head.seq old
    its_date = (λ i. date_of (sym here.1 i) (id_of row.id) h.bucket) ∙ date_shown old t sound row by_seq h.state h.added h.bucket bucket_here ∙ date_found old t sound row by_seq
        ∙ ap (λ (x : SeenHead). date_at t x.seq old) seen

    pub date_is_told : get_retention b k wanted (view old t) ≡ Ok (Retention (date_at t head.seq old), view old t)
    date_is_told = get_shape ∙ ap (told_date k h.bucket (view old t)) found_so ∙ ap (λ d. Ok (Retention d, view old t)) its_date

    -- another date
    module _ (at until : ℕ) where
      abbrev asks : Result (Unit {0}) Refusal
      asks = may_retain (can_retain (list_any (is_lock t b) old.locks) (id_of head.id)) (date_at t head.seq old) (Some until) at

      asked_so : may_retain (can_retain h.bucket.locked (id_of row.id)) (date_of k (id_of row.id) h.bucket) (Some until) at ≡ asks
      asked_so = (λ i. may_retain (can_retain (lock_shown old t h.state sound h.added b h.bucket h.there i) (id_of row.id)) (its_date i) (Some until) at)
          ∙ ap (λ (x : SeenHead). may_retain (can_retain (list_any (is_lock t b) old.locks) (id_of x.id)) (date_at t head.seq old) (Some until) at) seen

      abbrev then_done : Result (Unit {0}) Refusal → Result Outcome Rejection
      then_done r = plainly r >>= (λ _. Ok (Done, Some (with_bucket b (with_date k (id_of row.id) (Some until) h.bucket) h.state)))

      put_so : put_retention at b k wanted until (view old t) ≡ then_done asks
      put_so = put_shape at until ∙ ap (dated_then at b k until h.state h.bucket) found_so ∙ ap then_done asked_so

      pub date_is_refused : (x : Refusal) → present_date_in t b head.id head.seq until at old ≡ Err x → put_retention at b k wanted until (view old t) ≡ Err (plain x)
      date_is_refused x refused = put_so ∙ ap then_done (asked_err asks (date_at t head.seq old) x refused)

      module _ (near : until ≤ 251_000_000_000) (present : Option ℕ) (may : present_date_in t b head.id head.seq until at old ≡ Ok present) (new : Tables) where
        able : can_retain (list_any (is_lock t b) old.locks) (id_of head.id) ≡ true
        able = allowed _ (date_at t head.seq old) until at (asked_ok asks (date_at t head.seq old) present may).0

        numbered : (list_any (is_lock t b) old.locks ≡ true) × (1 ≤ head.id)
        numbered = can_numbered (list_any (is_lock t b) old.locks) head.id able

        in_rows : date_in (rows_of t old).retains row ≡ present
        in_rows = date_found old t sound row by_seq ∙ ap (λ (x : SeenHead). date_at t x.seq old) seen ∙ (asked_ok asks (date_at t head.seq old) present may).1

        at_row : with_date_row t head.seq present (Some until) old ≡ with_date_row t row.seq present (Some until) old
        at_row = ap (λ (x : SeenHead). with_date_row t x.seq present (Some until) old) (sym seen)

        abbrev Dated : Type 0
        Dated = Becomes t (Some (with_bucket b (with_date k (id_of row.id) (Some until) h.bucket) h.state)) old new

        named_so : Becomes t (Some (with_bucket row.bucket (with_date row.okey (id_of row.id) (Some until) h.bucket) h.state)) old new → Dated
        named_so = subst (λ (x : State). Becomes t (Some x) old new) (λ i. with_bucket (here.0 i) (with_date (here.1 i) (id_of row.id) (Some until) h.bucket) h.state)

        row_dated : (p : Option ℕ) → present ≡ p → new ≡ with_date_row t row.seq p (Some until) old → Dated
        row_dated None none is = named_so (date_added old new t h.state sound h.added row by_seq h.bucket bucket_here until near (subst (λ (x : SeenHead). 1 ≤ x.id) (sym seen) numbered.1)
            (no_marker wanted (wanted_row t b k wanted old.versions) head e row there) (lock_shown old t h.state sound h.added b h.bucket h.there ∙ numbered.0) (in_rows ∙ none) is)
        row_dated (Some p) some is = named_so (date_set old new t h.state sound h.added row by_seq h.bucket bucket_here until near (ap is_some (in_rows ∙ some)) is)

        same_blocks : (p : Option ℕ) → new ≡ with_date_row t head.seq p (Some until) old → new.blocks ≡ old.blocks
        same_blocks None is = ap (λ (x : Tables). x.blocks) is
        same_blocks (Some p) is = ap (λ (x : Tables). x.blocks) is

        pub dates : new ≡ with_date_row t head.seq present (Some until) old → GivesStep t (put_retention at b k wanted until) Done old new × IsSound new × (limits_in new ≡ limits_in old)
        dates is =
            let change = row_dated present refl (is ∙ at_row) in (
              record {
                gives = put_so ∙ ap then_done (asked_ok asks (date_at t head.seq old) present may).0 ∙ ap (λ v. Ok (Done, v)) (sym change.shown);
                others = change.others;
                latest = change.latest;
                shared = shared_same old new (same_blocks present is);
              },
              change.sound,
              change.limits,
            )

-- where the tables differ in dates alone
pub retains_alone : (t : Octets) (seq : ℕ) (present : Option ℕ) (until : ℕ) (old new : Tables) → new ≡ with_date_row t seq present (Some until) old → new ≡ record old { retains = new.retains }
retains_alone t seq None until old new e = e ∙ ap (λ l. record old { retains = l }) (sym (ap (λ (x : Tables). x.retains) e))
retains_alone t seq (Some present) until old new e = e ∙ ap (λ l. record old { retains = l }) (sym (ap (λ (x : Tables). x.retains) e))

-- ---- the calls, one after another

module _ (old middle : Tables) (t b k : Octets) (sound : IsSound old) (mode : BucketState) (found : mode_in b (view old t) ≡ Ok mode) (wanted : Wanted) (one : middle ≡ old) where
  abbrev Looked : Result SeenHead Rejection → Type 0
  Looked r = for_date (head_looked wanted (option_map seen_head (wanted_row t b k wanted middle.versions))) ≡ r

  looked_first : (r : Result SeenHead Rejection) → Looked r → for_date (head_looked wanted (option_map seen_head (wanted_row t b k wanted old.versions))) ≡ r
  looked_first r e = ap (λ (x : Tables). for_date (head_looked wanted (option_map seen_head (wanted_row t b k wanted x.versions)))) (sym one) ∙ e

  found_first : (head : SeenHead) → Looked (Ok head) → head_looked wanted (option_map seen_head (wanted_row t b k wanted old.versions)) ≡ Ok head
  found_first head e = for_date_ok _ head (looked_first (Ok head) e)

  pub gets_failed : {X Y : Type 0} (view_head : X → SeenHead) (shows : Y → Answer) (new : Tables) (error : StepError Rejection)
      → Decides view_head (for_date (head_looked wanted (option_map seen_head (wanted_row t b k wanted middle.versions)))) middle new (Err error) → Carries shows t (get_retention b k wanted) old new (Err error)
  gets_failed view_head shows new (Refused x) d = (get_is_refused old t b k sound mode found wanted x (looked_first (Err x) d.0), d.1 ∙ one)
  gets_failed view_head shows new (Failed trouble) d = tt

  pub puts_failed : {X Y : Type 0} (view_head : X → SeenHead) (shows : Y → Answer) (at until : ℕ) (new : Tables) (error : StepError Rejection)
      → Decides view_head (for_date (head_looked wanted (option_map seen_head (wanted_row t b k wanted middle.versions)))) middle new (Err error) → Carries shows t (put_retention at b k wanted until) old new (Err error)
  puts_failed view_head shows at until new (Refused x) d = (put_is_refused old t b k sound mode found wanted x (looked_first (Err x) d.0) at until, d.1 ∙ one)
  puts_failed view_head shows at until new (Failed trouble) d = tt

  module _ (last : Tables) (two : last ≡ middle) (head : SeenHead) (e : Looked (Ok head)) where
    pub gets : (new : Tables) (date : Option ℕ) → date ≡ date_at t head.seq last → new ≡ last → GivesStep t (get_retention b k wanted) (Retention date) old new
    gets new date is three =
        let same : new ≡ old = three ∙ two ∙ one in
        record {
          gives = date_is_told old t b k sound mode found wanted head (found_first head e) ∙ ap (λ d. Ok (Retention d, view old t)) (sym (is ∙ ap (date_at t head.seq) (two ∙ one)))
              ∙ ap (λ (x : Tables). Ok (Retention date, view x t)) (sym same);
          others = λ u apart. ap (λ (x : Tables). view x u) same;
          latest = ap latest_of same;
          shared = shared_none old new same;
        }

    pub puts_refused : (at until : ℕ) (new : Tables) (x : Refusal) → present_date_in t b head.id head.seq until at last ≡ Err x → new ≡ last → (put_retention at b k wanted until (view old t) ≡ Err (plain x)) × (new ≡ old)
    puts_refused at until new x refused three =
        (date_is_refused old t b k sound mode found wanted head (found_first head e) at until x (ap (present_date_in t b head.id head.seq until at) (sym (two ∙ one)) ∙ refused), three ∙ two ∙ one)

    pub puts_not_dated : {X Y : Type 0} (shows : X → Option ℕ) (tells : Y → Answer) (at until : ℕ) (new : Tables) (error : StepError Refusal) → Decides shows (present_date_in t b head.id head.seq until at last) last new (Err error)
        → Carries tells t (put_retention at b k wanted until) old new (Err (step_rejected error))
    puts_not_dated shows tells at until new (Refused x) d = puts_refused at until new x d.0 d.1
    puts_not_dated shows tells at until new (Failed trouble) d = tt

    pub puts : (at until : ℕ) → until ≤ 251_000_000_000 → (present : Option ℕ) → present_date_in t b head.id head.seq until at last ≡ Ok present → (third new : Tables) → third ≡ last → new ≡ with_date_row t head.seq present (Some until) third
        → GivesStep t (put_retention at b k wanted until) Done old new × IsSound new × (limits_in new ≡ limits_in old) × (new ≡ record old { retains = new.retains })
    puts at until near present may third new three is =
        let first : new ≡ with_date_row t head.seq present (Some until) old = is ∙ ap (with_date_row t head.seq present (Some until)) (three ∙ two ∙ one) in
        let it = dates old t b k sound mode found wanted head (found_first head e) at until near present (ap (present_date_in t b head.id head.seq until at) (sym (two ∙ one)) ∙ may) new first in
        (it.0, it.1, it.2, retains_alone t head.seq present until old new first)
