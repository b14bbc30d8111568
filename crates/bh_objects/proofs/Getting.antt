-- GetObject and HeadObject: the row that was read is the version that the machine finds.
use Rattle.std.proofs.Common.{◌≡◌, ℕ, zero, suc, ◌+◌, ◌-◌, drop, length, length-drop, length-take, arith, is_ok, true≢false, filter, Option, Some, None, option_map, Result, Ok, Err, refl, sym, ap, ◌∙◌}
use Rattle.std.specs.Result.{result_map_both}
use Rattle.std.proofs.lemmas.Bool.Decides.{nat_tests}
use Rattle.std.specs.FinMap.{get}
use Rattle.bh_types.specs.Outcomes.{◌>>=◌}
use Rattle.bh_types.specs.Ranges.{cut}
use Rattle.bh_types.specs.declared.bucket_state.BucketState.{BucketState}
use Rattle.bh_types.specs.declared.range.RangePlan.{RangePlan}
use Rattle.bh_types.specs.declared.range.RangePlan.TheVariants.{Whole, Part}
use Rattle.bh_blocks.specs.Plans.{size_of}
use Rattle.bh_types.specs.declared.refusal.Refusal.TheVariants.{NoSuchKey, MethodNotAllowed}
use Rattle.bh_types.specs.declared.rejection.Rejection.{Rejection}
use Rattle.bh_types.specs.declared.wanted.Wanted.{Wanted}
use Rattle.bh_types.specs.declared.wanted.Wanted.TheVariants.{Current, Named, Unknown}
use Rattle.bh_model.specs.State.{Octets, State, Bucket}
use Rattle.bh_model.specs.Entries.{Version, LookupFault, opened, lookup}
use Rattle.bh_model.specs.Operations.{Answer, Outcome, Head, Object, id_told, listed, not_found, planned, shown, wanted_version, get_object, head_object}
use Rattle.bh_tables.specs.Typed.{Tables, VersionRow}
use Rattle.bh_tables.specs.Bodies.{version_name}
use Rattle.bh_tables.specs.Shown.{is_entry}
use Rattle.bh_view.specs.View.{view, latest_of, entry_of, content_of, id_of}
use Rattle.bh_storage.specs.Calls.{GivesStep, Carries, Decides}
use Rattle.bh_storage.specs.declared.error.StepError.{StepError}
use Rattle.bh_storage.specs.declared.error.StepError.TheVariants.{Refused, Failed}
use Rattle.bh_view.specs.Sound.{IsSound}
use Rattle.bh_view.specs.Blocks.{whole}
use Rattle.bh_view.specs.Bodies.{IsResolved}
use Rattle.bh_view.specs.Wanted.{wanted_row, looked}
use Rattle.sqlite_keyed.proofs.ListLemmas.{all-filter}
use Rattle.bh_view.proofs.FilterLemmas.{none_some, first_passes}
use Rattle.bh_view.proofs.FactLemmas.{all_first}
use Rattle.bh_view.proofs.FindLemmas.{first_find}
use Rattle.bh_view.proofs.NameLemmas.{names}
use Rattle.bh_view.proofs.SharedLemmas.{shared_none}
use Rattle.bh_view.proofs.WantedLemmas.{lookup_row, wanted_good, wanted_entry}
use Rattle.bh_schema.specs.Rows.{SeenHead, seen_head}
use Rattle.bh_objects.specs.Answers.{head_opened, head_looked, head_told}
use Rattle.bh_objects.specs.Found.{mode_in}
use Rattle.bh_objects.proofs.Putting.{HasBucket, has_bucket}

-- the version that a row is
abbrev pub version_of : VersionRow → Version
version_of row = record { id = id_of row.id; moment = row.stamp; bytes = row.bytes; checksum = row.checksum }

abbrev pub told : Result Version LookupFault → Result Version Rejection
told r = result_map_both (λ v. v) not_found r

abbrev head_or : Result SeenHead Rejection → SeenHead → SeenHead
head_or (Ok head) other = head
head_or (Err x) other = other

abbrev rejection_or : Result SeenHead Rejection → Rejection → Rejection
rejection_or (Ok head) other = other
rejection_or (Err x) other = x

-- the row of a head that was answered
pub record IsRow (wanted : Wanted) (o : Option VersionRow) (head : SeenHead) : Type 0 where
  pub row : VersionRow
  pub there : o ≡ Some row
  pub seen : seen_head row ≡ head
  pub tells : told (looked wanted o) ≡ Ok (version_of row)

body_told : (wanted : Wanted) (row : VersionRow) → row.marker ≡ 0 → (wanted ≡ Unknown → Some row ≡ None) → told (looked wanted (Some row)) ≡ Ok (version_of row)
body_told Current row is away = ap (λ m. told (opened NoSuchKey (entry_of row) (content_of m row))) is
body_told (Named id) row is away = ap (λ m. told (opened MethodNotAllowed (entry_of row) (content_of m row))) is
body_told Unknown row is away = absurd (none_some (sym (away refl)))

head_row : (wanted : Wanted) (o : Option VersionRow) → (wanted ≡ Unknown → o ≡ None) → (head : SeenHead) → head_looked wanted (option_map seen_head o) ≡ Ok head → IsRow wanted o head
head_row wanted None away head e = absurd (true≢false (sym (ap is_ok e)))
head_row wanted (Some row) away head e = go row.marker refl e
  where
    go : (m : ℕ) → row.marker ≡ m → head_opened wanted m (seen_head row) ≡ Ok head → IsRow wanted (Some row) head
    go zero is e = record { row = row; there = refl; seen = ap (λ r. head_or r head) e; tells = body_told wanted row is away }
    go (suc n) is e = absurd (true≢false (sym (ap is_ok e)))

head_refused : (wanted : Wanted) (o : Option VersionRow) → (wanted ≡ Unknown → o ≡ None) → (x : Rejection) → head_looked wanted (option_map seen_head o) ≡ Err x → told (looked wanted o) ≡ Err x
head_refused Current None away x e = ap (λ r. Err (rejection_or r x)) e
head_refused (Named id) None away x e = ap (λ r. Err (rejection_or r x)) e
head_refused Unknown o away x e = ap (λ r. Err (rejection_or r x)) (ap (λ p. head_looked Unknown (option_map seen_head p)) (sym (away refl)) ∙ e)
head_refused Current (Some row) away x e = go row.marker refl e
  where
    go : (m : ℕ) → row.marker ≡ m → head_opened Current m (seen_head row) ≡ Err x → told (looked Current (Some row)) ≡ Err x
    go zero is e = absurd (true≢false (ap is_ok e))
    go (suc n) is e = ap (λ m. told (opened NoSuchKey (entry_of row) (content_of m row))) is ∙ ap (λ r. Err (rejection_or r x)) e
head_refused (Named id) (Some row) away x e = go row.marker refl e
  where
    go : (m : ℕ) → row.marker ≡ m → head_opened (Named id) m (seen_head row) ≡ Err x → told (looked (Named id) (Some row)) ≡ Err x
    go zero is e = absurd (true≢false (ap is_ok e))
    go (suc n) is e = ap (λ m. told (opened MethodNotAllowed (entry_of row) (content_of m row))) is ∙ ap (λ r. Err (rejection_or r x)) e

pub version_in : (b k : Octets) (wanted : Wanted) (v : Option State) (s : State) (B : Bucket) → v ≡ Some s → get s.buckets b ≡ Some B → wanted_version b k wanted v ≡ (told (lookup wanted (listed k B)) >>= (λ x. Ok (B, x)))
version_in b k wanted v s B is at = rw (is, at) refl

module _ (tables : Tables) (t b k : Octets) (sound : IsSound tables) (mode : BucketState) (found : mode_in b (view tables t) ≡ Ok mode) (wanted : Wanted) where
  abbrev row_there : Option VersionRow
  row_there = wanted_row t b k wanted tables.versions

  nothing_unknown : (w : Wanted) → w ≡ Unknown → wanted_row t b k w tables.versions ≡ None
  nothing_unknown w e = ap (λ x. wanted_row t b k x tables.versions) e

  -- the bucket and the version
  abbrev tell : Bucket → Result Version Rejection → Result (Bucket × Version) Rejection
  tell B r = r >>= (λ x. Ok (B, x))

  -- what its lookup tells
  looked_up : (h : HasBucket b (view tables t) mode) (r : Result Version Rejection) → told (looked wanted row_there) ≡ r → told (lookup wanted (listed k h.bucket)) ≡ r
  looked_up h r is = ap told (lookup_row tables t sound b k h.state h.added h.bucket h.there wanted) ∙ is

  version_at : (r : Result Version Rejection) → told (looked wanted row_there) ≡ r → (B : Bucket) × (B.mode ≡ mode) × (wanted_version b k wanted (view tables t) ≡ tell B r)
  version_at r is =
      let h = has_bucket b (view tables t) mode found in
      (h.bucket, h.its, version_in b k wanted (view tables t) h.state h.bucket h.added h.there ∙ ap (tell h.bucket) (looked_up h r is))

  abbrev head_given : Option State → Result (Bucket × Version) Rejection → Result Outcome Rejection
  head_given v r = r >>= (λ f. Ok (Head (id_told f.0.mode f.1.id) (length f.1.bytes) f.1.checksum, v))

  abbrev object_given : Option Octets → Option State → Result (Bucket × Version) Rejection → Result Outcome Rejection
  object_given range v r = do
    f ← r
    plan ← planned range (length f.1.bytes)
    Ok (shown f.0 f.1 plan, v)

  -- a refusal of the lookup
  module _ (x : Rejection) (e : head_looked wanted (option_map seen_head row_there) ≡ Err x) where
    pub refused_up : (h : HasBucket b (view tables t) mode) → told (lookup wanted (listed k h.bucket)) ≡ Err x
    refused_up h = looked_up h (Err x) (head_refused wanted row_there (nothing_unknown wanted) x e)

    pub refused_version : (B : Bucket) × (B.mode ≡ mode) × (wanted_version b k wanted (view tables t) ≡ Err x)
    refused_version = version_at (Err x) (head_refused wanted row_there (nothing_unknown wanted) x e)

    pub head_is_refused : head_object b k wanted (view tables t) ≡ Err x
    head_is_refused = ap (head_given (view tables t)) refused_version.2

    pub get_is_refused : (range : Option Octets) → get_object b k wanted range (view tables t) ≡ Err x
    get_is_refused range = ap (object_given range (view tables t)) refused_version.2

  -- a version
  module _ (head : SeenHead) (e : head_looked wanted (option_map seen_head row_there) ≡ Ok head) where
    pub its : IsRow wanted row_there head
    its = head_row wanted row_there (nothing_unknown wanted) head e

    pub found_up : (h : HasBucket b (view tables t) mode) → told (lookup wanted (listed k h.bucket)) ≡ Ok (version_of its.row)
    found_up h = looked_up h (Ok (version_of its.row)) its.tells

    pub sized : head.size ≡ length its.row.bytes
    sized = ap (λ (x : SeenHead). x.size) (sym its.seen) ∙ (wanted_good tables t sound b k wanted its.row its.there).size

    pub found_version : (B : Bucket) × (B.mode ≡ mode) × (wanted_version b k wanted (view tables t) ≡ Ok (B, version_of its.row))
    found_version = version_at (Ok (version_of its.row)) its.tells

    pub head_is_told : head_object b k wanted (view tables t) ≡ Ok (head_told mode head, view tables t)
    head_is_told = ap (head_given (view tables t)) found_version.2 ∙ (λ i. Ok (Head (id_told (found_version.1 i) (id_of its.row.id)) (sym sized i) its.row.checksum, view tables t))
        ∙ ap (λ (x : SeenHead). Ok (Head (id_told mode (id_of x.id)) head.size x.checksum, view tables t)) its.seen

    -- its bytes are those of its body
    pub row_bytes : IsResolved tables → its.row.bytes ≡ whole tables.refs tables.blocks (t, head.seq)
    row_bytes resolved =
        let there = first_find (is_entry t its.row.seq) tables.versions ∙ wanted_entry tables t sound b k wanted its.row its.there in
        let named : version_name its.row ≡ (t, its.row.seq) = (names.decides (version_name its.row) (t, its.row.seq)).0 (first_passes (is_entry t its.row.seq) tables.versions its.row there) in
        all_first (λ (v : VersionRow). v.bytes ≡ whole tables.refs tables.blocks (version_name v)) (filter (is_entry t its.row.seq) tables.versions) its.row there (all-filter _ _ _ resolved.versions)
        ∙ ap (whole tables.refs tables.blocks) named ∙ ap (λ (x : SeenHead). whole tables.refs tables.blocks (t, x.seq)) its.seen

    module _ (range : Option Octets) where
      planned_at : get_object b k wanted range (view tables t) ≡ (planned range head.size >>= (λ plan. Ok (Object (id_told mode (id_of head.id)) head.size plan (cut plan its.row.bytes) head.checksum, view tables t)))
      planned_at = ap (object_given range (view tables t)) found_version.2
          ∙ (λ i. planned range (sym sized i) >>= (λ plan. Ok (Object (id_told (found_version.1 i) (id_of its.row.id)) (sym sized i) plan (cut plan its.row.bytes) its.row.checksum, view tables t)))
          ∙ ap (λ (x : SeenHead). planned range head.size >>= (λ plan. Ok (Object (id_told mode (id_of x.id)) head.size plan (cut plan its.row.bytes) x.checksum, view tables t))) its.seen

      pub range_is_refused : (x : Rejection) → planned range head.size ≡ Err x → get_object b k wanted range (view tables t) ≡ Err x
      range_is_refused x out = planned_at ∙ ap (λ r. r >>= (λ plan. Ok (Object (id_told mode (id_of head.id)) head.size plan (cut plan its.row.bytes) head.checksum, view tables t))) out

      pub object_is_told : IsResolved tables → (plan : RangePlan) (bytes : Octets) → planned range head.size ≡ Ok plan → bytes ≡ cut plan (whole tables.refs tables.blocks (t, head.seq))
          → get_object b k wanted range (view tables t) ≡ Ok (Object (id_told mode (id_of head.id)) head.size plan bytes head.checksum, view tables t)
      object_is_told resolved plan bytes within read =
          let kept : cut plan its.row.bytes ≡ bytes = ap (cut plan) (row_bytes resolved) ∙ sym read in
          planned_at ∙ ap (λ r. r >>= (λ p. Ok (Object (id_told mode (id_of head.id)) head.size p (cut p its.row.bytes) head.checksum, view tables t))) within
          ∙ ap (λ l. Ok (Object (id_told mode (id_of head.id)) head.size plan l head.checksum, view tables t)) kept

-- a range names so many bytes
pub cut_length : (range : RangePlan) (size : ℕ) (bytes : Octets) → length bytes ≡ size → length (cut range bytes) ≡ size_of range size
cut_length Whole size bytes is = is
cut_length (Part first last) size bytes is =
    let rest = length-drop first bytes in
    let part = length-take (last + 1 - first) (drop first bytes) in
    grind (arith, nat_tests)

-- ---- the calls, one after another

abbrev pub as_object : RangePlan → Octets → Answer → Answer
as_object plan bytes (Head id size checksum) = Object id size plan bytes checksum
as_object plan bytes other = other

module _ (old middle : Tables) (t b k : Octets) (sound : IsSound old) (mode : BucketState) (found : mode_in b (view old t) ≡ Ok mode) (wanted : Wanted) (one : middle ≡ old) where
  abbrev Looked : Result SeenHead Rejection → Type 0
  Looked r = head_looked wanted (option_map seen_head (wanted_row t b k wanted middle.versions)) ≡ r

  looked_first : (r : Result SeenHead Rejection) → Looked r → head_looked wanted (option_map seen_head (wanted_row t b k wanted old.versions)) ≡ r
  looked_first r e = ap (λ (x : Tables). head_looked wanted (option_map seen_head (wanted_row t b k wanted x.versions))) (sym one) ∙ e

  pub heads : (new : Tables) (head : SeenHead) → Looked (Ok head) → new ≡ middle → GivesStep t (head_object b k wanted) (head_told mode head) old new
  heads new head e two = record {
    gives = head_is_told old t b k sound mode found wanted head (looked_first (Ok head) e) ∙ ap (λ (x : Tables). Ok (head_told mode head, view x t)) (sym (two ∙ one));
    others = λ u apart. ap (λ (x : Tables). view x u) (two ∙ one);
    latest = ap latest_of (two ∙ one);
    shared = shared_none old new (two ∙ one);
  }

  pub heads_refused : (new : Tables) (x : Rejection) → Looked (Err x) → new ≡ middle → (head_object b k wanted (view old t) ≡ Err x) × (new ≡ old)
  heads_refused new x e two = (head_is_refused old t b k sound mode found wanted x (looked_first (Err x) e), two ∙ one)

  pub gets_refused : (range : Option Octets) (new : Tables) (x : Rejection) → Looked (Err x) → new ≡ middle → (get_object b k wanted range (view old t) ≡ Err x) × (new ≡ old)
  gets_refused range new x e two = (get_is_refused old t b k sound mode found wanted x (looked_first (Err x) e) range, two ∙ one)

  pub heads_failed : {X Y : Type 0} (view_head : X → SeenHead) (shows : Y → Answer) (new : Tables) (error : StepError Rejection)
      → Decides view_head (head_looked wanted (option_map seen_head (wanted_row t b k wanted middle.versions))) middle new (Err error) → Carries shows t (head_object b k wanted) old new (Err error)
  heads_failed view_head shows new (Refused x) d = heads_refused new x d.0 d.1
  heads_failed view_head shows new (Failed trouble) d = tt

  pub gets_failed : {X Y : Type 0} (view_head : X → SeenHead) (shows : Y → Answer) (range : Option Octets) (new : Tables) (error : StepError Rejection)
      → Decides view_head (head_looked wanted (option_map seen_head (wanted_row t b k wanted middle.versions))) middle new (Err error) → Carries shows t (get_object b k wanted range) old new (Err error)
  gets_failed view_head shows range new (Refused x) d = gets_refused range new x d.0 d.1
  gets_failed view_head shows range new (Failed trouble) d = tt

  module _ (last : Tables) (two : last ≡ middle) (range : Option Octets) (head : SeenHead) (e : Looked (Ok head)) where
    pub gets_out_of_range : (x : Rejection) → planned range head.size ≡ Err x → (get_object b k wanted range (view old t) ≡ Err x) × (last ≡ old)
    gets_out_of_range x out = (range_is_refused old t b k sound mode found wanted head (looked_first (Ok head) e) range x out, two ∙ one)

    pub gets : IsResolved old → (new : Tables) (plan : RangePlan) (bytes : Octets) → planned range head.size ≡ Ok plan → bytes ≡ cut plan (whole last.refs last.blocks (t, head.seq)) → new ≡ last
        → GivesStep t (get_object b k wanted range) (as_object plan bytes (head_told mode head)) old new
    gets resolved new plan bytes within read three =
        let same : new ≡ old = three ∙ two ∙ one in
        let first : bytes ≡ cut plan (whole old.refs old.blocks (t, head.seq)) = read ∙ ap (λ (x : Tables). cut plan (whole x.refs x.blocks (t, head.seq))) (two ∙ one) in
        record {
          gives = object_is_told old t b k sound mode found wanted head (looked_first (Ok head) e) range resolved plan bytes within first ∙ ap (λ (x : Tables). Ok (as_object plan bytes (head_told mode head), view x t)) (sym same);
          others = λ u apart. ap (λ (x : Tables). view x u) same;
          latest = ap latest_of same;
          shared = shared_none old new same;
        }

  -- the body of the version is as long as its row says
  pub body_size : (last : Tables) → last ≡ middle → (head : SeenHead) → Looked (Ok head) → IsResolved old → length (whole last.refs last.blocks (t, head.seq)) ≡ head.size
  body_size last two head e resolved =
      let is = looked_first (Ok head) e in
      ap (λ (x : Tables). length (whole x.refs x.blocks (t, head.seq))) (two ∙ one)
      ∙ ap length (sym (row_bytes old t b k sound mode found wanted head is resolved)) ∙ sym (sized old t b k sound mode found wanted head is)
