-- DeleteObject: what was read, and the rows that were written, are the machine's step.
use Rattle.std.proofs.Common.{◌≡◌, ◌≢◌, ℕ, zero, suc, ◌<◌, ◌≤◌, ◌^◌, Bool, true, false, not, ◌&&◌, List, [], find, Option, Some, None, option_map, Result, Ok, Err, refl, sym, ap, ◌∙◌, subst, arith, le-leb}
use Rattle.std.specs.Prelude.{if◌then◌else◌}
use Rattle.std.specs.Option.{option_map_or}
use Rattle.std.specs.FinMap.{get}
use Rattle.std.proofs.lemmas.Bool.{and_parts}
use Rattle.sqlite_keyed.specs.Lists.{delete_where}
use Rattle.sqlite_typed.specs.Tests.{bytes_eq}
use Rattle.bh_types.specs.Counts.{Counts}
use Rattle.bh_types.specs.Outcomes.{◌>>=◌}
use Rattle.bh_types.specs.declared.bucket_state.BucketState.{BucketState}
use Rattle.bh_types.specs.declared.bucket_state.BucketState.TheVariants.{Unversioned, Enabled, Suspended}
use Rattle.bh_types.specs.declared.id.VersionId.{VersionId}
use Rattle.bh_types.specs.declared.refusal.Refusal.{Refusal}
use Rattle.bh_types.specs.declared.refusal.Refusal.TheVariants.{AccessDenied}
use Rattle.bh_types.specs.declared.wanted.Wanted.{Wanted}
use Rattle.bh_types.specs.declared.wanted.Wanted.TheVariants.{Current, Named, Unknown}
use Rattle.bh_model.specs.State.{Octets, Content.Marker, Entry, State, Bucket}
use Rattle.bh_model.specs.Counting.{counts, with_counts, after_entry, after_delete}
use Rattle.bh_model.specs.Entries.{is_body, is_version as is_object, has_id, new_id, deleted, without}
use Rattle.bh_model.specs.Operations.{Answer, Outcome, Removed, id_told, listed, with_bucket, with_entries, removed, removed_named, delete_object}
use Rattle.bh_model.specs.Retention.{date_of, named_date, may_go, without_date}
use Rattle.bh_tables.specs.Typed.{Tables, VersionRow}
use Rattle.bh_tables.specs.Shown.{is_version}
use Rattle.bh_view.specs.Becomes.{Becomes}
use Rattle.bh_view.specs.Grouped.{same_number}
use Rattle.bh_view.specs.View.{view, latest_of, limits_in, entry_of, content_of, id_of}
use Rattle.bh_view.specs.Sound.{IsSound}
use Rattle.bh_view.specs.Wanted.{wanted_row}
use Rattle.bh_view.proofs.Keys.{numbers}
use Rattle.bh_view.proofs.FilterLemmas.{first_passes}
use Rattle.bh_view.proofs.FindLemmas.{first_find}
use Rattle.bh_view.proofs.PutLemmas.{marker_put}
use Rattle.bh_view.proofs.WantedLemmas.{named_row, named_entry, no_row}
use Rattle.bh_view.proofs.DeleteLemmas.{entries_same, nothing_removed, null_removed, null_kept}
use Rattle.bh_view.proofs.SharedLemmas.{shared_same, shared_none}
use Rattle.bh_storage.specs.Calls.{GivesStep, Carries, Decides}
use Rattle.bh_storage.specs.declared.error.StepError.{StepError}
use Rattle.bh_storage.specs.declared.error.StepError.TheVariants.{Refused, Failed}
use Rattle.bh_view.specs.Bodies.{HasBodies}
use Rattle.bh_objects.specs.Found.{mode_in, numbers_in, IsKeyText, with_entry}
use Rattle.bh_objects.specs.Dates.{date_at, past_date_in, with_date as with_date_row}
use Rattle.bh_objects.specs.Writes.{without_entry, without_null_version, marker_written}
use Rattle.bh_objects.proofs.Undating.{row_date, named_date_is, no_date, dated_gone, may_if, may_not}
use Rattle.bh_objects.proofs.Dropping.{Leaves, entry_gone}
use Rattle.bh_objects.proofs.Written.{becomes_so, IsHostOf, marker_is_written, left_written, whole_host}
use Rattle.bh_objects.specs.Answers.{is_marked}
use Rattle.bh_objects.proofs.Putting.{HasBucket, has_bucket, has_numbers, next_unnamed}

module _ (b k : Octets) (at : ℕ) (wanted : Wanted) where
  -- what the machine makes of a bucket that is there, in this state, where nothing keeps the version
  abbrev made : State → Bucket → BucketState → Result Counts Refusal → Result Outcome Refusal
  made s B mode r =
      r >>= (λ c. Ok (removed mode wanted s.next_version (listed k B), Some (with_bucket b (without_date k wanted (with_entries k (deleted mode wanted s.next_version at (listed k B)) B)) (with_counts c s))))

  delete_in : (v : Option State) (s : State) (B : Bucket) → v ≡ Some s → get s.buckets b ≡ Some B → may_go (named_date k wanted B) at ≡ true → delete_object at b k wanted v ≡ made s B B.mode (after_delete B.mode wanted (counts s))
  delete_in v s B is there goes = rw (is, there, goes) refl

  pub delete_at : (v : Option State) (mode : BucketState) (h : HasBucket b v mode) → may_go (named_date k wanted h.bucket) at ≡ true → delete_object at b k wanted v ≡ made h.state h.bucket mode (after_delete mode wanted (counts h.state))
  delete_at v mode h goes = delete_in v h.state h.bucket h.added h.there goes ∙ ap (λ m. made h.state h.bucket m (after_delete m wanted (counts h.state))) h.its

  -- a version that is kept
  delete_kept : (v : Option State) (s : State) (B : Bucket) → v ≡ Some s → get s.buckets b ≡ Some B → may_go (named_date k wanted B) at ≡ false → delete_object at b k wanted v ≡ Err AccessDenied
  delete_kept v s B is there kept = rw (is, there, kept) refl

-- nothing keeps a version that has no date
pub undated_goes : (at : ℕ) → may_go None at ≡ true
undated_goes at = le-leb _ _ (omega arith)

-- what a step leaves, and what stays of the tables
abbrev pub Steps : Octets → Octets → Octets → ℕ → Wanted → Answer → Tables → Tables → Type 0
Steps t b k at wanted answer old new = GivesStep t (delete_object at b k wanted) answer old new × IsSound new × (limits_in new ≡ limits_in old)

-- and what stays of the bodies
abbrev pub Deletes : Octets → Octets → Octets → ℕ → Wanted → Answer → Tables → Tables → Type 0
Deletes t b k at wanted answer old new = Steps t b k at wanted answer old new × HasBodies new × (new.blocks ≡ old.blocks)

steps : (t b k : Octets) (at : ℕ) (wanted : Wanted) (answer : Answer) (old new : Tables) (s : State) → Becomes t (Some s) old new → new.blocks ≡ old.blocks → delete_object at b k wanted (view old t) ≡ Ok (answer, Some s)
    → Steps t b k at wanted answer old new
steps t b k at wanted answer old new s change same is =
    (record { gives = is ∙ ap (λ v. Ok (answer, v)) (sym change.shown); others = change.others; latest = change.latest; shared = shared_same old new same }, change.sound, change.limits)

-- a step that changes nothing
stays : (t b k : Octets) (at : ℕ) (wanted : Wanted) (answer : Answer) (old new : Tables) (s : State) → new ≡ old → view old t ≡ Some s → delete_object at b k wanted (view old t) ≡ Ok (answer, Some s) → GivesStep t (delete_object at b k wanted) answer old new
stays t b k at wanted answer old new s same is gives = record {
  gives = gives ∙ ap (λ v. Ok (answer, v)) (sym is ∙ ap (λ (x : Tables). view x t) (sym same));
  others = λ u apart. ap (λ (x : Tables). view x u) same;
  latest = ap latest_of same;
  shared = shared_none old new same;
}

-- ---- a delete marker

versioned_counts : (mode : BucketState) → mode ≢ Unversioned → (c : Counts) → after_delete mode Current c ≡ after_entry mode c
versioned_counts Unversioned apart c = absurd (apart refl)
versioned_counts Enabled apart c = refl
versioned_counts Suspended apart c = refl

versioned_answer : (mode : BucketState) → mode ≢ Unversioned → (next : ℕ) (l : List Entry) → removed mode Current next l ≡ Removed (Some (new_id mode next)) true
versioned_answer Unversioned apart next l = absurd (apart refl)
versioned_answer Enabled apart next l = refl
versioned_answer Suspended apart next l = refl

module _ (old new : Tables) (t b k : Octets) (at : ℕ) (host : IsHostOf old) where
  abbrev sound : IsSound old
  sound = host.sound

  pub marks : (mode : BucketState) (c after : Counts) → mode ≢ Unversioned → at ≤ latest_of old → IsKeyText k → mode_in b (view old t) ≡ Ok mode → numbers_in mode (view old t) ≡ Ok (c, after)
      → new ≡ marker_written mode c after t b k at old → Deletes t b k at Current (Removed (Some (new_id mode c.version)) true) old new
  marks mode c after apart early key found read e =
      let h = has_bucket b (view old t) mode found in
      let given = has_numbers (view old t) h.state mode c after h.added read in
      let it = marker_is_written old host mode c after t b k at (next_unnamed old t h.state sound h.added c given.0) new e in
      let target = with_entry mode c after t b k at Marker old in
      let change = becomes_so t _ old target new (marker_put old target t h.state sound h.added b k h.bucket h.there at early key.key key.valid mode after apart given.1 (ap (λ (x : Counts). with_entry mode x after t b k at Marker old) (sym given.0))) it.0.rows in (
        subst (λ (x : Counts). Steps t b k at Current (Removed (Some (new_id mode x.version)) true) old new) given.0
            (steps t b k at Current _ old new _ change it.1 (delete_at b k at Current (view old t) mode h (undated_goes at) ∙ ap (made b k at Current h.state h.bucket mode) (versioned_counts mode apart (counts h.state) ∙ given.1)
            ∙ ap (λ a. Ok (a, Some (with_bucket b (with_entries k (deleted mode Current h.state.next_version at (listed k h.bucket)) h.bucket) (with_counts after h.state)))) (versioned_answer mode apart h.state.next_version (listed k h.bucket)))),
        it.0.bodies,
        it.1,
      )

  -- ---- the version `null`, where versions were never kept

  module _ (found : mode_in b (view old t) ≡ Ok Unversioned) where
    abbrev plain : HasBucket b (view old t) Unversioned
    plain = has_bucket b (view old t) Unversioned found

    -- none is there, or a delete marker
    null_stays : option_map_or (λ v. is_object (entry_of v)) (find (is_version t b k 0) old.versions) false ≡ false → new ≡ old → Deletes t b k at Current (Removed None false) old new
    null_stays none e =
        let kept = null_kept old t plain.state plain.added b k plain.bucket plain.there sound none in (
          (stays t b k at Current _ old new plain.state e plain.added (delete_at b k at Current (view old t) Unversioned plain (undated_goes at) ∙ ap (λ (s : State). Ok (Removed None false, Some s)) kept), subst IsSound (sym e) sound, ap limits_in e),
          subst HasBodies (sym e) host.bodies,
          ap (λ (x : Tables). x.blocks) e,
        )

    null_goes : (v : VersionRow) → find (is_version t b k 0) old.versions ≡ Some v → v.marker ≡ 0 → new ≡ without_entry t b k 0 v.seq old → Deletes t b k at Current (Removed None false) old new
    null_goes v there body e =
        let target : Tables = record old { versions = delete_where (is_version t b k 0) old.versions } in
        let it = left_written old new target.versions (subst (Leaves [] target.versions old) (sym e) (entry_gone old sound [] old (whole_host old host) refl refl t b k 0 v there)) in
        let change = null_removed old t plain.state plain.added b k plain.bucket plain.there sound v there body target refl in
        (steps t b k at Current _ old new _ (becomes_so t _ old target new change it.0.rows) it.1 (delete_at b k at Current (view old t) Unversioned plain (undated_goes at)), it.0.bodies, it.1)

    pub deletes_null : new ≡ without_null_version t b k old → Deletes t b k at Current (Removed None false) old new
    deletes_null = go (find (is_version t b k 0) old.versions) refl
      where
        of_row : (v : VersionRow) → find (is_version t b k 0) old.versions ≡ Some v → (m : ℕ) → v.marker ≡ m → new ≡ (if is_marked m then old else without_entry t b k 0 v.seq old) → Deletes t b k at Current (Removed None false) old new
        of_row v there zero its = null_goes v there its
        of_row v there (suc m) its = null_stays (ap (λ o. option_map_or (λ v. is_object (entry_of v)) o false) there ∙ ap (λ n. is_body (content_of n v)) its)

        go : (o : Option VersionRow) → find (is_version t b k 0) old.versions ≡ o → new ≡ option_map_or (λ v. if is_marked v.marker then old else without_entry t b k 0 v.seq old) o old → Deletes t b k at Current (Removed None false) old new
        go None none = null_stays (ap (λ o. option_map_or (λ v. is_object (entry_of v)) o false) none)
        go (Some v) there = of_row v there v.marker refl

  -- ---- by an id

  module _ (mode : BucketState) (found : mode_in b (view old t) ≡ Ok mode) where
    abbrev bucket : HasBucket b (view old t) mode
    bucket = has_bucket b (view old t) mode found

    named_counts : (m : BucketState) (id : VersionId) (c : Counts) → after_delete m (Named id) c ≡ Ok c
    named_counts Unversioned id c = refl
    named_counts Enabled id c = refl
    named_counts Suspended id c = refl

    unknown_counts : (m : BucketState) (c : Counts) → after_delete m Unknown c ≡ Ok c
    unknown_counts Unversioned c = refl
    unknown_counts Enabled c = refl
    unknown_counts Suspended c = refl

    abbrev left_of : VersionId → Bucket
    left_of id = without_date k (Named id) (with_entries k (deleted mode (Named id) bucket.state.next_version at (listed k bucket.bucket)) bucket.bucket)

    named_at : (id : VersionId) → may_go (date_of k id bucket.bucket) at ≡ true → delete_object at b k (Named id) (view old t)
        ≡ Ok (removed_named mode (option_map entry_of (wanted_row t b k (Named id) old.versions)), Some (with_bucket b (left_of id) bucket.state))
    named_at id goes = delete_at b k at (Named id) (view old t) mode bucket goes ∙ ap (made b k at (Named id) bucket.state bucket.bucket mode) (named_counts mode id (counts bucket.state))
        ∙ ap (λ o. Ok (removed_named mode o, Some (with_bucket b (left_of id) bucket.state)))
        (named_entry old t sound b k bucket.state bucket.added bucket.bucket bucket.there id)

    its_date : (id : VersionId) → date_of k id bucket.bucket ≡ row_date t (wanted_row t b k (Named id) old.versions) old
    its_date = named_date_is old t sound bucket.state bucket.added b k bucket.bucket bucket.there

    -- an id that is not there
    pub deletes_nothing : (id : VersionId) → wanted_row t b k (Named id) old.versions ≡ None → new ≡ old → GivesStep t (delete_object at b k (Named id)) (Removed None false) old new
    deletes_nothing id none same =
        let missing : find (has_id id) (listed k bucket.bucket) ≡ None = named_entry old t sound b k bucket.state bucket.added bucket.bucket bucket.there id ∙ ap (option_map entry_of) none in
        let undated : date_of k id bucket.bucket ≡ None = its_date id ∙ ap (λ o. row_date t o old) none in
        let entries = with_entries k (deleted mode (Named id) bucket.state.next_version at (listed k bucket.bucket)) bucket.bucket in
        stays t b k at (Named id) _ old new bucket.state same bucket.added (named_at id (ap (λ d. may_go d at) undated ∙ undated_goes at) ∙ ap (λ o. Ok (removed_named mode (option_map entry_of o), Some (with_bucket b (left_of id) bucket.state))) none
        ∙ ap (λ m. Ok (Removed None false, Some (with_bucket b (record entries { dates = m }) bucket.state))) (no_date k id bucket.bucket undated)
        ∙ ap (λ (s : State). Ok (Removed None false, Some s)) (nothing_removed old t bucket.state bucket.added b k bucket.bucket bucket.there id missing))

    pub deletes_no_number : (id : VersionId) → ((n : ℕ) → n < 2 ^ 62 → id_of n ≢ id) → new ≡ old → GivesStep t (delete_object at b k (Named id)) (Removed None false) old new
    deletes_no_number id none = deletes_nothing id (no_row old t sound b k id none)

    pub deletes_unknown : new ≡ old → GivesStep t (delete_object at b k Unknown) (Removed None false) old new
    deletes_unknown same = stays t b k at Unknown _ old new bucket.state same bucket.added (delete_at b k at Unknown (view old t) mode bucket (undated_goes at) ∙ ap (made b k at Unknown bucket.state bucket.bucket mode) (unknown_counts mode (counts bucket.state))
        ∙ ap (λ (s : State). Ok (Removed None false, Some s)) (entries_same old t bucket.state bucket.added b k bucket.bucket bucket.there))

    -- an entry that is there
    module _ (id : VersionId) (n : ℕ) (number : id_of n ≡ id) where
      numbered_row : wanted_row t b k (Named id) old.versions ≡ find (is_version t b k n) old.versions
      numbered_row = ap (λ x. wanted_row t b k (Named x) old.versions) (sym number) ∙ named_row t b k n old.versions

      pub deletes_absent : find (is_version t b k n) old.versions ≡ None → new ≡ old → GivesStep t (delete_object at b k (Named id)) (Removed None false) old new
      deletes_absent none = deletes_nothing id (numbered_row ∙ none)

      row_id : (row : VersionRow) → find (is_version t b k n) old.versions ≡ Some row → id_of row.id ≡ id
      row_id row there =
          let passes = first_passes (is_version t b k n) old.versions row (first_find (is_version t b k n) old.versions ∙ there) in
          let in_bucket = and_parts (bytes_eq row.tenant t) (bytes_eq row.bucket b && (bytes_eq row.okey k && same_number row.id n)) passes in
          let in_key = and_parts (bytes_eq row.bucket b) (bytes_eq row.okey k && same_number row.id n) in_bucket.1 in
          ap id_of ((numbers.decides row.id n).0 (and_parts (bytes_eq row.okey k) (same_number row.id n) in_key.1).1) ∙ number

      told : (row : VersionRow) → id_of row.id ≡ id → (marker : Bool) → (m : ℕ) → row.marker ≡ m → marker ≡ not (is_object (record { id = id_of row.id; moment = row.stamp; content = content_of m row }))
          → removed_named mode (Some (entry_of row)) ≡ Removed (id_told mode id) marker
      told row is marker m its right = (λ i. Removed (id_told mode (is i)) (not (is_object (record { id = id_of row.id; moment = row.stamp; content = content_of (its i) row })))) ∙ ap (λ a. Removed (id_told mode id) a) (sym right)

      module _ (row : VersionRow) (there : find (is_version t b k n) old.versions ≡ Some row) where
        abbrev date_read : Option ℕ
        date_read = date_at t row.seq old

        date_told : date_of k id bucket.bucket ≡ date_read
        date_told = its_date id ∙ ap (λ o. row_date t o old) (numbered_row ∙ there)

        -- it is kept until its date
        pub deletes_kept : may_go date_read at ≡ false → delete_object at b k (Named id) (view old t) ≡ Err AccessDenied
        deletes_kept kept = delete_kept b k at (Named id) (view old t) bucket.state bucket.bucket bucket.added bucket.there (ap (λ d. may_go d at) date_told ∙ kept)

        -- and then goes with its date
        pub deletes_entry : (marker : Bool) → marker ≡ not (is_object (entry_of row)) → may_go date_read at ≡ true → new ≡ without_entry t b k n row.seq (with_date_row t row.seq date_read None old)
            → Deletes t b k at (Named id) (Removed (id_told mode id) marker) old new
        deletes_entry marker right goes e =
            let it = dated_gone old host t bucket.state bucket.added b k bucket.bucket bucket.there n row there new e in (
              steps t b k at (Named id) _ old new _ (subst (λ (x : VersionId). Becomes t (Some (with_bucket b (without_date k (Named x) (with_entries k (without x (listed k bucket.bucket)) bucket.bucket)) bucket.state)) old new) number it.0) it.2
                  (named_at id (ap (λ d. may_go d at) date_told ∙ goes)
                  ∙ ap (λ o. Ok (removed_named mode (option_map entry_of o), Some (with_bucket b (left_of id) bucket.state))) (numbered_row ∙ there)
                  ∙ ap (λ a. Ok (a, Some (with_bucket b (left_of id) bucket.state))) (told row (row_id row there) marker row.marker refl right)),
              it.1,
              it.2,
            )

        -- what was read of it, and then the rows that went
        pub deletes_read : (date : Option ℕ) → past_date_in t row.seq at old ≡ Ok date → (marker : Bool) → marker ≡ not (is_object (entry_of row)) → new ≡ without_entry t b k n row.seq (with_date_row t row.seq date None old)
            → Deletes t b k at (Named id) (Removed (id_told mode id) marker) old new
        deletes_read date read marker right e =
            let may = may_if date_read date (may_go date_read at) read in
            deletes_entry marker right may.0 (e ∙ ap (λ d. without_entry t b k n row.seq (with_date_row t row.seq d None old)) (sym may.1))

        pub deletes_failed : {X Y : Type 0} (shows : X → Option ℕ) (tells : Y → Answer) (error : StepError Refusal) → Decides shows (past_date_in t row.seq at old) old new (Err error) → Carries tells t (delete_object at b k (Named id)) old new (Err error)
        deletes_failed shows tells (Refused x) d =
            let not_yet = may_not date_read x (may_go date_read at) d.0 in
            (deletes_kept not_yet.0 ∙ ap (λ r. Err r) not_yet.1, d.1)
        deletes_failed shows tells (Failed trouble) d = tt

-- the column `marker` says whether it is no object
pub marked_object : (row : VersionRow) (m : ℕ) → m ≡ row.marker → is_marked m ≡ not (is_object (entry_of row))
marked_object row m same = ap is_marked same ∙ go row.marker
  where
    go : (x : ℕ) → is_marked x ≡ not (is_body (content_of x row))
    go zero = refl
    go (suc x) = refl
