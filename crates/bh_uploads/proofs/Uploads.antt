-- The upload that a request names: what was read of it is what the tenant's state has.
use Rattle.std.proofs.Common.{◌≡◌, ℕ, ◌<◌, ◌^◌, Bool, true, false, cond, ◌&&◌, is_ok, true≢false, List, [], ◌∷◌, find, filter, Option, Some, None, option_map, bytes_eq, ok_or, Result, Ok, Err, refl, sym, ap, ◌∙◌, subst, arith, length, ◌≤◌}
use Rattle.std.specs.Prelude.{option_and_then}
use Rattle.std.specs.Bool.{one_answer}
use Rattle.std.proofs.lemmas.Slice.Eq.{bytes_eq-Decides}
use Rattle.std.specs.Option.{option_map_or}
use Rattle.std.specs.FinMap.{get}
use Rattle.std.specs.Result.{result_map_both}
use Rattle.sqlite_typed.specs.Tests as tests
use Rattle.bh_types.specs.Outcomes.{◌>>=◌, require}
use Rattle.bh_types.specs.declared.bucket_state.BucketState.{BucketState}
use Rattle.bh_types.specs.declared.id.UploadId.{UploadId}
use Rattle.bh_types.specs.declared.refusal.Refusal.{Refusal}
use Rattle.bh_types.specs.declared.refusal.Refusal.TheVariants.{NoSuchBucket, NoSuchUpload, CounterExhausted}
use Rattle.bh_model.specs.Counting.{can_give}
use Rattle.bh_model.specs.State.{Octets, State, Bucket, Upload}
use Rattle.bh_model.specs.Uploads.{FoundUpload, of_key, found_upload, find_upload}
use Rattle.bh_tables.specs.Typed.{UploadRow, Tables}
use Rattle.bh_tables.specs.Shown.{is_upload}
use Rattle.bh_view.specs.Grouped.{first, same_number}
use Rattle.bh_view.specs.View.{TenantRows, rows_of, uploads_in, of_upload, parts_of, upload_shown, buckets_of, view}
use Rattle.bh_view.specs.Sound.{IsSound}
use Rattle.bh_view.proofs.FilterLemmas.{filter_both, filter_swap, single}
use Rattle.bh_view.proofs.FactLemmas.{none_first}
use Rattle.bh_view.proofs.GroupedLemmas.{is_other}
use Rattle.bh_view.proofs.Keys.{octets, numbers}
use Rattle.bh_view.proofs.PutLemmas.{counters_good}
use Rattle.bh_view.proofs.TenantChanges.{absent_rows}
use Rattle.sqlite_keyed.proofs.ListLemmas.{all_weaker, filter_none}
use Rattle.bh_view.proofs.FindLemmas.{first_find}
use Rattle.bh_view.proofs.UploadLemmas.{at_number, get-uploads, upload_row}
use Rattle.bh_view.proofs.UploadChanges.{there_before, uploads_below}
use Rattle.bh_storage.specs.Calls.{Decides}
use Rattle.bh_storage.specs.declared.error.StepError.{StepError}
use Rattle.bh_storage.specs.declared.error.StepError.TheVariants.{Refused, Failed}
use Rattle.bh_objects.specs.Found.{mode_in}
use Rattle.bh_objects.proofs.Putting.{HasBucket, has_bucket}
use Rattle.bh_uploads.specs.Found.{given, next_upload_in, next_entry_in, upload_there, upload_in}

-- ---- the numbers that counters give

given_is : (n m : ℕ) → given n ≡ Ok m → (can_give n ≡ true) × (n ≡ m)
given_is n m e = go (can_give n) e
  where
    value : Result ℕ Refusal → ℕ
    value (Ok x) = x
    value (Err x) = n

    go : (b : Bool) → cond b (Ok n) (Err CounterExhausted) ≡ Ok m → (b ≡ true) × (n ≡ m)
    go true e = (refl, ap value e)
    go false e = absurd (true≢false (sym (ap is_ok e)))

pub has_upload_number : (v : Option State) (s : State) (n : ℕ) → v ≡ Some s → next_upload_in v ≡ Ok n → (can_give s.next_upload ≡ true) × (s.next_upload ≡ n)
has_upload_number v s n is e = given_is s.next_upload n (ap next_upload_in (sym is) ∙ e)

pub has_entry_number : (v : Option State) (s : State) (n : ℕ) → v ≡ Some s → next_entry_in v ≡ Ok n → (can_give s.next_entry ≡ true) × (s.next_entry ≡ n)
has_entry_number v s n is e = given_is s.next_entry n (ap next_entry_in (sym is) ∙ e)

given_refused : (n : ℕ) (x : Refusal) → given n ≡ Err x → (can_give n ≡ false) × (CounterExhausted ≡ x)
given_refused n x e = go (can_give n) e
  where
    fault : Result ℕ Refusal → Refusal
    fault (Ok m) = x
    fault (Err y) = y

    go : (b : Bool) → cond b (Ok n) (Err CounterExhausted) ≡ Err x → (b ≡ false) × (CounterExhausted ≡ x)
    go true e = absurd (true≢false (ap is_ok e))
    go false e = (refl, ap fault e)

pub no_upload_number : (v : Option State) (s : State) (x : Refusal) → v ≡ Some s → next_upload_in v ≡ Err x → (can_give s.next_upload ≡ false) × (CounterExhausted ≡ x)
no_upload_number v s x is e = given_refused s.next_upload x (ap next_upload_in (sym is) ∙ e)

pub no_entry_number : (v : Option State) (s : State) (x : Refusal) → v ≡ Some s → next_entry_in v ≡ Err x → (can_give s.next_entry ≡ false) × (CounterExhausted ≡ x)
no_entry_number v s x is e = given_refused s.next_entry x (ap next_entry_in (sym is) ∙ e)

-- ---- the upload that was found

pub record HasUpload (name key : Octets) (id : Option UploadId) (v : Option State) (mode : BucketState) (n : ℕ) : Type 0 where
  pub state : State
  pub bucket : Bucket
  pub upload : Upload
  pub added : v ≡ Some state
  pub there : get state.buckets name ≡ Some bucket
  pub its : bucket.mode ≡ mode
  pub begun : get bucket.uploads n ≡ Some upload
  pub found : find_upload name key id v ≡ Ok (record { tenant = state; bucket = bucket; number = n; upload = upload })

module _ (name key : Octets) (mode : BucketState) (n : ℕ) where
  abbrev shown : Result FoundUpload Refusal → Result (BucketState × ℕ) Refusal
  shown r = result_map_both (λ (f : FoundUpload). (f.bucket.mode, f.number)) (λ refusal. refusal) r

  abbrev mode_of : Result (BucketState × ℕ) Refusal → BucketState
  mode_of (Ok p) = p.0
  mode_of (Err x) = mode

  abbrev number_of : Result (BucketState × ℕ) Refusal → ℕ
  number_of (Ok p) = p.1
  number_of (Err x) = n

  pub has_upload : (id : Option UploadId) (v : Option State) → upload_in name key id v ≡ Ok (mode, n) → HasUpload name key id v mode n
  has_upload id None e = absurd (true≢false (sym (ap is_ok e)))
  has_upload id (Some s) e = in_bucket (get s.buckets name) refl id e
    where
      in_bucket : (o : Option Bucket) → get s.buckets name ≡ o → (id : Option UploadId) → shown (ok_or (option_map (λ b. (s, b)) o) NoSuchBucket >>= (λ (f : State × Bucket). ok_or (found_upload key id f.0 f.1) NoSuchUpload)) ≡ Ok (mode, n)
          → HasUpload name key id (Some s) mode n
      in_bucket None is id e = absurd (true≢false (sym (ap is_ok e)))
      in_bucket (Some b) is None e = absurd (true≢false (sym (ap is_ok e)))
      in_bucket (Some b) is (Some i) e = of_number (get b.uploads i.number) refl e
        where
          of_number : (o : Option Upload) → get b.uploads i.number ≡ o → shown (ok_or (option_map (λ (u : Upload). record { tenant = s; bucket = b; number = i.number; upload = u }) (option_and_then (of_key key) o)) NoSuchUpload) ≡ Ok (mode, n)
              → HasUpload name key (Some i) (Some s) mode n
          of_number None at e = absurd (true≢false (sym (ap is_ok e)))
          of_number (Some u) at e = by_key (bytes_eq u.key key) refl e
            where
              by_key : (c : Bool) → bytes_eq u.key key ≡ c → shown (ok_or (option_map (λ (u : Upload). record { tenant = s; bucket = b; number = i.number; upload = u }) (cond c (Some u) None)) NoSuchUpload) ≡ Ok (mode, n) → HasUpload name key (Some i) (Some s) mode n
              by_key false same e = absurd (true≢false (sym (ap is_ok e)))
              by_key true same e =
                  let number : i.number ≡ n = ap number_of e in
                  let all : find_upload name key (Some i) (Some s) ≡ Ok (record { tenant = s; bucket = b; number = i.number; upload = u }) = rw (is, at, same) refl in
                  record {
                    state = s;
                    bucket = b;
                    upload = u;
                    added = refl;
                    there = is;
                    its = ap mode_of e;
                    begun = subst (λ m. get b.uploads m ≡ Some u) number at;
                    found = all ∙ ap (λ m. Ok (record { tenant = s; bucket = b; number = m; upload = u })) number;
                  }

  pub no_upload : (id : Option UploadId) (v : Option State) (x : Refusal) → upload_in name key id v ≡ Err x → find_upload name key id v ≡ Err x
  no_upload id v x e = go (find_upload name key id v) e
    where
      fault : Result (BucketState × ℕ) Refusal → Refusal
      fault (Ok p) = x
      fault (Err y) = y

      go : (r : Result FoundUpload Refusal) → shown r ≡ Err x → r ≡ Err x
      go (Ok f) e = absurd (true≢false (ap is_ok e))
      go (Err y) e = ap (λ r. Err (fault r)) e

-- ---- the row of an upload, and the upload of a state

-- a bucket's uploads are the tenant's rows of that bucket
module _ (tables : Tables) (t : Octets) (s : State) (sound : IsSound tables) (is : view tables t ≡ Some s) (b : Octets) (B : Bucket) (at : get s.buckets b ≡ Some B) (n : ℕ) where
  abbrev rows : List UploadRow
  rows = (rows_of t tables).uploads

  here : get (buckets_of (rows_of t tables)) b ≡ Some B
  here = there_before tables tables t s sound is b B at

  one_row : at_number n rows ≡ filter (is_upload t n) tables.uploads
  one_row = filter_both (λ (u : UploadRow). tests.bytes_eq u.tenant t) (λ u. same_number u.upload n) tables.uploads

  swapped : at_number n (uploads_in b rows) ≡ uploads_in b (filter (is_upload t n) tables.uploads)
  swapped = filter_swap (λ (u : UploadRow). same_number u.upload n) (λ u. tests.bytes_eq u.bucket b) rows ∙ ap (uploads_in b) one_row

  shown_at : get B.uploads n ≡ option_map (upload_shown (rows_of t tables).parts n) (first (uploads_in b (filter (is_upload t n) tables.uploads)))
  shown_at = get-uploads (rows_of t tables) b B here n ∙ ap (λ l. option_map (upload_shown (rows_of t tables).parts n) (first l)) swapped

  -- no row has the number
  pub number_away : find (is_upload t n) tables.uploads ≡ None → get B.uploads n ≡ None
  number_away none = shown_at ∙ ap (λ l. option_map (upload_shown (rows_of t tables).parts n) (first (uploads_in b l))) (none_first _ (first_find (is_upload t n) tables.uploads ∙ none))

  -- one has it, perhaps in another bucket
  pub number_there : (u : UploadRow) → find (is_upload t n) tables.uploads ≡ Some u → get B.uploads n ≡ cond (tests.bytes_eq u.bucket b) (Some (upload_shown (rows_of t tables).parts n u)) None
  number_there u found =
      let alone = single (filter (is_upload t n) tables.uploads) (subst (λ l. length l ≤ 1) one_row ((sound.tenants t).uploads.one n)) u (first_find (is_upload t n) tables.uploads ∙ found) in
      shown_at ∙ ap (λ l. option_map (upload_shown (rows_of t tables).parts n) (first (uploads_in b l))) alone ∙ go (tests.bytes_eq u.bucket b)
    where
      go : (c : Bool) → option_map (upload_shown (rows_of t tables).parts n) (first (cond c (u ∷ []) [])) ≡ cond c (Some (upload_shown (rows_of t tables).parts n u)) None
      go true = refl
      go false = refl

  -- the parts of an upload are the rows that name it
  pub upload_parts : (U : Upload) → get B.uploads n ≡ Some U → U.parts ≡ parts_of (of_upload n (rows_of t tables).parts)
  upload_parts U there = ap (λ (x : Upload). x.parts) (sym (upload_row (rows_of t tables) b B here n U there).2)

-- what was told of a row of a number, in a bucket of this state
abbrev told_at : BucketState → ℕ → Result (Unit {0}) Refusal → Result (BucketState × ℕ) Refusal
told_at mode n (Ok _) = Ok (mode, n)
told_at mode n (Err x) = Err x

module _ (key : Octets) (i : UploadId) where
  abbrev shown_in : State → Bucket → Option Upload → Result (BucketState × ℕ) Refusal
  shown_in s b o = result_map_both (λ (f : FoundUpload). (f.bucket.mode, f.number)) (λ refusal. refusal) (ok_or (option_map (λ (u : Upload). record { tenant = s; bucket = b; number = i.number; upload = u }) (option_and_then (of_key key) o)) NoSuchUpload)

  abbrev bucket_step : State → Option Bucket → Result (BucketState × ℕ) Refusal
  bucket_step s o = result_map_both (λ (f : FoundUpload). (f.bucket.mode, f.number)) (λ refusal. refusal) (ok_or (option_map (λ b. (s, b)) o) NoSuchBucket >>= (λ (f : State × Bucket). ok_or (found_upload key (Some i) f.0 f.1) NoSuchUpload))

  in_state : (name : Octets) (v : Option State) (s : State) (b : Bucket) → v ≡ Some s → get s.buckets name ≡ Some b → upload_in name key (Some i) v ≡ shown_in s b (get b.uploads i.number)
  in_state name v s b added there = ap (upload_in name key (Some i)) added ∙ ap (λ o. bucket_step s o) there

-- what was read of a row is what the state says of the number
pub upload_read : (tables : Tables) (t name key : Octets) (sound : IsSound tables) (mode : BucketState) → mode_in name (view tables t) ≡ Ok mode → (i : UploadId) (r : Result (Unit {0}) Refusal) → upload_there t name key i.number tables ≡ r
    → upload_in name key (Some i) (view tables t) ≡ told_at mode i.number r
upload_read tables t name key sound mode found i r e =
    let h = has_bucket name (view tables t) mode found in
    in_state key i name (view tables t) h.state h.bucket h.added h.there ∙ go h (find (is_upload t i.number) tables.uploads) refl ∙ ap (told_at mode i.number) e
  where
    go : (h : HasBucket name (view tables t) mode) (o : Option UploadRow) → find (is_upload t i.number) tables.uploads ≡ o
        → shown_in key i h.state h.bucket (get h.bucket.uploads i.number) ≡ told_at mode i.number (require (option_map_or (λ (u : UploadRow). bytes_eq u.bucket name && bytes_eq u.okey key) o false) NoSuchUpload)
    go h None none = ap (shown_in key i h.state h.bucket) (number_away tables t h.state sound h.added name h.bucket h.there i.number none)
    go h (Some u) there =
        ap (shown_in key i h.state h.bucket) (number_there tables t h.state sound h.added name h.bucket h.there i.number u there ∙ ap (λ c. cond c (Some (upload_shown (rows_of t tables).parts i.number u)) None) (one_answer _ _ (octets.decides u.bucket name) (bytes_eq-Decides u.bucket name)))
        ∙ elim (bytes_eq u.bucket name) as (λ c. shown_in key i h.state h.bucket (cond c (Some (upload_shown (rows_of t tables).parts i.number u)) None) ≡ told_at mode i.number (require (c && bytes_eq u.okey key) NoSuchUpload)) [
          | true ↦ elim (bytes_eq u.okey key) as (λ c. result_map_both (λ (f : FoundUpload). (f.bucket.mode, f.number)) (λ refusal. refusal) (ok_or (option_map (λ (x : Upload). record { tenant = h.state; bucket = h.bucket; number = i.number; upload = x }) (cond c (Some (upload_shown (rows_of t tables).parts i.number u)) None)) NoSuchUpload)
              ≡ told_at mode i.number (require c NoSuchUpload)) [ true ↦ ap (λ m. Ok (m, i.number)) h.its | false ↦ refl ]
          | false ↦ refl
        ]

-- no upload has a number that no counter gives
pub number_high : (tables : Tables) (t name key : Octets) (n : ℕ) → (n < 2 ^ 62 → ⊥) → IsSound tables → upload_there t name key n tables ≡ Err NoSuchUpload
number_high tables t name key n high sound = ap (λ (o : Option UploadRow). require (option_map_or (λ (u : UploadRow). bytes_eq u.bucket name && bytes_eq u.okey key) o false) NoSuchUpload) none
  where
    away : (o : Option State) → view tables t ≡ o → at_number n (rows_of t tables).uploads ≡ []
    away None is = ap (λ (r : TenantRows). at_number n r.uploads) (absent_rows tables t sound is)
    away (Some s) is =
        let most = (counters_good tables t s sound is).1.1 in
        filter_none _ _ (all_weaker _ (λ (u : UploadRow). same_number u.upload n ≡ false) (λ u less. is_other numbers u.upload n (λ same. high (omega (arith, less, same, most)))) _ (uploads_below tables t s sound is))

    none : find (is_upload t n) tables.uploads ≡ None
    none = sym (first_find (is_upload t n) tables.uploads) ∙ ap first (sym (filter_both (λ (u : UploadRow). tests.bytes_eq u.tenant t) (λ u. same_number u.upload n) tables.uploads) ∙ away (view tables t) refl)

-- ---- what was answered of the calls, where the last of them fails

pub upload_refused : (old middle new : Tables) (t name key : Octets) → IsSound old → (mode : BucketState) → mode_in name (view old t) ≡ Ok mode → middle ≡ old → (id : Option UploadId) (i : UploadId) → id ≡ Some i → (error : StepError Refusal) {X : Type 0} (shows : X → BucketState × ℕ)
    → Decides (λ (_ : Unit {0}). tt) (upload_there t name key i.number middle) middle new (Err error) → Decides shows (upload_in name key id (view old t)) old new (Err error)
upload_refused old middle new t name key sound mode found same id i is (Refused x) shows d =
    (ap (λ o. upload_in name key o (view old t)) is ∙ upload_read old t name key sound mode found i (Err x) (ap (upload_there t name key i.number) (sym same) ∙ d.0), d.1 ∙ same)
upload_refused old middle new t name key sound mode found same id i is (Failed trouble) shows d = tt
