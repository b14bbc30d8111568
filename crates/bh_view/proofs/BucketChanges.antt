-- A row of `buckets` added, changed or taken out: the tenant's buckets with an empty one more, with another state of one, or without one.
use Rattle.std.proofs.Common.{◌≡◌, ◌≢◌, ℕ, ◌≤◌, Bool, true, false, true≢false, cond, List, [], ◌∷◌, ◌++◌, Some, None, IsTrue, refl, sym, ap, ◌∙◌, subst, arith, Option}
use Rattle.std.specs.FinMap.{FinMap, get, insert, remove}
use Rattle.std.proofs.lemmas.Bool.{and_parts}
use Rattle.sqlite_keyed.specs.Lists.{update_where, delete_where}
use Rattle.sqlite_keyed.proofs.ListLemmas.{all-filter}
use Rattle.sqlite_typed.specs.Tests.{bytes_eq}
use Rattle.bh_types.specs.Names.{is_bucket_name}
use Rattle.bh_model.specs.State.{Octets, octets_cmp, Bucket, State, new_bucket}
use Rattle.bh_model.specs.Operations.{with_bucket}
use Rattle.std.specs.List.{AllByRecursion}
use Rattle.bh_tables.specs.Typed.{TenantRow, BucketRow, VersionRow, UploadRow, LockRow, Tables}
use Rattle.bh_tables.specs.Shown.{is_bucket}
use Rattle.bh_view.specs.Grouped.{first, matching, Refers}
use Rattle.bh_view.specs.View.{mode_of, rows_of, bucket_shown, buckets_of, view, latest_of, named, in_bucket, uploads_in, is_locked}
use Rattle.bh_view.specs.Sound.{AreBuckets, AreVersions, AreUploads, AreLocks, AreSound, IsSound, AreDays}
use Rattle.bh_view.specs.Becomes.{Becomes}
use Rattle.bh_view.proofs.DatedLemmas.{empty_any}
use Rattle.bh_view.proofs.Keys.{octets}
use Rattle.bh_view.proofs.FilterLemmas.{none_some, none_mapped}
use Rattle.bh_view.proofs.FactLemmas.{all_pushed, all_updated, none_first, unique_pushed, unique_deleted, unique_updated, refers_grown, refers_left, refers_updated}
use Rattle.bh_view.proofs.OwnLemmas.{rows_at, others_pushed, others_deleted, others_updated, mine_pushed, mine_deleted, mine_updated, within_own}
use Rattle.bh_view.proofs.ViewLemmas.{view_is, own_row, becomes, buckets_shown}
use Rattle.bh_view.proofs.BucketLemmas.{get-buckets_of, bucket_pushed, bucket_deleted, bucket_updated}

abbrev own : BucketRow → Octets
own r = r.tenant

abbrev name : BucketRow → Octets
name r = r.bucket

-- no row has the name of a bucket that is not there
pub bucket_fresh : (tables : Tables) (t : Octets) (s : State) → view tables t ≡ Some s → (b : Octets) → get s.buckets b ≡ None → named b (rows_of t tables).buckets ≡ []
bucket_fresh tables t s is b none =
    let mine = rows_of t tables in
    none_first _ (none_mapped (bucket_shown mine b) _ (sym (get-buckets_of mine b) ∙ ap (λ (x : State). get x.buckets b) (own_row tables t s is).2 ∙ none))

-- uploads whose buckets are there still
uploads_kept : (latest : ℕ) (tenants : List TenantRow) (was now : List BucketRow) (uploads : List UploadRow) → AreUploads latest tenants was uploads → Refers bytes_eq name now (λ (u : UploadRow). u.bucket) uploads → AreUploads latest tenants now uploads
uploads_kept latest tenants was now uploads all owned = record { each = all.each; one = all.one; owned = owned; given = all.given }

-- a bucket in this state; it is locked by a row of another table
pub bucket_added : (old new : Tables) (t : Octets) (s : State) (b : Octets) (at n : ℕ) → n ≤ 2 → IsSound old → view old t ≡ Some s → get s.buckets b ≡ None → IsTrue (is_bucket_name b) → at ≤ latest_of old
    → new ≡ record old { buckets = old.buckets ++ record { tenant = t; bucket = b; created = at; state = n; days = None } ∷ [] } → Becomes t (Some (with_bucket b (record (new_bucket at false) { mode = mode_of n }) s)) old new
bucket_added old new t s b at n low sound is none good early e =
    let r : BucketRow = record { tenant = t; bucket = b; created = at; state = n; days = None } in
    let B : Bucket = record (new_bucket at false) { mode = mode_of n } in
    let after : Tables = record old { buckets = old.buckets ++ r ∷ [] } in
    let mine = rows_of t old in
    let all = sound.tenants t in
    let row = own_row old t s is in
    let fresh = bucket_fresh old t s is b none in
    let here = mine_pushed own old.buckets r in
    let no_versions = all.versions.owned b (ap first fresh) in
    let no_uploads = all.uploads.owned b (ap first fresh) in
    let unlocked : is_locked b mine.locks ≡ false = empty_any (λ (l : LockRow). bytes_eq l.bucket b) mine.locks (all.locks.owned b (ap first fresh)) in
    subst (Becomes t (Some (with_bucket b B s)) old) (sym e)
    (becomes t _ old after sound refl refl refl (λ u apart i. record (rows_of u old) { buckets = others_pushed own old.buckets r u apart i })
    (buckets_shown mine s (sym (view_is old t) ∙ is) (rows_of t after) (λ m. insert m b B) refl refl
    (ap (λ l. buckets_of (record mine { buckets = l })) here ∙ bucket_pushed mine r fresh no_versions no_uploads unlocked))
    (subst (λ l. AreSound (latest_of old) (record mine { buckets = l })) (sym here) (record {
      tenants = all.tenants;
      keys = all.keys;
      buckets = record { each = all_pushed _ _ r all.buckets.each (record { name = good; created = early; state = low; days = tt }); one = unique_pushed octets name _ r all.buckets.one fresh; owned = λ gone. absurd (none_some (sym gone ∙ row.1)) };
      versions = record { each = all.versions.each; one_seq = all.versions.one_seq; one_id = all.versions.one_id; owned = refers_grown octets name (λ (v : VersionRow). v.bucket) mine.buckets mine.versions r all.versions.owned; given = all.versions.given };
      uploads = uploads_kept (latest_of old) mine.tenants mine.buckets (mine.buckets ++ r ∷ []) mine.uploads all.uploads (refers_grown octets name (λ (u : UploadRow). u.bucket) mine.buckets mine.uploads r all.uploads.owned);
      parts = all.parts;
      locks = record { one = all.locks.one; owned = refers_grown octets name (λ (l : LockRow). l.bucket) mine.buckets mine.locks r all.locks.owned; enabled = all_pushed _ _ r all.locks.enabled (λ locked. absurd (true≢false (sym locked ∙ unlocked))) };
      retains = all.retains;
    })))

-- rows that pass a test, changed
some_updated : (P : BucketRow → Type 0) (test : BucketRow → Bool) (f : BucketRow → BucketRow) → ((r : BucketRow) → test r ≡ true → P r → P (f r)) → (rows : List BucketRow) → AllByRecursion P rows → AllByRecursion P (update_where test f rows)
some_updated P test f keeps [] all = tt
some_updated P test f keeps (r ∷ rows) all = (elim (test r) as (λ b. test r ≡ b → P (cond b (f r) r)) [ true ↦ λ e. keeps r e all.0 | false ↦ λ e. all.0 ] refl, some_updated P test f keeps rows all.1)

module _ (old new : Tables) (t : Octets) (s : State) (sound : IsSound old) (is : view old t ≡ Some s) where
  -- the buckets of one tenant change
  buckets_become : (rows mine : List BucketRow) (change : FinMap octets_cmp Bucket → FinMap octets_cmp Bucket) → ((u : Octets) → u ≢ t → rows_at own u rows ≡ rows_at own u old.buckets) → rows_at own t rows ≡ mine
      → buckets_of (record (rows_of t old) { buckets = mine }) ≡ change (buckets_of (rows_of t old)) → AreBuckets (latest_of old) (rows_of t old).tenants mine → AreVersions (latest_of old) (rows_of t old).tenants mine (rows_of t old).versions
      → Refers bytes_eq name mine (λ (u : UploadRow). u.bucket) (rows_of t old).uploads → AreLocks mine (rows_of t old).locks → new ≡ record old { buckets = rows } → Becomes t (Some (record s { buckets = change s.buckets })) old new
  buckets_become rows mine change others here shows good fit uploads locks e =
      let all = sound.tenants t in
      let after : Tables = record old { buckets = rows } in
      subst (Becomes t (Some (record s { buckets = change s.buckets })) old) (sym e)
      (becomes t _ old after sound refl refl refl (λ u apart i. record (rows_of u old) { buckets = others u apart i })
      (buckets_shown (rows_of t old) s (sym (view_is old t) ∙ is) (rows_of t after) change refl refl (ap (λ l. buckets_of (record (rows_of t old) { buckets = l })) here ∙ shows))
      (subst (λ l. AreSound (latest_of old) (record (rows_of t old) { buckets = l })) (sym here) (record { tenants = all.tenants; keys = all.keys; buckets = good; versions = fit; uploads = uploads_kept (latest_of old) (rows_of t old).tenants (rows_of t old).buckets mine (rows_of t old).uploads all.uploads uploads; parts = all.parts; locks = locks; retains = all.retains })))

  -- ---- taken out

  module _ (b : Octets) (empty : in_bucket b (rows_of t old).versions ≡ []) (no_uploads : uploads_in b (rows_of t old).uploads ≡ []) (unlocked : matching bytes_eq (λ (l : LockRow). l.bucket) b (rows_of t old).locks ≡ []) where
    -- a bucket without versions and without uploads, that is not locked
    pub bucket_removed : new ≡ record old { buckets = delete_where (is_bucket t b) old.buckets } → Becomes t (Some (record s { buckets = remove s.buckets b })) old new
    bucket_removed =
        let mine = rows_of t old in
        let all = sound.tenants t in
        let test = λ (r : BucketRow). bytes_eq r.bucket b in
        buckets_become _ (delete_where test mine.buckets) (λ m. remove m b)
        (others_deleted own t (is_bucket t b) (λ r h. within_own own t r (and_parts _ _ h).0) old.buckets)
        (mine_deleted own t test old.buckets) (bucket_deleted mine b)
        (record { each = all-filter _ _ _ all.buckets.each; one = unique_deleted octets name _ test all.buckets.one; owned = λ gone. ap (delete_where test) (all.buckets.owned gone) })
        (record { each = all.versions.each; one_seq = all.versions.one_seq; one_id = all.versions.one_id; owned = refers_left octets name (λ (v : VersionRow). v.bucket) mine.buckets mine.versions b all.versions.owned empty; given = all.versions.given })
        (refers_left octets name (λ (u : UploadRow). u.bucket) mine.buckets mine.uploads b all.uploads.owned no_uploads)
        (record { one = all.locks.one; owned = refers_left octets name (λ (l : LockRow). l.bucket) mine.buckets mine.locks b all.locks.owned unlocked; enabled = all-filter _ _ _ all.locks.enabled })

  -- ---- changed

  module _ (b : Octets) (B : Bucket) (at : get s.buckets b ≡ Some B) (n : ℕ) (low : n ≤ 2) (keeps : is_locked b (rows_of t old).locks ≡ true → n ≡ 1) where
    abbrev is_it : BucketRow → Bool
    is_it r = bytes_eq r.bucket b

    abbrev with_state : BucketRow → BucketRow
    with_state r = record r { state = n }

    there_before : get (buckets_of (rows_of t old)) b ≡ Some B
    there_before = ap (λ (x : State). get x.buckets b) (own_row old t s is).2 ∙ at

    -- the state of a bucket
    pub state_changed : new ≡ record old { buckets = update_where (is_bucket t b) with_state old.buckets } → Becomes t (Some (with_bucket b (record B { mode = mode_of n }) s)) old new
    state_changed =
        let mine = rows_of t old in
        let all = sound.tenants t in
        buckets_become _ (update_where is_it with_state mine.buckets) (λ m. insert m b (record B { mode = mode_of n }))
        (others_updated own t (is_bucket t b) (λ r h. within_own own t r (and_parts _ _ h).0) with_state (λ x. refl) old.buckets)
        (mine_updated own t is_it with_state (λ x. refl) old.buckets) (bucket_updated mine with_state (λ (x : Bucket). record x { mode = mode_of n }) b (λ x. refl) (λ x. refl) B there_before)
        (record {
          each = all_updated _ is_it with_state (λ r good. record { name = good.name; created = good.created; state = low; days = good.days }) _ all.buckets.each;
          one = unique_updated octets name _ is_it with_state (λ x. refl) all.buckets.one;
          owned = λ gone. ap (update_where is_it with_state) (all.buckets.owned gone);
        })
        (record { each = all.versions.each; one_seq = all.versions.one_seq; one_id = all.versions.one_id; owned = refers_updated octets name (λ (v : VersionRow). v.bucket) mine.buckets mine.versions is_it with_state (λ x. refl) all.versions.owned; given = all.versions.given })
        (refers_updated octets name (λ (u : UploadRow). u.bucket) mine.buckets mine.uploads is_it with_state (λ x. refl) all.uploads.owned)
        (record {
          one = all.locks.one;
          owned = refers_updated octets name (λ (l : LockRow). l.bucket) mine.buckets mine.locks is_it with_state (λ x. refl) all.locks.owned;
          enabled = some_updated _ is_it with_state (λ r here was locked. keeps (subst (λ z. is_locked z mine.locks ≡ true) ((octets.decides r.bucket b).0 here) locked)) mine.buckets all.locks.enabled;
        })

  -- ---- another rule

  module _ (b : Octets) (B : Bucket) (at : get s.buckets b ≡ Some B) (d : Option ℕ) (good : AreDays d) where
    abbrev named_so : BucketRow → Bool
    named_so r = bytes_eq r.bucket b

    abbrev with_days : BucketRow → BucketRow
    with_days r = record r { days = d }

    shown_before : get (buckets_of (rows_of t old)) b ≡ Some B
    shown_before = ap (λ (x : State). get x.buckets b) (own_row old t s is).2 ∙ at

    pub days_changed : new ≡ record old { buckets = update_where (is_bucket t b) with_days old.buckets } → Becomes t (Some (with_bucket b (record B { days = d }) s)) old new
    days_changed =
        let mine = rows_of t old in
        let all = sound.tenants t in
        buckets_become _ (update_where named_so with_days mine.buckets) (λ m. insert m b (record B { days = d }))
        (others_updated own t (is_bucket t b) (λ r h. within_own own t r (and_parts _ _ h).0) with_days (λ x. refl) old.buckets)
        (mine_updated own t named_so with_days (λ x. refl) old.buckets) (bucket_updated mine with_days (λ (x : Bucket). record x { days = d }) b (λ x. refl) (λ x. refl) B shown_before)
        (record {
          each = all_updated _ named_so with_days (λ r fine. record { name = fine.name; created = fine.created; state = fine.state; days = good }) _ all.buckets.each;
          one = unique_updated octets name _ named_so with_days (λ x. refl) all.buckets.one;
          owned = λ gone. ap (update_where named_so with_days) (all.buckets.owned gone);
        })
        (record { each = all.versions.each; one_seq = all.versions.one_seq; one_id = all.versions.one_id; owned = refers_updated octets name (λ (v : VersionRow). v.bucket) mine.buckets mine.versions named_so with_days (λ x. refl) all.versions.owned; given = all.versions.given })
        (refers_updated octets name (λ (u : UploadRow). u.bucket) mine.buckets mine.uploads named_so with_days (λ x. refl) all.uploads.owned)
        (record {
          one = all.locks.one;
          owned = refers_updated octets name (λ (l : LockRow). l.bucket) mine.buckets mine.locks named_so with_days (λ x. refl) all.locks.owned;
          enabled = all_updated _ named_so with_days (λ r was. was) mine.buckets all.locks.enabled;
        })
