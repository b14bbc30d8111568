-- That no change gives an entry the id of another one of its key.
use Rattle.std.proofs.Common.{◌≡◌, ℕ, ◌+◌, ◌≤◌, ◌==◌, Bool, true, false, cond, not, ◌&&◌, List, [], ◌∷◌, length, filter, Option, Some, None, option_and_then, is_none, is_some, unwrap_or, nat_le, ◌^◌, Result, Ok, Err, refl, sym, subst, ap, ◌∙◌, arith, Ordering}
use Rattle.std.specs.List.{AllByRecursion}
use Rattle.std.specs.Result.{IfOk}
use Rattle.std.specs.Ordering.{eq_by_cmp}
use Rattle.std.specs.Cmp.{IsTotalOrder}
use Rattle.std.specs.FinMap.{FinMap, get, empty, insert, remove, get-empty, get-insert, get-remove}
use Rattle.std.proofs.lemmas.Bool.Decides.{nat_tests}
use Rattle.std.proofs.lemmas.Option.{none-some, same_Some}
use Rattle.bh_types.specs.Counts.{Counts}
use Rattle.bh_types.specs.Names.{is_tenant_name, is_key_name, is_secret}
use Rattle.bh_types.specs.declared.bucket_state.BucketState.{BucketState}
use Rattle.bh_types.specs.declared.bucket_state.BucketState.TheVariants.{Unversioned, Enabled, Suspended}
use Rattle.bh_types.specs.declared.id.UploadId.{UploadId}
use Rattle.bh_types.specs.declared.id.VersionId.{VersionId}
use Rattle.bh_types.specs.declared.id.VersionId.TheVariants.{Null, Numbered}
use Rattle.bh_types.specs.Checksums.{checksum_text}
use Rattle.bh_types.specs.Outcomes.{◌>>=◌}
use Rattle.bh_types.specs.declared.refusal.Refusal.{Refusal}
use Rattle.bh_types.specs.declared.refusal.Refusal.TheVariants.{AccessDenied, InvalidName, InvalidQuota, TenantExists, KeyExists, NoSuchKeyName, BucketAlreadyOwnedByYou, BucketNotEmpty, InvalidBucketState, BadDigest, QuotaExceeded, CounterExhausted}
use Rattle.bh_types.specs.Rejections.{plainly, for_date}
use Rattle.bh_types.specs.declared.wanted.Wanted.{Wanted}
use Rattle.bh_types.specs.declared.wanted.Wanted.TheVariants.{Current, Named, Unknown}
use Rattle.bh_model.specs.FinMaps.{is_empty}
use Rattle.bh_model.specs.State.{Octets, octets_cmp, Content, Content.Marker, Content.Body, Entry, Part, Bucket, State, new_bucket, purged_bucket}
use Rattle.bh_model.specs.Counting.{counts, with_counts, can_give, can_number, numbered, after_delete}
use Rattle.bh_model.specs.Entries.{same_id, has_id, is_version, without, added, deleted}
use Rattle.bh_model.specs.Ids.{HaveOwnIds, WasGiven, AreNumbered, BucketIsNumbered, IsNumbered}
use Rattle.bh_model.specs.Parts.{Naming, is_checksum, completed}
use Rattle.bh_model.specs.Quotas.{keeps_quota}
use Rattle.bh_model.specs.Retention.{keeps_versions, can_retain, date_of, named_date, may_go, with_date, may_retain, first_date}
use Rattle.bh_model.specs.Runs.{purged_tenant}
use Rattle.bh_model.specs.Operations.{Outcome, listed, removed, with_deleted, with_bucket, with_entries, with_content, with_new_date, with_object, with_copy, found_version, source_version, add_tenant, set_quota, add_key, remove_key, create_bucket, put_object, copy_object, delete_object}
use Rattle.bh_model.specs.Uploads.{with_upload, without_upload, with_stored, new_upload, create_upload, upload_part, complete_upload}
use Rattle.bh_model.proofs.Changes.{Always, Changes, Settings, found, of_bucket, of_plain_bucket, of_upload}
use Rattle.bh_model.proofs.KeyLemmas.{tested}
use Rattle.bh_model.proofs.MapLemmas.{get-adjusted}
use Rattle.bh_model.proofs.QuotaLemmas.{and_then, anyway, whatever}
use Rattle.bh_model.proofs.UsedLemmas.{octets_total, octets_same}

-- ---- the entries of a key

grown : (t : Bool) (e : Entry) (xs ys : List Entry) → length xs ≤ length ys → length (cond t (e ∷ xs) xs) ≤ length (cond t (e ∷ ys) ys)
grown true e xs ys few = omega (arith, few)
grown false e xs ys few = few

more : (t : Bool) (e : Entry) (xs ys : List Entry) → length xs ≤ length ys → length xs ≤ length (cond t (e ∷ ys) ys)
more true e xs ys few = omega (arith, few)
more false e xs ys few = few

fewer : (p q : Entry → Bool) (es : List Entry) → length (filter q (filter p es)) ≤ length (filter q es)
fewer p q [] = omega arith
fewer p q (e ∷ es) = elim (p e) as (λ b. length (filter q (cond b (e ∷ filter p es) (filter p es))) ≤ length (filter q (e ∷ es))) [
  | true ↦ grown (q e) e (filter q (filter p es)) (filter q es) (fewer p q es)
  | false ↦ more (q e) e (filter q (filter p es)) (filter q es) (fewer p q es)
]

none_left : (q : Entry → Bool) (es : List Entry) → length (filter q (filter (λ e. not (q e)) es)) ≡ 0
none_left q [] = refl
none_left q (e ∷ es) =
    let rest = filter (λ e. not (q e)) es in
    elim (q e) as (λ b. q e ≡ b → length (filter q (cond (not b) (e ∷ rest) rest)) ≡ 0) [
      | true ↦ λ is. none_left q es
      | false ↦ λ is. ap (λ b. length (cond b (e ∷ filter q rest) (filter q rest))) is ∙ none_left q es
    ] refl

all_kept : (P : Entry → Type 0) (p : Entry → Bool) (es : List Entry) → AllByRecursion P es → AllByRecursion P (filter p es)
all_kept P p [] all = tt
all_kept P p (e ∷ es) all = elim (p e) as (λ b. AllByRecursion P (cond b (e ∷ filter p es) (filter p es))) [ true ↦ (all.0, all_kept P p es all.1) | false ↦ all_kept P p es all.1 ]

-- no entry has the next number
not_given : (next : ℕ) (es : List Entry) → AllByRecursion (λ e. WasGiven next e.id) es → length (filter (has_id (Numbered next)) es) ≡ 0
not_given next [] all = refl
not_given next (e ∷ es) all =
    ap (λ b. length (cond b (e ∷ filter (has_id (Numbered next)) es) (filter (has_id (Numbered next)) es))) (other e.id all.0) ∙ not_given next es all.1
  where
    other : (id : VersionId) → WasGiven next id → same_id id (Numbered next) ≡ false
    other Null below = refl
    other (Numbered n) below = grind (arith, nat_tests, below)

given_later : (m n : ℕ) → m ≤ n → (es : List Entry) → AllByRecursion (λ e. WasGiven m e.id) es → AllByRecursion (λ e. WasGiven n e.id) es
given_later m n le [] all = tt
given_later m n le (e ∷ es) all = (one e.id all.0, given_later m n le es all.1)
  where
    one : (id : VersionId) → WasGiven m id → WasGiven n id
    one Null below = tt
    one (Numbered k) below = omega (arith, le, below)

later : (m n : ℕ) → m ≤ n → (es : List Entry) → AreNumbered m es → AreNumbered n es
later m n le es all = record { own = all.own; given = given_later m n le es all.given }

no_entry : (next : ℕ) → AreNumbered next []
no_entry next = record { own = λ id. omega arith; given = tt }

kept : (next : ℕ) (p : Entry → Bool) (es : List Entry) → AreNumbered next es → AreNumbered next (filter p es)
kept next p es all = record { own = λ id. (let few = all.own id in omega (arith, few, fewer p (has_id id) es)); given = all_kept (λ e. WasGiven next e.id) p es all.given }

null_added : (next moment : ℕ) (content : Content) (es : List Entry) → AreNumbered next es → AreNumbered next (record { id = Null; moment = moment; content = content } ∷ without Null es)
null_added next moment content es all = record { own = own; given = (tt, all_kept (λ e. WasGiven next e.id) (λ e. not (has_id Null e)) es all.given) }
  where
    own : HaveOwnIds (record { id = Null; moment = moment; content = content } ∷ without Null es)
    own Null = omega (arith, none_left (has_id Null) es)
    own (Numbered n) = let few = all.own (Numbered n) in omega (arith, few, fewer (λ e. not (has_id Null e)) (has_id (Numbered n)) es)

number_added : (next moment : ℕ) (content : Content) (es : List Entry) → AreNumbered next es → AreNumbered (next + 1) (record { id = Numbered next; moment = moment; content = content } ∷ es)
number_added next moment content es all = record { own = own; given = (omega arith, given_later next (next + 1) (omega arith) es all.given) }
  where
    new : Entry
    new = record { id = Numbered next; moment = moment; content = content }

    numbers : (n : ℕ) → next == n ≡ true → next ≡ n
    numbers n is = grind (arith, nat_tests, is)

    own : HaveOwnIds (new ∷ es)
    own Null = all.own Null
    own (Numbered n) = elim (next == n) as (λ b. next == n ≡ b → length (cond b (new ∷ filter (has_id (Numbered n)) es) (filter (has_id (Numbered n)) es)) ≤ 1) [
      | true ↦ λ is. (let none : length (filter (has_id (Numbered n)) es) ≡ 0 = subst (λ k. length (filter (has_id (Numbered k)) es) ≡ 0) (numbers n is) (not_given next es all.given) in omega (arith, none))
      | false ↦ λ is. all.own (Numbered n)
    ] refl

added_numbered : (mode : BucketState) (c : Counts) (moment : ℕ) (content : Content) (es : List Entry) → AreNumbered c.version es → AreNumbered (numbered mode c).version (added mode c.version moment content es)
added_numbered Unversioned c moment content es all = null_added c.version moment content es all
added_numbered Enabled c moment content es all = number_added c.version moment content es all
added_numbered Suspended c moment content es all = null_added c.version moment content es all

-- a new entry's number was the next one
numbered_later : (mode : BucketState) (c : Counts) → c.version ≤ (numbered mode c).version
numbered_later Unversioned c = omega arith
numbered_later Enabled c = omega arith
numbered_later Suspended c = omega arith

deleted_numbered : (mode : BucketState) (wanted : Wanted) (c : Counts) (moment : ℕ) (es : List Entry) → AreNumbered c.version es
    → IfOk (after_delete mode wanted c) (λ d. (c.version ≤ d.version) × AreNumbered d.version (deleted mode wanted c.version moment es))
deleted_numbered Unversioned Current c moment es all = (omega arith, kept c.version (λ e. not (has_id Null e && is_version e)) es all)
deleted_numbered Enabled Current c moment es all =
    elim (can_number Enabled c) as (λ b. IfOk (cond b (Ok (numbered Enabled c)) (Err CounterExhausted)) (λ d. (c.version ≤ d.version) × AreNumbered d.version (deleted Enabled Current c.version moment es))) [
      | true ↦ (omega arith, added_numbered Enabled c moment Marker es all)
      | false ↦ tt
    ]
deleted_numbered Suspended Current c moment es all =
    elim (can_number Suspended c) as (λ b. IfOk (cond b (Ok (numbered Suspended c)) (Err CounterExhausted)) (λ d. (c.version ≤ d.version) × AreNumbered d.version (deleted Suspended Current c.version moment es))) [
      | true ↦ (omega arith, added_numbered Suspended c moment Marker es all)
      | false ↦ tt
    ]
deleted_numbered mode (Named id) c moment es all = (omega arith, kept c.version (λ e. not (has_id id e)) es all)
deleted_numbered mode Unknown c moment es all = (omega arith, all)

-- ---- each value of a map

module _ {K X : Type 0} {R : K → K → Ordering} (total : IsTotalOrder R) (P : X → Type 0) where
  abbrev EachValue : FinMap R X → Type 0
  EachValue m = (q : K) (x : X) → get m q ≡ Some x → P x

  each_empty : EachValue empty
  each_empty q x is = absurd (none-some x (sym (get-empty R q) ∙ is))

  each_inserted : (m : FinMap R X) (k : K) (v : X) → EachValue m → P v → EachValue (insert m k v)
  each_inserted m k v all here q x is = go (eq_by_cmp R q k) (sym (get-insert total m k v q) ∙ is)
    where
      go : (b : Bool) → cond b (Some v) (get m q) ≡ Some x → P x
      go true e = subst P (same_Some v x e) here
      go false e = all q x e

  each_removed : (m : FinMap R X) (k : K) → EachValue m → EachValue (remove m k)
  each_removed m k all q x is = go (eq_by_cmp R q k) (sym (get-remove total m k q) ∙ is)
    where
      go : (b : Bool) → cond b None (get m q) ≡ Some x → P x
      go true e = absurd (none-some x e)
      go false e = all q x e

-- ---- buckets

abbrev Each : ℕ → FinMap octets_cmp Bucket → Type 0
Each next = EachValue octets_total (BucketIsNumbered next)

bucket_later : (m n : ℕ) → m ≤ n → (b : Bucket) → BucketIsNumbered m b → BucketIsNumbered n b
bucket_later m n le b all = λ q es is. later m n le es (all q es is)

pub listed_numbered : (next : ℕ) (key : Octets) (b : Bucket) → BucketIsNumbered next b → AreNumbered next (listed key b)
listed_numbered next key b all = go (get b.objects key) refl
  where
    go : (o : Option (List Entry)) → get b.objects key ≡ o → AreNumbered next (unwrap_or o [])
    go None e = no_entry next
    go (Some es) e = all key es e

with_key : (m n : ℕ) → m ≤ n → (key : Octets) (es : List Entry) (b : Bucket) → BucketIsNumbered m b → AreNumbered n es → BucketIsNumbered n (with_entries key es b)
with_key m n le key [] b all here = each_removed octets_total (AreNumbered n) b.objects key (bucket_later m n le b all)
with_key m n le key (e ∷ es) b all here = each_inserted octets_total (AreNumbered n) b.objects key (e ∷ es) (bucket_later m n le b all) here

-- a tenant with another bucket of a name
with_one : (m n : ℕ) → m ≤ n → (buckets : FinMap octets_cmp Bucket) (name : Octets) (c : Bucket) → Each m buckets → BucketIsNumbered n c → Each n (insert buckets name c)
with_one m n le buckets name c all here = each_inserted octets_total (BucketIsNumbered n) buckets name c (λ q b is. bucket_later m n le b (all q b is)) here

-- a bucket with a new version, whose number was the next one
with_version : (moment : ℕ) (name key : Octets) (content : Content) (date : Option ℕ) (t : State) (b : Bucket) → IsNumbered (Some t) → BucketIsNumbered t.next_version b
    → Each (numbered b.mode (counts t)).version (insert t.buckets name (with_new_date key t.next_version date (with_content moment key t.next_version content b)))
with_version moment name key content date t b all here =
    let le = numbered_later b.mode (counts t) in
    with_one t.next_version (numbered b.mode (counts t)).version le t.buckets name (with_new_date key t.next_version date (with_content moment key t.next_version content b)) all
    (with_key t.next_version (numbered b.mode (counts t)).version le key (added b.mode t.next_version moment content (listed key b)) b here
    (added_numbered b.mode (counts t) moment content (listed key b) (listed_numbered t.next_version key b here)))

-- ---- changes

abbrev pub KeepsIds : Option State → Option State → Type 0
KeepsIds s t = IsNumbered s → IsNumbered t

-- what leaves entries and version numbers as they are
same_bucket : (name : Octets) (t : State) (c : Bucket) → BucketIsNumbered t.next_version c → IsNumbered (Some t) → Each t.next_version (insert t.buckets name c)
same_bucket name t c here all = with_one t.next_version t.next_version (omega arith) t.buckets name c all here

pub changes_keep_ids : (moment : ℕ) → Changes KeepsIds moment
changes_keep_ids moment = record {
  stays = λ s all. all;
  key_added = key_added;
  key_removed = key_removed;
  bucket_created = bucket_created;
  bucket_deleted = λ name s. of_bucket KeepsIds name s _ (λ t b there.
      tested (is_empty b.objects && is_empty b.uploads) tt BucketNotEmpty _ _ (λ _ all. each_removed octets_total (BucketIsNumbered t.next_version) t.buckets name all));
  versioning_put = λ name mode s. of_bucket KeepsIds name s _ (λ t b there.
      tested (keeps_versions b.locked mode) tt InvalidBucketState _ _ (λ _ all. same_bucket name t (record b { mode = mode }) (all name b there) all));
  lifecycle_put = λ name days s. of_bucket KeepsIds name s _ (λ t b there all. same_bucket name t (record b { days = Some days }) (all name b there) all);
  lifecycle_deleted = λ name s. of_bucket KeepsIds name s _ (λ t b there all. same_bucket name t (record b { days = None }) (all name b there) all);
  object_put = object_put;
  object_copied = object_copied;
  object_deleted = object_deleted;
  retention_put = λ name key wanted date s. of_plain_bucket KeepsIds name s _ (λ t b there.
      whatever (for_date (found_version key wanted b)) _ _ (λ v. whatever (plainly (may_retain (can_retain b.locked v.id) (date_of key v.id b) (Some date) moment)) _ _ (λ _ all.
      same_bucket name t (with_date key v.id (Some date) b) (all name b there) all)));
  upload_created = upload_created;
  part_uploaded = part_uploaded;
  upload_completed = upload_completed;
  upload_aborted = λ name key upload s. of_upload KeepsIds name key upload s _ (λ t b number u there here all. same_bucket name t (without_upload number b) (all name b there) all);
}
  where
    key_added : (tenant name secret : Octets) → Always KeepsIds (add_key tenant name secret)
    key_added tenant name secret None = tested (is_tenant_name tenant && is_key_name name && is_secret secret) tt InvalidName _ _ (λ _. tt)
    key_added tenant name secret (Some t) =
        tested (is_tenant_name tenant && is_key_name name && is_secret secret) tt InvalidName _ _ (λ _. tested (is_none (get t.keys name)) tt KeyExists _ _ (λ _ all. all))

    key_removed : (tenant name : Octets) → Always KeepsIds (remove_key tenant name)
    key_removed tenant name None = tested (is_tenant_name tenant && is_key_name name) tt InvalidName _ _ (λ _. tt)
    key_removed tenant name (Some t) =
        tested (is_tenant_name tenant && is_key_name name) tt InvalidName _ _ (λ _. tested (is_some (get t.keys name)) tt NoSuchKeyName _ _ (λ _ all. all))

    bucket_created : (name : Octets) (locked : Bool) → Always KeepsIds (create_bucket moment name locked)
    bucket_created name locked None = tt
    bucket_created name locked (Some t) =
        tested (is_none (get t.buckets name)) tt BucketAlreadyOwnedByYou _ _ (λ _ all. same_bucket name t (new_bucket moment locked) (each_empty octets_total (AreNumbered t.next_version)) all)

    object_put : (name key bytes : Octets) (given : Option Octets) (date : Option (Option ℕ)) → Always KeepsIds (put_object moment name key bytes given date)
    object_put name key bytes given date s = of_bucket KeepsIds name s _ (λ t b there.
        tested (is_checksum given bytes) tt BadDigest _ _ (λ _.
        whatever (first_date b.locked date moment) _ _ (λ until.
        tested (keeps_quota t (with_bucket name (with_object moment key t.next_version bytes b) t)) tt QuotaExceeded _ _ (λ _.
        tested (can_number b.mode (counts t)) (numbered b.mode (counts t)) CounterExhausted _ _ (λ _ all. with_version moment name key (Body bytes (checksum_text bytes)) until t b all (all name b there))))))

    object_copied : (name key source_name source_key : Octets) (wanted : Wanted) (date : Option (Option ℕ)) → Always KeepsIds (copy_object moment name key source_name source_key wanted date)
    object_copied name key source_name source_key wanted date s = of_bucket KeepsIds name s _ (λ t b there.
        whatever (source_version source_name source_key wanted s) _ _ (λ v.
        whatever (first_date b.locked date moment) _ _ (λ until.
        tested (keeps_quota t (with_bucket name (with_copy moment key t.next_version v b) t)) tt QuotaExceeded _ _ (λ _.
        tested (can_number b.mode (counts t)) (numbered b.mode (counts t)) CounterExhausted _ _ (λ _ all. with_version moment name key (Body v.bytes v.checksum) until t b all (all name b there))))))

    object_deleted : (name key : Octets) (wanted : Wanted) → Always KeepsIds (delete_object moment name key wanted)
    object_deleted name key wanted s = of_bucket KeepsIds name s _ (λ t b there.
        tested (may_go (named_date key wanted b) moment) tt AccessDenied _ _ (λ _.
        deleting t b there (after_delete b.mode wanted (counts t)) (λ h. deleted_numbered b.mode wanted (counts t) moment (listed key b) h)))
      where
        -- what was after the delete
        deleting : (t : State) (b : Bucket) → get t.buckets name ≡ Some b → (r : Result Counts Refusal)
            → (AreNumbered t.next_version (listed key b) → IfOk r (λ d. (t.next_version ≤ d.version) × AreNumbered d.version (deleted b.mode wanted t.next_version moment (listed key b))))
            → IfOk {T = Outcome} (r >>= (λ c. Ok (removed b.mode wanted t.next_version (listed key b), Some (with_bucket name (with_deleted moment key wanted t.next_version b) (with_counts c t))))) (λ o. KeepsIds (Some t) o.1)
        deleting t b there (Ok d) h = λ all.
            let here = all name b there in
            let left = h (listed_numbered t.next_version key b here) in
            with_one t.next_version d.version left.0 t.buckets name (with_deleted moment key wanted t.next_version b) all
            (with_key t.next_version d.version left.0 key (deleted b.mode wanted t.next_version moment (listed key b)) b here left.1)
        deleting t b there (Err e) h = tt

    upload_created : (name key : Octets) → Always KeepsIds (create_upload moment name key)
    upload_created name key s = of_bucket KeepsIds name s _ (λ t b there.
        tested (can_give t.next_upload) _ CounterExhausted _ _ (λ _ all. same_bucket name t (with_upload t.next_upload (new_upload key moment) b) (all name b there) all))

    part_uploaded : (number : ℕ) (name key bytes : Octets) (upload : Option UploadId) (given : Option Octets) → Always KeepsIds (upload_part moment name key upload number bytes given)
    part_uploaded number name key bytes upload given s =
        let p : Part = record { bytes = bytes; moment = moment } in
        of_upload KeepsIds name key upload s _ (λ t b place u there here.
        tested (is_checksum given bytes) tt BadDigest _ _ (λ _.
        tested (keeps_quota t (with_bucket name (with_stored (found t b place u) number p) t)) tt QuotaExceeded _ _ (λ _.
        tested (can_give t.next_entry) _ CounterExhausted _ _ (λ _ all. same_bucket name t (with_stored (found t b place u) number p) (all name b there) all))))

    upload_completed : (least : ℕ) (name key : Octets) (upload : Option UploadId) (names : List Naming) → Always KeepsIds (complete_upload moment least name key upload names)
    upload_completed least name key upload names s = of_upload KeepsIds name key upload s _ (λ t b number u there here.
        and_then (completed least u.parts names) _ (λ _. Unit {0}) _ (anyway (completed least u.parts names)) (λ content _.
        tested (can_number b.mode (counts t)) (numbered b.mode (counts t)) CounterExhausted _ _ (λ _ all. with_version moment name key content None t (without_upload number b) all (all name b there))))

pub settings_keep_ids : Settings KeepsIds
settings_keep_ids = record { tenant_added = tenant_added; quota_set = quota_set }
  where
    tenant_added : (name : Octets) (quota : ℕ) → Always KeepsIds (add_tenant name quota)
    tenant_added name quota s =
        tested (is_tenant_name name) tt InvalidName _ _ (λ _.
        tested (nat_le quota (2 ^ 60)) tt InvalidQuota _ _ (λ _.
        tested (is_none s) tt TenantExists _ _ (λ _ all. each_empty octets_total (BucketIsNumbered 1))))

    quota_set : (name : Octets) (quota : ℕ) → Always KeepsIds (set_quota name quota)
    quota_set name quota None = tested (is_tenant_name name) tt InvalidName _ _ (λ _. tested (nat_le quota (2 ^ 60)) tt InvalidQuota _ _ (λ _. tt))
    quota_set name quota (Some t) = tested (is_tenant_name name) tt InvalidName _ _ (λ _. tested (nat_le quota (2 ^ 60)) tt InvalidQuota _ _ (λ _ all. all))

-- a purge takes no entry
pub purge_keeps_ids : (now : ℕ) (s : Option State) → IsNumbered s → IsNumbered (purged_tenant s now)
purge_keeps_ids now None all = tt
purge_keeps_ids now (Some t) all = λ name b is. go name b (get t.buckets name) refl (sym (get-adjusted octets_total octets_same (λ c. Some (purged_bucket now c)) t.buckets name) ∙ is)
  where
    go : (name : Octets) (b : Bucket) (o : Option Bucket) → get t.buckets name ≡ o → option_and_then (λ c. Some (purged_bucket now c)) o ≡ Some b → BucketIsNumbered t.next_version b
    go name b None there is = absurd (none-some b is)
    go name b (Some c) there is = subst (BucketIsNumbered t.next_version) (same_Some (purged_bucket now c) b is) (all name c there)
