-- Rows of `versions` added or taken out: the entries of a key with one more in front, or without those of one id.
use Rattle.std.proofs.Common.{◌≡◌, ◌≢◌, ℕ, zero, suc, ◌<◌, ◌≤◌, length, is_some, Bool, true, false, true≢false, not, ◌&&◌, List, [], ◌∷◌, ◌++◌, cond, Some, None, filter, refl, sym, ap, ◌∙◌, subst, arith}
use Rattle.std.specs.Bool.{one_answer}
use Rattle.std.specs.Cmp.{unsigned_Decides}
use Rattle.std.specs.List.{AllByRecursion, list_any}
use Rattle.std.specs.FinMap.{get, insert}
use Rattle.std.proofs.lemmas.Bool.{and_parts}
use Rattle.sqlite_keyed.specs.Lists.{delete_where}
use Rattle.sqlite_keyed.proofs.ListLemmas.{all_weaker, all_both, all-filter, filter_none, none_from_any, any_from_none}
use Rattle.sqlite_typed.specs.Tests.{bytes_eq}
use Rattle.bh_model.specs.State.{Octets, Bucket, State}
use Rattle.bh_model.specs.Entries.{same_id, has_id, without}
use Rattle.bh_model.specs.Operations.{with_bucket, with_entries, listed}
use Rattle.bh_tables.specs.Typed.{TenantRow, BucketRow, VersionRow, UploadRow, PartRow, LockRow, RetainRow, Tables}
use Rattle.bh_tables.specs.Shown.{is_version, same_name}
use Rattle.bh_view.specs.Grouped.{first, same_number, matching, HasUnique}
use Rattle.bh_view.specs.View.{at_key, named, rows_of, id_of, entry_of, buckets_of, version_name, date_in, view, latest_of, in_bucket}
use Rattle.bh_view.specs.Sound.{IsVersionRow, IsBelow, AreVersions, AreParts, MayBeDated, AreRetains, IsSound}
use Rattle.bh_view.specs.Becomes.{Becomes}
use Rattle.bh_view.proofs.DatedLemmas.{rows_undated, refers_undated}
use Rattle.bh_view.proofs.Keys.{octets, numbers}
use Rattle.bh_view.proofs.FilterLemmas.{none_some, push_here, push_other, filter_swap, filter_both}
use Rattle.bh_view.proofs.GroupedLemmas.{is_other}
use Rattle.bh_view.proofs.FactLemmas.{all_pushed, unique_pushed, unique_deleted, refers_pushed, refers_deleted, refers_grown}
use Rattle.bh_view.proofs.ObjectLemmas.{latest_of_seq}
use Rattle.bh_view.proofs.OwnLemmas.{rows_at, others_pushed, others_deleted, mine_pushed, mine_deleted, within_own}
use Rattle.bh_view.proofs.ViewLemmas.{view_is, own_row, own_rows, becomes, buckets_shown}
use Rattle.bh_view.proofs.BucketLemmas.{bucket_row, version_pushed, versions_deleted}

abbrev own : VersionRow → Octets
own v = v.tenant

abbrev pub at_id : ℕ → List VersionRow → List VersionRow
at_id = matching same_number (λ v. v.id)

-- the test of an id in a row is that of the entry's id
pub same_ids : (m n : ℕ) → same_number m n ≡ same_id (id_of m) (id_of n)
same_ids zero zero = refl
same_ids zero (suc n) = is_other numbers zero (suc n) (λ e. absurd (omega (arith, e)))
same_ids (suc m) zero = is_other numbers (suc m) zero (λ e. absurd (omega (arith, e)))
same_ids (suc m) (suc n) = one_answer _ _ (numbers.decides (suc m) (suc n)) (unsigned_Decides (suc m) (suc n))

-- the rows of one id, by one test or by four
pub one_version : (t b k : Octets) (n : ℕ) (versions : List VersionRow) → at_id n (at_key k (in_bucket b (rows_at own t versions))) ≡ filter (is_version t b k n) versions
one_version t b k n versions =
    filter_both (λ v. bytes_eq v.okey k) (λ v. same_number v.id n) (in_bucket b (rows_at own t versions))
    ∙ filter_both (λ v. bytes_eq v.bucket b) (λ v. bytes_eq v.okey k && same_number v.id n) (rows_at own t versions)
    ∙ filter_both (λ v. bytes_eq v.tenant t) (λ v. bytes_eq v.bucket b && (bytes_eq v.okey k && same_number v.id n)) versions

-- a version of the id `null` has no date
pub null_undated : (b k : Octets) (retains : List RetainRow) (locks : List LockRow) (versions : List VersionRow) → AllByRecursion (λ v. is_some (date_in retains v) ≡ true → MayBeDated locks v) versions
    → AllByRecursion (λ (v : VersionRow). (bytes_eq v.bucket b && (bytes_eq v.okey k && same_number v.id 0)) ≡ true → date_in retains v ≡ None) versions
null_undated b k retains locks versions = all_weaker _ _ one versions
  where
    one : (v : VersionRow) → (is_some (date_in retains v) ≡ true → MayBeDated locks v) → (bytes_eq v.bucket b && (bytes_eq v.okey k && same_number v.id 0)) ≡ true → date_in retains v ≡ None
    one v may passes = elim (date_in retains v) as (λ o. date_in retains v ≡ o → o ≡ None) [
      | None ↦ λ e. refl
      | Some d ↦ λ e.
          let dated = may (ap is_some e) in
          let zeroth : v.id ≡ 0 = (numbers.decides v.id 0).0 (and_parts _ _ (and_parts _ _ passes).1).1 in
          absurd (omega (arith, dated.numbered, zeroth))
    ] refl

-- ---- sound rows stay sound

module _ (latest : ℕ) (tenants : List TenantRow) (buckets : List BucketRow) (versions : List VersionRow) (all : AreVersions latest tenants buckets versions) where
  versions_left : (test : VersionRow → Bool) → AreVersions latest tenants buckets (delete_where test versions)
  versions_left test = record {
    each = all-filter _ _ versions all.each;
    one_seq = unique_deleted numbers (λ (v : VersionRow). v.seq) versions test all.one_seq;
    one_id = λ b k. subst (HasUnique same_number (λ (v : VersionRow). v.id)) (sym (ap (at_key k) (filter_swap (λ v. bytes_eq v.bucket b) (λ v. not (test v)) versions) ∙ filter_swap (λ v. bytes_eq v.okey k) (λ v. not (test v)) (in_bucket b versions)))
        (unique_deleted numbers (λ (v : VersionRow). v.id) (at_key k (in_bucket b versions)) test (all.one_id b k));
    owned = refers_deleted octets (λ (r : BucketRow). r.bucket) (λ (v : VersionRow). v.bucket) buckets versions test all.owned;
    given = all_weaker _ _ (λ r below. all-filter (λ v. IsBelow v r) _ versions below) tenants all.given;
  }

  -- in another key, or in this one with an id that no row of it has
  one_id_more : (v : VersionRow) → at_id v.id (at_key v.okey (in_bucket v.bucket versions)) ≡ [] → (b k : Octets) → HasUnique same_number (λ (v : VersionRow). v.id) (at_key k (in_bucket b (versions ++ v ∷ [])))
  one_id_more v fresh b k = elim (bytes_eq v.bucket b) as (λ h. bytes_eq v.bucket b ≡ h → HasUnique same_number (λ (v : VersionRow). v.id) (at_key k (in_bucket b (versions ++ v ∷ [])))) [
    | true ↦ λ here. subst (λ l. HasUnique same_number (λ (v : VersionRow). v.id) (at_key k l)) (sym (push_here (λ x. bytes_eq x.bucket b) versions v here)) (elim (bytes_eq v.okey k) as (λ h. bytes_eq v.okey k ≡ h → HasUnique same_number (λ (v : VersionRow). v.id) (at_key k (in_bucket b versions ++ v ∷ []))) [
      | true ↦ λ same. subst (HasUnique same_number (λ (v : VersionRow). v.id)) (sym (push_here (λ x. bytes_eq x.okey k) (in_bucket b versions) v same))
          (unique_pushed numbers (λ (v : VersionRow). v.id) (at_key k (in_bucket b versions)) v (all.one_id b k)
          (subst (λ z. at_id v.id (at_key k (in_bucket z versions)) ≡ []) ((octets.decides v.bucket b).0 here) (subst (λ z. at_id v.id (at_key z (in_bucket v.bucket versions)) ≡ []) ((octets.decides v.okey k).0 same) fresh)))
      | false ↦ λ apart. subst (HasUnique same_number (λ (v : VersionRow). v.id)) (sym (push_other (λ x. bytes_eq x.okey k) (in_bucket b versions) v apart)) (all.one_id b k)
    ] refl)
    | false ↦ λ apart. subst (λ l. HasUnique same_number (λ (v : VersionRow). v.id) (at_key k l)) (sym (push_other (λ x. bytes_eq x.bucket b) versions v apart)) (all.one_id b k)
  ] refl

  versions_more : (v : VersionRow) → IsVersionRow latest v → AllByRecursion (λ x. x.seq < v.seq) versions → at_id v.id (at_key v.okey (in_bucket v.bucket versions)) ≡ []
      → (first (named v.bucket buckets) ≡ None → ⊥) → AllByRecursion (IsBelow v) tenants → AreVersions latest tenants buckets (versions ++ v ∷ [])
  versions_more v good older fresh has below = record {
    each = all_pushed _ versions v all.each good;
    one_seq = unique_pushed numbers (λ (v : VersionRow). v.seq) versions v all.one_seq (filter_none _ versions (all_weaker _ (λ x. same_number x.seq v.seq ≡ false) (λ x less. is_other numbers x.seq v.seq (λ e. absurd (omega (arith, less, e)))) versions older));
    one_id = one_id_more v fresh;
    owned = refers_pushed octets (λ (r : BucketRow). r.bucket) (λ (v : VersionRow). v.bucket) buckets versions v all.owned has;
    given = all_both _ (IsBelow v) _ (λ r before it. all_pushed (λ x. IsBelow x r) versions v before it) tenants all.given below;
  }

-- ---- parts, whose bodies are no version's

module _ (latest : ℕ) (tenants : List TenantRow) (versions : List VersionRow) (uploads : List UploadRow) (parts : List PartRow) (all : AreParts latest tenants versions uploads parts) where
  parts_with : (now : List VersionRow) → AllByRecursion (λ (p : PartRow). list_any (λ (v : VersionRow). same_number v.seq p.body) now ≡ false) parts → AreParts latest tenants now uploads parts
  parts_with now apart = record { each = all.each; one = all.one; one_body = all.one_body; apart = apart; owned = all.owned; given = all.given }

  apart_left : (test : VersionRow → Bool) → AreParts latest tenants (delete_where test versions) uploads parts
  apart_left test = parts_with (delete_where test versions) (all_weaker _ _ (λ (p : PartRow) none. any_from_none _ _ (all-filter _ _ versions (none_from_any _ versions none))) parts all.apart)

  apart_more : (v : VersionRow) → AllByRecursion (λ (p : PartRow). p.body < v.seq) parts → AreParts latest tenants (versions ++ v ∷ []) uploads parts
  apart_more v older = parts_with (versions ++ v ∷ []) (all_both (λ (p : PartRow). list_any (λ (x : VersionRow). same_number x.seq p.body) versions ≡ false) (λ p. p.body < v.seq) _
      (λ p none less. any_from_none _ _ (all_pushed _ versions v (none_from_any _ versions none) (is_other numbers v.seq p.body (λ e. absurd (omega (arith, less, e)))))) parts all.apart older)

-- ---- dates, whose versions are there

-- two versions of a bucket have not one key and one number
pub one_name : (latest : ℕ) (tenants : List TenantRow) (buckets : List BucketRow) (versions : List VersionRow) → AreVersions latest tenants buckets versions → (b : Octets) → HasUnique same_name version_name (in_bucket b versions)
one_name latest tenants buckets versions all b q = subst (λ l. length l ≤ 1) (filter_both (λ v. bytes_eq v.okey q.0) (λ v. same_number v.id q.1) (in_bucket b versions)) (all.one_id b q.0 q.1)

module _ (versions : List VersionRow) (locks : List LockRow) (retains : List RetainRow) (all : AreRetains versions locks retains) where
  retains_left : (test : VersionRow → Bool) → HasUnique same_number (λ (v : VersionRow). v.seq) versions → AllByRecursion (λ v. test v ≡ true → date_in retains v ≡ None) versions → AreRetains (delete_where test versions) locks retains
  retains_left test one undated = record {
    each = all.each;
    one = all.one;
    owned = refers_undated retains versions test one undated all.owned;
    kept = all-filter _ _ versions all.kept;
  }

  -- no date names a version whose number is new
  new_undated : (v : VersionRow) → AllByRecursion (λ x. x.seq < v.seq) versions → date_in retains v ≡ None
  new_undated v older = rows_undated retains v (all.owned v.seq
      (ap first (filter_none _ versions (all_weaker _ (λ x. same_number x.seq v.seq ≡ false) (λ x less. is_other numbers x.seq v.seq (λ e. absurd (omega (arith, less, e)))) versions older))))

  retains_more : (v : VersionRow) → AllByRecursion (λ x. x.seq < v.seq) versions → AreRetains (versions ++ v ∷ []) locks retains
  retains_more v older = record {
    each = all.each;
    one = all.one;
    owned = refers_grown numbers (λ (x : VersionRow). x.seq) (λ (r : RetainRow). r.seq) versions retains v all.owned;
    kept = all_pushed _ versions v all.kept (λ dated. absurd (true≢false (sym dated ∙ ap is_some (new_undated v older))));
  }

-- ---- the statements

module _ (old new : Tables) (t : Octets) (s : State) (sound : IsSound old) (is : view old t ≡ Some s) where
  -- the versions of one tenant's bucket change
  versions_become : (b : Octets) (B : Bucket) (versions mine : List VersionRow) → ((u : Octets) → u ≢ t → rows_at own u versions ≡ rows_at own u old.versions) → rows_at own t versions ≡ mine
      → buckets_of (record (rows_of t old) { versions = mine }) ≡ insert (buckets_of (rows_of t old)) b B → AreVersions (latest_of old) (rows_of t old).tenants (rows_of t old).buckets mine
      → AreParts (latest_of old) (rows_of t old).tenants mine (rows_of t old).uploads (rows_of t old).parts → AreRetains mine (rows_of t old).locks (rows_of t old).retains
      → new ≡ record old { versions = versions } → Becomes t (Some (with_bucket b B s)) old new
  versions_become b B versions mine others here shows good apart dated e =
      let all = sound.tenants t in
      let after : Tables = record old { versions = versions } in
      subst (Becomes t (Some (with_bucket b B s)) old) (sym e)
      (becomes t _ old after sound refl refl refl (λ u apart i. record (rows_of u old) { versions = others u apart i })
      (buckets_shown (rows_of t old) s (sym (view_is old t) ∙ is) (rows_of t after) (λ m. insert m b B) refl refl (ap (λ l. buckets_of (record (rows_of t old) { versions = l })) here ∙ shows))
      (record {
        tenants = all.tenants;
        keys = all.keys;
        buckets = all.buckets;
        versions = subst (AreVersions (latest_of old) (rows_of t old).tenants (rows_of t old).buckets) (sym here) good;
        uploads = all.uploads;
        parts = subst (λ l. AreParts (latest_of old) (rows_of t old).tenants l (rows_of t old).uploads (rows_of t old).parts) (sym here) apart;
        locks = all.locks;
        retains = subst (λ l. AreRetains l (rows_of t old).locks (rows_of t old).retains) (sym here) dated;
      }))

  -- the rows of one id of a key taken out, which have no date
  pub version_removed : (b k : Octets) (n : ℕ) (B : Bucket) → get s.buckets b ≡ Some B
      → AllByRecursion (λ (v : VersionRow). (bytes_eq v.bucket b && (bytes_eq v.okey k && same_number v.id n)) ≡ true → date_in (rows_of t old).retains v ≡ None) (rows_of t old).versions
      → new ≡ record old { versions = delete_where (is_version t b k n) old.versions }
      → Becomes t (Some (with_bucket b (with_entries k (without (id_of n) (listed k B)) B) s)) old new
  version_removed b k n B at undated =
      let mine = rows_of t old in
      let test = λ (v : VersionRow). bytes_eq v.bucket b && (bytes_eq v.okey k && same_number v.id n) in
      versions_become b _ _ (delete_where test mine.versions)
      (others_deleted own t (is_version t b k n) (λ v h. within_own own t v (and_parts _ _ h).0) old.versions)
      (mine_deleted own t test old.versions)
      (ap (λ l. buckets_of (record mine { versions = l })) (λ i. delete_where (λ v. bytes_eq v.bucket b && (bytes_eq v.okey k && same_ids v.id n i)) mine.versions)
      ∙ versions_deleted mine b k (has_id (id_of n)) B (ap (λ (x : State). get x.buckets b) (own_row old t s is).2 ∙ at)
      (one_name (latest_of old) mine.tenants mine.buckets mine.versions (sound.tenants t).versions b) (here_undated mine.versions undated))
      (versions_left (latest_of old) mine.tenants mine.buckets mine.versions (sound.tenants t).versions test)
      (apart_left (latest_of old) mine.tenants mine.versions mine.uploads mine.parts (sound.tenants t).parts test)
      (retains_left mine.versions mine.locks mine.retains (sound.tenants t).retains test (sound.tenants t).versions.one_seq undated)
    where
      here_undated : (versions : List VersionRow) → AllByRecursion (λ (v : VersionRow). (bytes_eq v.bucket b && (bytes_eq v.okey k && same_number v.id n)) ≡ true → date_in (rows_of t old).retains v ≡ None) versions
          → AllByRecursion (λ v. (bytes_eq v.okey k && has_id (id_of n) (entry_of v)) ≡ true → date_in (rows_of t old).retains v ≡ None) (in_bucket b versions)
      here_undated [] all = tt
      here_undated (v ∷ versions) all = elim (bytes_eq v.bucket b) as (λ c. ((c && (bytes_eq v.okey k && same_number v.id n)) ≡ true → date_in (rows_of t old).retains v ≡ None)
          → AllByRecursion (λ v. (bytes_eq v.okey k && has_id (id_of n) (entry_of v)) ≡ true → date_in (rows_of t old).retains v ≡ None) (cond c (v ∷ in_bucket b versions) (in_bucket b versions))) [
            | true ↦ λ its. (λ passes. its (ap (λ c. bytes_eq v.okey k && c) (same_ids v.id n) ∙ passes), here_undated versions all.1)
            | false ↦ λ its. here_undated versions all.1
          ] all.0

pub version_added : (old new : Tables) (s : State) (v : VersionRow) (B : Bucket) → IsSound old → view old v.tenant ≡ Some s → get s.buckets v.bucket ≡ Some B
    → IsVersionRow (latest_of old) v → v.seq < s.next_entry → v.id < s.next_version → AllByRecursion (λ x. x.seq < v.seq) (rows_of v.tenant old).versions → AllByRecursion (λ (p : PartRow). p.body < v.seq) (rows_of v.tenant old).parts
    → filter (is_version v.tenant v.bucket v.okey v.id) old.versions ≡ []
    → new ≡ record old { versions = old.versions ++ v ∷ [] } → Becomes v.tenant (Some (with_bucket v.bucket (with_entries v.okey (entry_of v ∷ listed v.okey B) B) s)) old new
version_added old new s v B sound is at good entry version older parts_older fresh =
    let t = v.tenant in
    let mine = rows_of t old in
    let row = own_row old t s is in
    let here = ap (λ (x : State). get x.buckets v.bucket) row.2 ∙ at in
    let bucket = bucket_row mine v.bucket B here in
    versions_become old new t s sound is v.bucket _ _ (mine.versions ++ v ∷ [])
    (others_pushed own old.versions v) (mine_pushed own old.versions v)
    (version_pushed mine v B here (all_weaker _ _ (λ x less. latest_of_seq v x less) mine.versions older)
    (sym (filter_both (λ x. bytes_eq x.okey v.okey) (λ x. same_number x.id v.id) (in_bucket v.bucket mine.versions)) ∙ one_version t v.bucket v.okey v.id old.versions ∙ fresh)
    (new_undated mine.versions mine.locks mine.retains (sound.tenants t).retains v older))
    (versions_more (latest_of old) mine.tenants mine.buckets mine.versions (sound.tenants t).versions v good older (one_version t v.bucket v.okey v.id old.versions ∙ fresh) (λ none. none_some (sym none ∙ bucket.1))
    (subst (AllByRecursion (IsBelow v)) (sym (own_rows old t s sound is)) (record { seq = subst (λ (x : State). v.seq < x.next_entry) (sym row.2) entry; id = subst (λ (x : State). v.id < x.next_version) (sym row.2) version }, tt)))
    (apart_more (latest_of old) mine.tenants mine.versions mine.uploads mine.parts (sound.tenants t).parts v parts_older)
    (retains_more mine.versions mine.locks mine.retains (sound.tenants t).retains v older)
