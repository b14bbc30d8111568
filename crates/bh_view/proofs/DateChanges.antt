-- A row of `retains` added, changed or taken out: a version's date is another, or gone.
use Rattle.std.proofs.Common.{◌≡◌, ◌≢◌, ℕ, zero, suc, ◌≤◌, true, false, true≢false, cond, List, [], ◌∷◌, ◌++◌, find, is_some, Option, Some, None, option_map, option_and_then, refl, sym, ap, ◌∙◌, subst, arith}
use Rattle.std.specs.FinMap.{get, insert}
use Rattle.std.specs.List.{AllByRecursion}
use Rattle.std.proofs.lemmas.Bool.{and_parts}
use Rattle.sqlite_keyed.specs.Lists.{update_where, delete_where}
use Rattle.sqlite_keyed.proofs.ListLemmas.{all_weaker, all-filter}
use Rattle.sqlite_typed.specs.Tests.{bytes_eq}
use Rattle.bh_model.specs.FinMaps.{set_at}
use Rattle.bh_model.specs.State.{Octets, Dates, Bucket, State}
use Rattle.bh_model.specs.Operations.{with_bucket}
use Rattle.bh_model.specs.Retention.{date_in as date_told, dated, undated}
use Rattle.bh_tables.specs.Shown.{Name, same_name, is_entry, is_retain}
use Rattle.bh_tables.specs.Typed.{BucketRow, VersionRow, RetainRow, Tables}
use Rattle.bh_view.specs.Becomes.{Becomes}
use Rattle.bh_view.specs.Grouped.{first, matching, same_number, HasUnique, Refers}
use Rattle.bh_view.specs.Sound.{MayBeDated, AreSound, IsSound}
use Rattle.bh_view.specs.View.{TenantRows, rows_of, named, in_bucket, id_of, version_name, date_in, dates_of, bucket_shown, buckets_of, view, latest_of}
use Rattle.bh_view.proofs.BucketLemmas.{bucket_row}
use Rattle.bh_view.proofs.DatedLemmas.{seqs, dated_seq, undated_rows}
use Rattle.bh_view.proofs.FactLemmas.{all_first, all_pushed, all_updated, each_first, refers_deleted, refers_pushed, unique_deleted, unique_pushed, unique_updated}
use Rattle.bh_view.proofs.FilterLemmas.{delete_all, delete_other, first_updated, none_some, push_here, push_other, same_Some, update_here, update_other, filter_both}
use Rattle.bh_view.proofs.FindLemmas.{first_find}
use Rattle.bh_view.proofs.GroupedLemmas.{get-grouped, grouped_changed, grouped_same, is_itself, is_other, set_at_same}
use Rattle.bh_view.proofs.Keys.{octets, numbers, version_names}
use Rattle.bh_view.proofs.OwnLemmas.{mine_deleted, mine_pushed, mine_updated, others_deleted, others_pushed, others_updated, rows_at, within_own}
use Rattle.bh_view.proofs.VersionChanges.{one_name}
use Rattle.bh_view.proofs.ViewLemmas.{becomes, buckets_shown, own_row, view_is}

abbrev own : RetainRow → Octets
own r = r.tenant

-- ---- the date of one version changes

-- rows that are the same have the same dates
first_alike : (was now : List RetainRow) (rows : List VersionRow) → AllByRecursion (λ v. date_in now v ≡ date_in was v) rows → option_and_then (date_in now) (first rows) ≡ option_and_then (date_in was) (first rows)
first_alike was now [] all = refl
first_alike was now (v ∷ rows) all = all.0

module _ (was now : List RetainRow) where
  -- the dates of versions that keep theirs
  dates_alike : (versions : List VersionRow) → AllByRecursion (λ v. date_in now v ≡ date_in was v) versions → dates_of now versions ≡ dates_of was versions
  dates_alike versions all =
      grouped_same version_names version_name version_name (λ _ rows. option_and_then (date_in was) (first rows)) (λ _ rows. option_and_then (date_in now) (first rows)) (λ _. refl) (λ _. refl) versions versions
      (λ q. first_alike was now (matching same_name version_name q versions) (all-filter _ _ versions all))

  -- of versions of which one does not
  dates_changed : (versions : List VersionRow) (v : VersionRow) → first (matching same_name version_name (version_name v) versions) ≡ Some v → AllByRecursion (λ x. version_name v ≢ version_name x → date_in now x ≡ date_in was x) versions
      → dates_of now versions ≡ set_at (dates_of was versions) (version_name v) (date_in now v)
  dates_changed versions v there all =
      grouped_changed version_names version_name version_name (λ _ rows. option_and_then (date_in was) (first rows)) (λ _ rows. option_and_then (date_in now) (first rows)) (λ _. refl) (λ _. refl) versions versions (version_name v)
      (λ q apart. first_alike was now (matching same_name version_name q versions) (others q apart versions all))
      ∙ ap (λ o. set_at (dates_of was versions) (version_name v) (option_and_then (date_in now) o)) there
    where
      others : (q : Name) → version_name v ≢ q → (rows : List VersionRow) → AllByRecursion (λ x. version_name v ≢ version_name x → date_in now x ≡ date_in was x) rows
          → AllByRecursion (λ x. date_in now x ≡ date_in was x) (matching same_name version_name q rows)
      others q apart [] all = tt
      others q apart (x ∷ rows) all = elim (same_name (version_name x) q) as (λ b. same_name (version_name x) q ≡ b → AllByRecursion (λ x. date_in now x ≡ date_in was x) (cond b (x ∷ matching same_name version_name q rows) (matching same_name version_name q rows))) [
        | true ↦ λ e. (all.0 (λ same. apart (same ∙ (version_names.decides (version_name x) q).0 e)), others q apart rows all.1)
        | false ↦ λ e. others q apart rows all.1
      ] refl

-- ---- one version among a tenant's

-- what is known of a version of a tenant that is found by its entry number
module _ (tables : Tables) (t : Octets) (sound : IsSound tables) (v : VersionRow) (there : find (is_entry t v.seq) tables.versions ≡ Some v) where
  abbrev mine : TenantRows
  mine = rows_of t tables

  -- among the tenant's
  pub first_of_seq : first (matching same_number seqs v.seq mine.versions) ≡ Some v
  first_of_seq = ap first (filter_both (λ (x : VersionRow). bytes_eq x.tenant t) (λ x. same_number x.seq v.seq) tables.versions) ∙ first_find (is_entry t v.seq) tables.versions ∙ there

  -- alone with its number
  pub only_of_seq : AllByRecursion (λ (x : VersionRow). x.seq ≡ v.seq → x ≡ v) mine.versions
  only_of_seq = all_weaker _ _ (λ x its same. same_Some (sym its ∙ ap (λ n. first (matching same_number seqs n mine.versions)) same ∙ first_of_seq)) mine.versions (each_first numbers seqs mine.versions (sound.tenants t).versions.one_seq)

  -- it has what all have
  pub has_of_all : (P : VersionRow → Type 0) → AllByRecursion P mine.versions → P v
  has_of_all P all = all_first P (matching same_number seqs v.seq mine.versions) v first_of_seq (all-filter P _ mine.versions all)

  -- its key and number are no other's in its bucket
  pub first_of_name : first (matching same_name version_name (version_name v) (in_bucket v.bucket mine.versions)) ≡ Some v
  first_of_name = has_of_all (λ x. x.bucket ≡ v.bucket → first (matching same_name version_name (version_name x) (in_bucket v.bucket mine.versions)) ≡ Some x) (spread _ mine.versions (each_first version_names version_name (in_bucket v.bucket mine.versions) (one_name (latest_of tables) mine.tenants mine.buckets mine.versions (sound.tenants t).versions v.bucket))) refl
    where
      spread : (P : VersionRow → Type 0) (rows : List VersionRow) → AllByRecursion P (in_bucket v.bucket rows) → AllByRecursion (λ x. x.bucket ≡ v.bucket → P x) rows
      spread P [] all = tt
      spread P (x ∷ rows) all = (elim (bytes_eq x.bucket v.bucket) as (λ b. bytes_eq x.bucket v.bucket ≡ b → AllByRecursion P (cond b (x ∷ in_bucket v.bucket rows) (in_bucket v.bucket rows)) → AllByRecursion (λ x. x.bucket ≡ v.bucket → P x) (x ∷ rows)) [
        | true ↦ λ e all. (λ same. all.0, spread P rows all.1)
        | false ↦ λ e all. (λ same. absurd (true≢false (sym ((octets.decides x.bucket v.bucket).1 same) ∙ e)), spread P rows all)
      ] refl all)

  -- its date, by one query of the dates alone
  pub date_found : date_in mine.retains v ≡ option_map (λ (r : RetainRow). r.until) (find (is_retain t v.seq) tables.retains)
  date_found = ap (option_map (λ (r : RetainRow). r.until)) (ap first (filter_both (λ (r : RetainRow). bytes_eq r.tenant t) (λ r. same_number r.seq v.seq) tables.retains) ∙ first_find (is_retain t v.seq) tables.retains)

  module _ (s : State) (is : view tables t ≡ Some s) (B : Bucket) (at : get s.buckets v.bucket ≡ Some B) where
    pub bucket_before : get (buckets_of mine) v.bucket ≡ Some B
    bucket_before = ap (λ (x : State). get x.buckets v.bucket) (own_row tables t s is).2 ∙ at

    pub date_at : get B.dates (version_name v) ≡ date_in mine.retains v
    date_at = ap (λ (x : Bucket). get x.dates (version_name v)) (sym (bucket_row mine v.bucket B bucket_before).2)
        ∙ get-grouped version_names version_name (λ _ rows. option_and_then (date_in mine.retains) (first rows)) (λ _. refl) (in_bucket v.bucket mine.versions) (version_name v) ∙ ap (option_and_then (date_in mine.retains)) first_of_name

    -- the version `null` has none
    pub null_none : v.id ≡ 0 → date_in mine.retains v ≡ None
    null_none zeroth = elim (date_in mine.retains v) as (λ o. date_in mine.retains v ≡ o → o ≡ None) [
      | None ↦ λ h. refl
      | Some d ↦ λ h. let may : MayBeDated mine.locks v = has_of_all (λ x. is_some (date_in mine.retains x) ≡ true → MayBeDated mine.locks x) (sound.tenants t).retains.kept (ap is_some h) in absurd (omega (arith, may.numbered, zeroth))
    ] refl

    -- the date that the state has of it
    pub date_shown : date_told v.okey (id_of v.id) B.dates ≡ date_in mine.retains v
    date_shown = go v.id refl
      where
        go : (n : ℕ) → v.id ≡ n → date_told v.okey (id_of n) B.dates ≡ date_in mine.retains v
        go zero e = sym (null_none e)
        go (suc n) e = ap (λ m. get B.dates (v.okey, m)) (sym e) ∙ date_at

-- ---- the statements

module _ (old new : Tables) (t : Octets) (s : State) (sound : IsSound old) (is : view old t ≡ Some s) (v : VersionRow) (there : find (is_entry t v.seq) old.versions ≡ Some v) (B : Bucket) (at : get s.buckets v.bucket ≡ Some B) where
  abbrev rows : TenantRows
  rows = rows_of t old

  abbrev its_dates : Option ℕ → Dates
  its_dates o = set_at B.dates (version_name v) o

  -- the dates of one version change
  dates_become : (now : List RetainRow) → ((n : ℕ) → v.seq ≢ n → matching same_number dated_seq n now ≡ matching same_number dated_seq n rows.retains)
      → buckets_of (record rows { retains = now }) ≡ insert (buckets_of rows) v.bucket (record B { dates = its_dates (date_in now v) })
  dates_become now alike =
      let after : TenantRows = record rows { retains = now } in
      let row = bucket_row rows v.bucket B (bucket_before old t sound v there s is B at) in
      grouped_changed octets (λ (r : BucketRow). r.bucket) (λ (r : BucketRow). r.bucket) (λ q rs. option_map (bucket_shown rows q) (first rs)) (λ q rs. option_map (bucket_shown after q) (first rs)) (λ _. refl) (λ _. refl) rows.buckets rows.buckets v.bucket
      (λ q apart i. option_map (λ r. record (bucket_shown rows q r) { dates = dates_alike rows.retains now (in_bucket q rows.versions) (elsewhere q apart rows.versions (only_of_seq old t sound v there)) i }) (first (named q rows.buckets)))
      ∙ ap (λ o. set_at (buckets_of rows) v.bucket (option_map (bucket_shown after v.bucket) o)) row.1
      ∙ (λ i. insert (buckets_of rows) v.bucket (record (bucket_shown rows v.bucket row.0) { dates = dates_changed rows.retains now (in_bucket v.bucket rows.versions) v (first_of_name old t sound v there) (apart_from rows.versions (only_of_seq old t sound v there)) i }))
      ∙ ap (λ (x : Bucket). insert (buckets_of rows) v.bucket (record x { dates = set_at x.dates (version_name v) (date_in now v) })) row.2
    where
      other : (x : VersionRow) → v.seq ≢ x.seq → date_in now x ≡ date_in rows.retains x
      other x apart = ap (λ l. option_map (λ (r : RetainRow). r.until) (first l)) (alike x.seq apart)

      elsewhere : (q : Octets) → v.bucket ≢ q → (versions : List VersionRow) → AllByRecursion (λ (x : VersionRow). x.seq ≡ v.seq → x ≡ v) versions → AllByRecursion (λ x. date_in now x ≡ date_in rows.retains x) (in_bucket q versions)
      elsewhere q apart [] only = tt
      elsewhere q apart (x ∷ versions) only = elim (bytes_eq x.bucket q) as (λ b. bytes_eq x.bucket q ≡ b → AllByRecursion (λ x. date_in now x ≡ date_in rows.retains x) (cond b (x ∷ in_bucket q versions) (in_bucket q versions))) [
        | true ↦ λ e. (other x (λ same. apart (sym (ap (λ (y : VersionRow). y.bucket) (only.0 (sym same))) ∙ (octets.decides x.bucket q).0 e)), elsewhere q apart versions only.1)
        | false ↦ λ e. elsewhere q apart versions only.1
      ] refl

      apart_from : (versions : List VersionRow) → AllByRecursion (λ (x : VersionRow). x.seq ≡ v.seq → x ≡ v) versions → AllByRecursion (λ x. version_name v ≢ version_name x → date_in now x ≡ date_in rows.retains x) (in_bucket v.bucket versions)
      apart_from versions only = all-filter _ _ versions (all_weaker _ _ (λ x its apart. other x (λ same. apart (ap version_name (sym (its (sym same)))))) versions only)

  -- and the versions that may have them stay
  dates_kept : (now : List RetainRow) → ((n : ℕ) → v.seq ≢ n → matching same_number dated_seq n now ≡ matching same_number dated_seq n rows.retains) → (is_some (date_in now v) ≡ true → MayBeDated rows.locks v)
      → AllByRecursion (λ x. is_some (date_in now x) ≡ true → MayBeDated rows.locks x) rows.versions
  dates_kept now alike its = go rows.versions (only_of_seq old t sound v there) (sound.tenants t).retains.kept
    where
      go : (versions : List VersionRow) → AllByRecursion (λ (x : VersionRow). x.seq ≡ v.seq → x ≡ v) versions → AllByRecursion (λ x. is_some (date_in rows.retains x) ≡ true → MayBeDated rows.locks x) versions
          → AllByRecursion (λ x. is_some (date_in now x) ≡ true → MayBeDated rows.locks x) versions
      go [] only kept = tt
      go (x ∷ versions) only kept = (
        elim (same_number x.seq v.seq) as (λ b. same_number x.seq v.seq ≡ b → is_some (date_in now x) ≡ true → MayBeDated rows.locks x) [
          | true ↦ λ e. subst (λ y. is_some (date_in now y) ≡ true → MayBeDated rows.locks y) (sym (only.0 ((numbers.decides x.seq v.seq).0 e))) its
          | false ↦ λ e told. kept.0 (ap (λ l. is_some (option_map (λ (r : RetainRow). r.until) (first l))) (sym (alike x.seq (λ same. true≢false (sym ((numbers.decides x.seq v.seq).1 (sym same)) ∙ e)))) ∙ told)
        ] refl,
        go versions only.1 kept.1,
      )

  retains_become : (retains now : List RetainRow) → ((u : Octets) → u ≢ t → rows_at own u retains ≡ rows_at own u old.retains) → rows_at own t retains ≡ now → ((n : ℕ) → v.seq ≢ n → matching same_number dated_seq n now ≡ matching same_number dated_seq n rows.retains)
      → AllByRecursion (λ (r : RetainRow). r.until ≤ 251_000_000_000) now → HasUnique same_number dated_seq now → Refers same_number seqs rows.versions dated_seq now → (is_some (date_in now v) ≡ true → MayBeDated rows.locks v)
      → new ≡ record old { retains = retains } → Becomes t (Some (with_bucket v.bucket (record B { dates = its_dates (date_in now v) }) s)) old new
  retains_become retains now others here alike each one owned its e =
      let all = sound.tenants t in
      let after : Tables = record old { retains = retains } in
      subst (Becomes t (Some (with_bucket v.bucket (record B { dates = its_dates (date_in now v) }) s)) old) (sym e)
      (becomes t _ old after sound refl refl refl (λ u apart i. record (rows_of u old) { retains = others u apart i })
      (buckets_shown rows s (sym (view_is old t) ∙ is) (rows_of t after) (λ m. insert m v.bucket (record B { dates = its_dates (date_in now v) })) refl refl
      (ap (λ x. buckets_of (record rows { retains = x })) here ∙ dates_become now alike))
      (subst (λ x. AreSound (latest_of old) (record rows { retains = x })) (sym here) (record {
        tenants = all.tenants;
        keys = all.keys;
        buckets = all.buckets;
        versions = all.versions;
        uploads = all.uploads;
        parts = all.parts;
        locks = all.locks;
        retains = record { each = each; one = one; owned = owned; kept = dates_kept now alike its };
      })))

  -- the first date of a version that may have one
  pub date_added : (until : ℕ) → until ≤ 251_000_000_000 → 1 ≤ v.id → v.marker ≡ 0 → B.locked ≡ true → date_in rows.retains v ≡ None → new ≡ record old { retains = old.retains ++ record { tenant = t; seq = v.seq; until = until } ∷ [] }
      → Becomes t (Some (with_bucket v.bucket (record B { dates = dated v.okey (id_of v.id) until B.dates }) s)) old new
  date_added until early numbered content locked none e =
      let all = sound.tenants t in
      let r : RetainRow = record { tenant = t; seq = v.seq; until = until } in
      let fresh : matching same_number dated_seq v.seq rows.retains ≡ [] = undated_rows rows.retains v none in
      let shown : date_in (rows.retains ++ r ∷ []) v ≡ Some until = ap (λ l. option_map (λ (x : RetainRow). x.until) (first l)) (push_here (λ (x : RetainRow). same_number x.seq v.seq) rows.retains r (is_itself numbers v.seq) ∙ ap (λ l. l ++ r ∷ []) fresh) in
      let may : MayBeDated rows.locks v = record { numbered = numbered; content = content; locked = ap (λ (x : Bucket). x.locked) (bucket_row rows v.bucket B (bucket_before old t sound v there s is B at)).2 ∙ locked } in
      subst (λ (m : Dates). Becomes t (Some (with_bucket v.bucket (record B { dates = m }) s)) old new) (ap its_dates shown ∙ sym (numbered_date v.id numbered))
      (retains_become (old.retains ++ r ∷ []) (rows.retains ++ r ∷ []) (others_pushed own old.retains r) (mine_pushed own old.retains r)
      (λ n apart. push_other (λ (x : RetainRow). same_number x.seq n) rows.retains r (is_other numbers v.seq n apart))
      (all_pushed _ rows.retains r all.retains.each early) (unique_pushed numbers dated_seq rows.retains r all.retains.one fresh)
      (refers_pushed numbers seqs dated_seq rows.versions rows.retains r all.retains.owned (λ gone. none_some (sym gone ∙ first_of_seq old t sound v there))) (λ _. may) e)
    where
      numbered_date : (n : ℕ) → 1 ≤ n → dated v.okey (id_of n) until B.dates ≡ insert B.dates (v.okey, n) until
      numbered_date zero some = absurd (omega (arith, some))
      numbered_date (suc n) some = refl

  -- another date of a version that has one
  pub date_set : (until : ℕ) → until ≤ 251_000_000_000 → is_some (date_in rows.retains v) ≡ true → new ≡ record old { retains = update_where (is_retain t v.seq) (λ r. record r { until = until }) old.retains }
      → Becomes t (Some (with_bucket v.bucket (record B { dates = dated v.okey (id_of v.id) until B.dates }) s)) old new
  date_set until early some e =
      let all = sound.tenants t in
      let test = λ (r : RetainRow). same_number r.seq v.seq in
      let set = λ (r : RetainRow). record r { until = until } in
      let may : MayBeDated rows.locks v = has_of_all old t sound v there (λ x. is_some (date_in rows.retains x) ≡ true → MayBeDated rows.locks x) all.retains.kept some in
      subst (λ (m : Dates). Becomes t (Some (with_bucket v.bucket (record B { dates = m }) s)) old new) (ap its_dates (shown (first (matching same_number dated_seq v.seq rows.retains)) refl some) ∙ sym (numbered_date v.id may.numbered))
      (retains_become (update_where (is_retain t v.seq) set old.retains) (update_where test set rows.retains) (others_updated own t (is_retain t v.seq) (λ r h. within_own own t r (and_parts _ _ h).0) set (λ r. refl) old.retains)
      (mine_updated own t test set (λ r. refl) old.retains)
      (λ n apart. update_other (λ (x : RetainRow). same_number x.seq n) test set (λ x here. is_other numbers x.seq v.seq (λ h. apart (sym h ∙ (numbers.decides x.seq n).0 here)))
      (λ x here. is_other numbers x.seq n (λ h. apart (sym ((numbers.decides x.seq v.seq).0 here) ∙ h))) rows.retains)
      (all_updated _ test set (λ r was. early) rows.retains all.retains.each) (unique_updated numbers dated_seq rows.retains test set (λ r. refl) all.retains.one)
      (refers_set rows.retains all.retains.owned) (λ _. may) e)
    where
      numbered_date : (n : ℕ) → 1 ≤ n → dated v.okey (id_of n) until B.dates ≡ insert B.dates (v.okey, n) until
      numbered_date zero some = absurd (omega (arith, some))
      numbered_date (suc n) some = refl

      changed : RetainRow → RetainRow
      changed r = record r { until = until }

      shown : (o : Option RetainRow) → first (matching same_number dated_seq v.seq rows.retains) ≡ o → is_some (option_map (λ (r : RetainRow). r.until) o) ≡ true → date_in (update_where (λ r. same_number r.seq v.seq) changed rows.retains) v ≡ Some until
      shown None e none = absurd (true≢false (sym none))
      shown (Some r) e some = ap (option_map (λ (r : RetainRow). r.until)) (first_updated (λ (x : RetainRow). same_number x.seq v.seq) changed (λ x. refl) rows.retains r e)

      refers_set : (l : List RetainRow) → Refers same_number seqs rows.versions dated_seq l → Refers same_number seqs rows.versions dated_seq (update_where (λ r. same_number r.seq v.seq) changed l)
      refers_set l refers n none = update_here (λ (x : RetainRow). same_number x.seq n) (λ r. same_number r.seq v.seq) changed (λ x _. refl) l ∙ ap (update_where (λ r. same_number r.seq v.seq) changed) (refers n none)

  -- a version has no date any more, if it had one
  pub date_removed : new ≡ record old { retains = delete_where (is_retain t v.seq) old.retains } → Becomes t (Some (with_bucket v.bucket (record B { dates = undated v.okey (id_of v.id) B.dates }) s)) old new
  date_removed e =
      let all = sound.tenants t in
      let test = λ (r : RetainRow). same_number r.seq v.seq in
      let shown : date_in (delete_where test rows.retains) v ≡ None = ap (λ l. option_map (λ (x : RetainRow). x.until) (first l)) (delete_all test rows.retains) in
      subst (λ (m : Dates). Becomes t (Some (with_bucket v.bucket (record B { dates = m }) s)) old new) (ap its_dates shown ∙ without v.id refl)
      (retains_become (delete_where (is_retain t v.seq) old.retains) (delete_where test rows.retains) (others_deleted own t (is_retain t v.seq) (λ r h. within_own own t r (and_parts _ _ h).0) old.retains) (mine_deleted own t test old.retains)
      (λ n apart. delete_other (λ (x : RetainRow). same_number x.seq n) test rows.retains (λ x here. is_other numbers x.seq v.seq (λ h. apart (sym h ∙ (numbers.decides x.seq n).0 here))))
      (all-filter _ _ rows.retains all.retains.each) (unique_deleted numbers dated_seq rows.retains test all.retains.one)
      (refers_deleted numbers seqs dated_seq rows.versions rows.retains test all.retains.owned) (λ some. absurd (true≢false (sym some ∙ ap is_some shown))) e)
    where
      without : (n : ℕ) → v.id ≡ n → set_at B.dates (version_name v) None ≡ undated v.okey (id_of n) B.dates
      without zero e = ap (set_at B.dates (version_name v)) (sym (date_at old t sound v there s is B at ∙ null_none old t sound v there s is B at e)) ∙ set_at_same version_names B.dates (version_name v)
      without (suc n) e = ap (λ m. set_at B.dates (v.okey, m) None) e
