-- Whether a version of a tenant has a date that is not over: its rows of dates tell.
use Rattle.std.proofs.Common.{inl, inr, ◌≡◌, ℕ, ◌<◌, pos, int_lt, Bool, true, false, true≢false, ◌||◌, nat_lt, List, [], ◌∷◌, Option, Some, None, find, option_map, option_and_then, refl, sym, ap, subst, ◌∙◌, arith}
use Rattle.std.specs.FinMap.{get}
use Rattle.std.specs.List.{AllByRecursion, list_any}
use Rattle.std.proofs.lemmas.Bool.{cases_Bool}
use Rattle.std.proofs.lemmas.Bool.Decides.{nat_tests}
use Rattle.std.proofs.lemmas.Int.{ints}
use Rattle.sqlite_keyed.proofs.ListLemmas.{all-filter, all_both, none_from_any}
use Rattle.sqlite_typed.specs.Tests.{bytes_eq}
use Rattle.bh_model.specs.State.{Octets, octets_cmp, version_cmp, Bucket, State}
use Rattle.bh_model.specs.Retention.{bucket_retains, retains}
use Rattle.bh_model.proofs.DateLemmas.{version_total, version_same}
use Rattle.bh_model.proofs.RemovalLemmas.{none_got, retains_dated}
use Rattle.bh_model.proofs.UsedLemmas.{octets_total, octets_same}
use Rattle.bh_tables.specs.Typed.{BucketRow, VersionRow, RetainRow, Tables}
use Rattle.bh_tables.specs.Shown.{same_name, is_entry, is_kept_after}
use Rattle.bh_view.specs.Grouped.{first, matching, same_number}
use Rattle.bh_view.specs.Sound.{AreSound, IsSound}
use Rattle.bh_view.specs.View.{TenantRows, rows_of, named, in_bucket, id_of, version_name, date_in, bucket_shown, buckets_of, view, latest_of}
use Rattle.bh_view.proofs.BucketLemmas.{bucket_row, get-buckets_of}
use Rattle.bh_view.proofs.DateChanges.{has_of_all, date_shown}
use Rattle.bh_view.proofs.DatedLemmas.{seqs, dated_seq}
use Rattle.bh_view.proofs.FactLemmas.{all_first, each_first}
use Rattle.bh_view.proofs.FilterLemmas.{none_some, same_Some, first_passes, filter_both}
use Rattle.bh_view.proofs.FindLemmas.{first_find}
use Rattle.bh_view.proofs.GroupedLemmas.{get-grouped}
use Rattle.bh_view.proofs.Keys.{octets, numbers, version_names}
use Rattle.bh_view.proofs.LockChanges.{any_both}
use Rattle.bh_view.proofs.NameLemmas.{refers_each}
use Rattle.bh_view.proofs.ViewLemmas.{own_row}

as_number : (a b : ℕ) → int_lt (pos a) (pos b) ≡ false → nat_lt a b ≡ false
as_number a b h = grind (arith, ints, nat_tests, h)

-- what each element that passes brings about
any_so : {X : Type 0} (p : X → Bool) (G : Type 0) (xs : List X) → AllByRecursion (λ x. p x ≡ true → G) xs → list_any p xs ≡ true → G
any_so p G [] all some = absurd (true≢false (sym some))
any_so p G (x ∷ xs) all some = elim (cases_Bool (p x)) [
  | inl is ↦ all.0 is
  | inr off ↦ any_so p G xs all.1 (sym (ap (λ b. b || list_any p xs) off) ∙ some)
]

before : (a b : ℕ) → int_lt (pos a) (pos b) ≡ true → a < b
before a b h = grind (arith, ints, nat_tests, h)

module _ (tables : Tables) (t : Octets) (moment : ℕ) (s : State) (sound : IsSound tables) (is : view tables t ≡ Some s) where
  abbrev mine : TenantRows
  mine = rows_of t tables

  all : AreSound (latest_of tables) mine
  all = sound.tenants t

  -- a date that is not over
  abbrev is_late : RetainRow → Bool
  is_late r = int_lt (pos moment) (pos r.until)

  bucket_there : (name : Octets) (B : Bucket) → get s.buckets name ≡ Some B → get (buckets_of mine) name ≡ Some B
  bucket_there name B at = ap (λ (x : State). get x.buckets name) (own_row tables t s is).2 ∙ at

  -- ---- where no row is late, no version has such a date

  of_row : (d : ℕ) → AllByRecursion (λ r. is_late r ≡ false) mine.retains → (n : ℕ) (o : Option RetainRow) → first (matching same_number dated_seq n mine.retains) ≡ o → option_map (λ (r : RetainRow). r.until) o ≡ Some d → nat_lt moment d ≡ false
  of_row d none n None at dated = absurd (none_some dated)
  of_row d none n (Some r) at dated = as_number moment d (subst (λ u. int_lt (pos moment) (pos u) ≡ false) (same_Some dated) (all_first (λ x. is_late x ≡ false) (matching same_number dated_seq n mine.retains) r at (all-filter _ _ mine.retains none)))

  of_version : (d : ℕ) → AllByRecursion (λ r. is_late r ≡ false) mine.retains → (o : Option VersionRow) → option_and_then (date_in mine.retains) o ≡ Some d → nat_lt moment d ≡ false
  of_version d none None dated = absurd (none_some dated)
  of_version d none (Some v) dated = of_row d none v.seq (first (matching same_number dated_seq v.seq mine.retains)) refl dated

  none_dated : list_any is_late mine.retains ≡ false → retains moment s ≡ false
  none_dated none =
      none_got octets_cmp octets_total octets_same (bucket_retains moment) s.buckets (λ name B at.
      none_got version_cmp version_total version_same (nat_lt moment) B.dates (λ q d there.
      of_version d (none_from_any is_late mine.retains none) (first (matching same_name version_name q (in_bucket name mine.versions)))
      (sym (ap (λ (x : Bucket). get x.dates q) (sym (bucket_row mine name B (bucket_there name B at)).2)
      ∙ get-grouped version_names version_name (λ _ rows. option_and_then (date_in mine.retains) (first rows)) (λ _. refl) (in_bucket name mine.versions) q) ∙ there)))

  -- ---- where one is, its version has

  found_at : (n : ℕ) (v : VersionRow) → first (matching same_number seqs n mine.versions) ≡ Some v → find (is_entry t n) tables.versions ≡ Some v
  found_at n v at = sym (ap first (filter_both (λ (x : VersionRow). bytes_eq x.tenant t) (λ x. same_number x.seq n) tables.versions) ∙ first_find (is_entry t n) tables.versions) ∙ at

  module _ (r : RetainRow) (alone : first (matching same_number dated_seq r.seq mine.retains) ≡ Some r) (late : is_late r ≡ true) where
    of_bucket : (v : VersionRow) → v.seq ≡ r.seq → find (is_entry t v.seq) tables.versions ≡ Some v → (o : Option BucketRow) → first (named v.bucket mine.buckets) ≡ o → retains moment s ≡ true
    of_bucket v its found None away = absurd (has_of_all tables t sound v found (λ (x : VersionRow). first (named x.bucket mine.buckets) ≡ None → ⊥) (refers_each octets (λ (b : BucketRow). b.bucket) mine.buckets (λ (x : VersionRow). x.bucket) mine.versions all.versions.owned) away)
    of_bucket v its found (Some b) at =
        let B = bucket_shown mine v.bucket b in
        let here : get s.buckets v.bucket ≡ Some B = ap (λ (x : State). get x.buckets v.bucket) (sym (own_row tables t s is).2) ∙ get-buckets_of mine v.bucket ∙ ap (option_map (bucket_shown mine v.bucket)) at in
        let dated : date_in mine.retains v ≡ Some r.until =
        ap (λ n. option_map (λ (x : RetainRow). x.until) (first (matching same_number dated_seq n mine.retains))) its ∙ ap (option_map (λ (x : RetainRow). x.until)) alone in
        retains_dated moment v.bucket v.okey (id_of v.id) s B r.until here (date_shown tables t sound v found s is B here ∙ dated) (before moment r.until late)

    of_entry : (first (matching same_number seqs r.seq mine.versions) ≡ None → ⊥) → (o : Option VersionRow) → first (matching same_number seqs r.seq mine.versions) ≡ o → retains moment s ≡ true
    of_entry there None away = absurd (there away)
    of_entry there (Some v) at =
        let its : v.seq ≡ r.seq = (numbers.decides v.seq r.seq).0 (first_passes (λ (x : VersionRow). same_number x.seq r.seq) mine.versions v at) in
        of_bucket v its (subst (λ n. find (is_entry t n) tables.versions ≡ Some v) (sym its) (found_at r.seq v at)) (first (named v.bucket mine.buckets)) refl

  one_dated : list_any is_late mine.retains ≡ true → retains moment s ≡ true
  one_dated = any_so is_late (retains moment s ≡ true) mine.retains
      (all_both (λ r. first (matching same_number seqs (dated_seq r) mine.versions) ≡ None → ⊥) (λ r. first (matching same_number dated_seq (dated_seq r) mine.retains) ≡ Some r) (λ r. is_late r ≡ true → retains moment s ≡ true)
      (λ r there alone late. of_entry r alone late there (first (matching same_number seqs r.seq mine.versions)) refl) mine.retains
      (refers_each numbers seqs mine.versions dated_seq mine.retains all.retains.owned) (each_first numbers dated_seq mine.retains all.retains.one))

  -- so the rows tell it
  pub retains_told : retains moment s ≡ list_any (is_kept_after t moment) tables.retains
  retains_told = elim (cases_Bool (list_any is_late mine.retains)) [
    | inl some ↦ one_dated some ∙ sym some
    | inr none ↦ none_dated none ∙ sym none
  ] ∙ any_both (λ (r : RetainRow). bytes_eq r.tenant t) is_late tables.retains
