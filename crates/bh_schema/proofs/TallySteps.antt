-- What a tenant's tally becomes when an entry of a key comes or goes, in the words of calls.
use Rattle.std.proofs.Common.{◌≡◌, ◌==◌, inl, inr, ℕ, ◌+◌, ◌<◌, ◌≤◌, pos, int_lt, Bool, true, false, ◌&&◌, cond, List, [], ◌∷◌, filter, find, length, slice_get, Option, Some, None, option_map, arith, refl, sym, ap, subst, ◌∙◌, Decides}
use Rattle.std.specs.Cmp.{signed_Decides}
use Rattle.std.specs.Option.{option_map_or}
use Rattle.std.specs.List.{AllByRecursion}
use Rattle.std.specs.Ordering.{int_eq}
use Rattle.std.proofs.lemmas.Bool.{cases_Bool, and_parts, eqb-true}
use Rattle.std.proofs.lemmas.Int.{ints}
use Rattle.sqlite_keyed.specs.Lists.{sort_by, update_where, delete_where}
use Rattle.sqlite_keyed.proofs.ListLemmas.{all_weaker}
use Rattle.sqlite_typed.specs.Tests.{bytes_eq}
use Rattle.sqlite_typed.proofs.TestLemmas.{same_bytes}
use Rattle.bh_tables.specs.Schema.{Octets}
use Rattle.bh_tables.specs.Typed.{totals_of, VersionRow, TenantRow, Tables, is_tally, set_to, tallied}
use Rattle.bh_tables.specs.Shown.{is_tenant, is_at, is_version, has_marker, current_versions, marked, newer}
use Rattle.bh_tables.proofs.TallyLemmas.{Newest, set_recounted}
use Rattle.bh_view.specs.Grouped.{first}
use Rattle.bh_view.proofs.NewestLemmas.{after_first, next_first, as_many}
use Rattle.bh_view.proofs.ObjectLemmas.{newer_total}
use Rattle.bh_view.proofs.SortLemmas.{all-sort_by, sort_by-filter}
use Rattle.bh_schema.specs.Tallies.{tenant_tally, place_of, place_after, marker_in, marked_as, entries_changed}
use Rattle.bh_schema.specs.declared.rows.tallies.Tally.{Tally}
use Rattle.bh_schema.specs.declared.rows.tallies.EntryChange.{EntryChange}
use Rattle.bh_schema.specs.declared.rows.places.Place.{Place}
use Rattle.bh_schema.specs.declared.rows.places.NewestPlaces.{NewestPlaces}

-- ---- markers

same_as : (a b : ℕ) → int_eq (pos a) (pos b) ≡ (a == b)
same_as a b = elim (cases_Bool (a == b)) [
  | inl is ↦ ap (λ n. int_eq (pos a) (pos n)) (sym (eqb-true a b is)) ∙ self a ∙ sym is
  | inr other ↦ grind (arith, ints, other)
]
  where
    self : (n : ℕ) → int_eq (pos n) (pos n) ≡ true
    self n = grind (arith, ints)

pub marked_so : (n : ℕ) (o : Option VersionRow) → marked n o ≡ marked_as n (option_map marker_in o)
marked_so n None = refl
marked_so n (Some v) = ap (λ b. cond b 1 0) (same_as v.marker n)

-- ---- the tally of a tenant that is found

module _ (t : Tables) (tenant : Octets) (y : Tally) where
  pub record IsOwn : Type 0 where
    pub versions : y.versions ≡ length (filter (has_marker tenant 0) t.versions)
    pub markers : y.markers ≡ length (filter (has_marker tenant 1) t.versions)
    pub objects : y.objects ≡ length (current_versions tenant t.versions)

  own_of : (x : TenantRow) → x.tenant ≡ tenant → y ≡ tenant_tally t x → IsOwn
  own_of x named is = record {
    versions = ap (λ (z : Tally). z.versions) is ∙ ap (λ n. length (filter (has_marker n 0) t.versions)) named;
    markers = ap (λ (z : Tally). z.markers) is ∙ ap (λ n. length (filter (has_marker n 1) t.versions)) named;
    objects = ap (λ (z : Tally). z.objects) is ∙ ap (λ n. length (current_versions n t.versions)) named;
  }

  own_among : (xs : List TenantRow) → Some y ≡ option_map (tenant_tally t) (find (is_tenant tenant) xs) → IsOwn
  own_among [] is = absurd (cc)
  own_among (x ∷ xs) is = elim (cases_Bool (is_tenant tenant x)) [
    | inl on ↦ own_of x (same_bytes x.tenant tenant on) (head (is ∙ ap (λ b. option_map (tenant_tally t) (cond b (Some x) (find (is_tenant tenant) xs))) on))
    | inr off ↦ own_among xs (is ∙ ap (λ b. option_map (tenant_tally t) (cond b (Some x) (find (is_tenant tenant) xs))) off)
  ]
    where
      head : {z : Tally} → Some y ≡ Some z → y ≡ z
      head e = cc

  pub own_tally : Some y ≡ option_map (tenant_tally t) (find (is_tenant tenant) t.tenants) → IsOwn
  own_tally = own_among t.tenants

  -- set to what it is to be
  pub recounts : (change : EntryChange) (a b c : ℕ) → IsOwn → a + marked_as 0 change.gone ≡ y.versions + marked_as 0 change.come → b + marked_as 1 change.gone ≡ y.markers + marked_as 1 change.come
      → c + marked_as 0 change.before ≡ y.objects + marked_as 0 change.after → tallied (update_where (is_tally tenant) (set_to a b c)) (totals_of t) ≡ entries_changed tenant change (totals_of t)
  recounts change a b c own is_a is_b is_c = ap (λ l. record (totals_of t) { tallies = l })
      (set_recounted tenant t.versions (marked_as 0 change.come, marked_as 0 change.gone) (marked_as 1 change.come, marked_as 1 change.gone) (marked_as 0 change.after, marked_as 0 change.before) a b c
      (is_a ∙ ap (λ n. n + marked_as 0 change.come) own.versions) (is_b ∙ ap (λ n. n + marked_as 1 change.come) own.markers) (is_c ∙ ap (λ n. n + marked_as 0 change.after) own.objects) t.tenants)

-- ---- entries of a key in their order

pub same_first : {X : Type 0} (l : List X) → slice_get l 0 ≡ first l
same_first [] = refl
same_first (x ∷ l) = refl

older : (h v seq : ℕ) → int_lt (pos h) (pos v) ≡ false → h < seq → int_lt (pos v) (pos seq) ≡ true
older h v seq low small = grind (arith, ints, low, small)

-- one that is newer than the newest is newer than all
pub newer_all : (vs : List VersionRow) (o : Option VersionRow) (seq : ℕ) → Newest vs o → ((v : VersionRow) → o ≡ Some v → v.seq < seq) → AllByRecursion (λ v. int_lt (pos v.seq) (pos seq) ≡ true) vs
newer_all vs None seq none small = subst (AllByRecursion (λ v. int_lt (pos v.seq) (pos seq) ≡ true)) (sym none) tt
newer_all vs (Some h) seq newest small = all_weaker _ _ (λ v low. older h.seq v.seq seq low (small h refl)) vs newest.last

-- ---- the newest entry once the one with an id is gone, of the two newest before

module _ (tenant bucket okey : Octets) (id : ℕ) (newest : NewestPlaces) where
  abbrev m : VersionRow → Bool
  m = is_version tenant bucket okey id

  by_id : (v : VersionRow) → is_at tenant bucket okey v ≡ true → m v ≡ (v.id == id)
  by_id v on =
      let a = and_parts (bytes_eq v.tenant tenant) (bytes_eq v.bucket bucket && bytes_eq v.okey okey) on in
      let b = and_parts (bytes_eq v.bucket bucket) (bytes_eq v.okey okey) a.1 in
      (λ i. a.0 i && (b.0 i && (b.1 i && int_eq (pos v.id) (pos id)))) ∙ same_as v.id id

  after_is : (l : List VersionRow) → AllByRecursion (λ v. is_at tenant bucket okey v ≡ true) l → newest.first ≡ option_map place_of (slice_get l 0) → newest.second ≡ option_map place_of (slice_get l 1) → place_after id newest ≡ option_map place_of (after_first m l)
  after_is [] all one two = ap (λ o. option_map_or (λ (p : Place). cond (p.id == id) newest.second (Some p)) o None) one
  after_is (h ∷ rest) all one two =
      ap (λ o. option_map_or (λ (p : Place). cond (p.id == id) newest.second (Some p)) o None) one
      ∙ ap (λ o. cond (h.id == id) o (Some (place_of h))) (two ∙ ap (option_map place_of) (same_first rest))
      ∙ out (h.id == id) ∙ ap (λ b. option_map place_of (cond b (first rest) (Some h))) (sym (by_id h all.0))
    where
      out : (b : Bool) → cond b (option_map place_of (first rest)) (Some (place_of h)) ≡ option_map place_of (cond b (first rest) (Some h))
      out true = refl
      out false = refl

  pub place_left : (vs : List VersionRow) → AllByRecursion (λ v. is_at tenant bucket okey v ≡ true) vs → length (filter m vs) ≤ 1 → newest.first ≡ option_map place_of (slice_get (sort_by newer vs) 0) → newest.second ≡ option_map place_of (slice_get (sort_by newer vs) 1)
      → place_after id newest ≡ option_map place_of (first (delete_where m (sort_by newer vs)))
  place_left vs all few one two =
      after_is (sort_by newer vs) (all-sort_by newer (λ v. is_at tenant bucket okey v ≡ true) vs all) one two
      ∙ ap (option_map place_of) (sym (next_first m (sort_by newer vs) (subst (λ n. n ≤ 1) (sym (as_many (filter m vs)) ∙ ap length (sort_by-filter newer newer_total m vs)) few)))
