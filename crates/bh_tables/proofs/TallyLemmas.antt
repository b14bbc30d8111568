-- What becomes of a tenant's tally when versions and markers of one key come or go.
use Rattle.std.proofs.Common.{◌≡◌, inl, inr, ℕ, ◌+◌, ◌+ℤ◌, ◌-ℤ◌, pos, Bool, true, false, ◌&&◌, ◌||◌, not, List, [], ◌∷◌, ◌++◌, map, filter, length, sum_by, Option, Some, None, cond, arith, int_lt, refl, sym, ap, ap₂, subst, ◌∙◌}
use Rattle.std.specs.List.{list_any, AllByRecursion}
use Rattle.std.specs.Ordering.{int_eq}
use Rattle.std.proofs.lemmas.Bool.{and_parts, and_from, cases_Bool, both_ways, false_from_ne_true, not-true}
use Rattle.std.proofs.lemmas.List.{map-append, append-nil}
use Rattle.std.proofs.lemmas.List.Elements.{filter-append}
use Rattle.std.proofs.lemmas.Int.{ints}
use Rattle.sqlite_rules.specs.Lists.{Has}
use Rattle.sqlite_rules.proofs.ListLemmas.{all_has, some_from}
use Rattle.sqlite_keyed.specs.Lists.{delete_where, update_where}
use Rattle.sqlite_keyed.proofs.ListLemmas.{filter_none, all-filter, all-append, all_weaker, all_both, filter-filter}
use Rattle.sqlite_typed.specs.Tests.{bytes_eq}
use Rattle.sqlite_typed.proofs.TestLemmas.{same_bytes, bytes_eq_refl}
use Rattle.bh_tables.specs.Schema.{Octets}
use Rattle.bh_tables.specs.Typed.{VersionRow, TenantRow, TallyRow, tally_of, set_to, is_tally, recounted, tallied, tally_changed, used_changed, Tables, totals_of}
use Rattle.bh_tables.specs.Shown.{is_tenant, is_at, has_marker, is_later, is_current, current_versions, marked}
use Rattle.bh_tables.proofs.AloneLemmas.{listed}
use Rattle.bh_tables.proofs.TotalLemmas.{many_parted, many_last, bytes_Decides, bytes_swap, turned_sum, totals_version_added, totals_version_deleted, totals_version_replaced, totals_marker_added}

-- ---- lists

-- tests that agree on the elements of a list find the same of them
same_found : {X : Type 0} (p q : X → Bool) (xs : List X) → AllByRecursion (λ x. p x ≡ q x) xs → filter p xs ≡ filter q xs
same_found p q [] h = refl
same_found p q (x ∷ xs) h = ap₂ (λ b l. cond b (x ∷ l) l) h.0 (same_found p q xs h.1)

-- one that only passes what another passes finds the same among those
any_within : {X : Type 0} (q p : X → Bool) → ((x : X) → q x ≡ true → p x ≡ true) → (xs : List X) → list_any q (filter p xs) ≡ list_any q xs
any_within q p only [] = refl
any_within q p only (x ∷ xs) = elim (cases_Bool (p x)) [
  | inl on ↦ ap (λ b. list_any q (cond b (x ∷ filter p xs) (filter p xs))) on ∙ ap (λ b. q x || b) (any_within q p only xs)
  | inr off ↦ ap (λ b. list_any q (cond b (x ∷ filter p xs) (filter p xs))) off ∙ any_within q p only xs ∙ sym (ap (λ b. b || list_any q xs) (false_from_ne_true (q x) (λ on. both_ways _ off (only x on))))
]

all_pass : {X : Type 0} (p : X → Bool) (xs : List X) → AllByRecursion (λ x. p x ≡ true) (filter p xs)
all_pass p [] = tt
all_pass p (x ∷ xs) = elim (p x) as (λ b. p x ≡ b → AllByRecursion (λ y. p y ≡ true) (cond b (x ∷ filter p xs) (filter p xs))) [ true ↦ λ e. (e, all_pass p xs) | false ↦ λ e. all_pass p xs ] refl

filters_swap : {X : Type 0} (p q : X → Bool) (xs : List X) → filter p (filter q xs) ≡ filter q (filter p xs)
filters_swap p q [] = refl
filters_swap {X} p q (x ∷ xs) = step p q ∙ ap (λ l. cond (q x) (cond (p x) (x ∷ l) l) l) (filters_swap p q xs) ∙ turn (p x) (q x) (filter q (filter p xs)) ∙ sym (step q p)
  where
    step : (f g : X → Bool) → filter f (cond (g x) (x ∷ filter g xs) (filter g xs)) ≡ cond (g x) (cond (f x) (x ∷ filter f (filter g xs)) (filter f (filter g xs))) (filter f (filter g xs))
    step f g = elim (g x) as (λ b. filter f (cond b (x ∷ filter g xs) (filter g xs)) ≡ cond b (cond (f x) (x ∷ filter f (filter g xs)) (filter f (filter g xs))) (filter f (filter g xs))) [ true ↦ refl | false ↦ refl ]

    turn : (a b : Bool) (l : List X) → cond b (cond a (x ∷ l) l) l ≡ cond a (cond b (x ∷ l) l) l
    turn true true l = refl
    turn true false l = refl
    turn false true l = refl
    turn false false l = refl

-- ---- the current versions of one key, and those of the others

module _ (tenant : Octets) (at : VersionRow → Bool) (alike : (v w : VersionRow) → is_later v w ≡ true → at w ≡ at v) where
  pub within : (vs : List VersionRow) (p : VersionRow → Bool) → ((v w : VersionRow) → p v ≡ true → is_later v w ≡ true → p w ≡ true) → filter (is_current tenant vs) (filter p vs) ≡ current_versions tenant (filter p vs)
  within vs p closed = same_found (is_current tenant vs) (is_current tenant (filter p vs)) (filter p vs) (all_weaker (λ v. p v ≡ true) _ one (filter p vs) (all_pass p vs))
    where
      one : (v : VersionRow) → p v ≡ true → is_current tenant vs v ≡ is_current tenant (filter p vs) v
      one v on = ap (λ b. bytes_eq v.tenant tenant && (int_eq (pos v.marker) (pos 0) && not b)) (sym (any_within (is_later v) p (λ w. closed v w on) vs))

  pub current_parted : (vs : List VersionRow) → length (current_versions tenant vs) ≡ length (current_versions tenant (delete_where at vs)) + length (current_versions tenant (filter at vs))
  current_parted vs =
      many_parted (is_current tenant vs) at vs
      ∙ ap₂ (λ a b. length a + length b) (within vs (λ v. not (at v)) (λ v w on late. ap not (alike v w late) ∙ on)) (within vs at (λ v w on late. alike v w late ∙ on))

-- entries of one key have the same tenant, bucket and key
at_alike : (tenant bucket okey : Octets) (v w : VersionRow) → is_later v w ≡ true → is_at tenant bucket okey w ≡ is_at tenant bucket okey v
at_alike tenant bucket okey v w late =
    let a = and_parts _ _ late in
    let b = and_parts _ _ a.1 in
    let c = and_parts _ _ b.1 in
    λ i. bytes_eq (same_bytes w.tenant v.tenant a.0 i) tenant && (bytes_eq (same_bytes w.bucket v.bucket b.0 i) bucket && bytes_eq (same_bytes w.okey v.okey c.0 i) okey)

-- ---- the newest entry of a key

-- it alone has its number, and none has a greater one
pub record IsNewest (vs : List VersionRow) (h : VersionRow) : Type 0 where
  pub alone : filter (λ v. int_eq (pos v.seq) (pos h.seq)) vs ≡ h ∷ []
  pub last : AllByRecursion (λ v. int_lt (pos h.seq) (pos v.seq) ≡ false) vs

abbrev pub Newest : List VersionRow → Option VersionRow → Type 0
Newest vs None = vs ≡ []
Newest vs (Some h) = IsNewest vs h

self_seq : (n : ℕ) → int_eq (pos n) (pos n) ≡ true
self_seq n = grind (arith, ints)

not_after : (h v w : ℕ) → int_eq (pos v) (pos h) ≡ true → int_lt (pos h) (pos w) ≡ false → int_lt (pos v) (pos w) ≡ false
not_after h v w same none = grind (arith, ints, same, none)

before : (h v : ℕ) → int_eq (pos v) (pos h) ≡ false → int_lt (pos h) (pos v) ≡ false → int_lt (pos v) (pos h) ≡ true
before h v other none = grind (arith, ints, other, none)

found_in : {X : Type 0} (p : X → Bool) (xs : List X) (x : X) → filter p xs ≡ x ∷ [] → Has xs x
found_in p [] x is = absurd (cc)
found_in p (y ∷ xs) x is = elim (cases_Bool (p y)) [
  | inl on ↦ inl (head (sym (ap (λ b. cond b (y ∷ filter p xs) (filter p xs)) on) ∙ is))
  | inr off ↦ inr (found_in p xs x (sym (ap (λ b. cond b (y ∷ filter p xs) (filter p xs)) off) ∙ is))
]
  where
    head : y ∷ filter p xs ≡ x ∷ [] → x ≡ y
    head e = cc

module _ (tenant bucket okey : Octets) (vs : List VersionRow) (all : AllByRecursion (λ v. is_at tenant bucket okey v ≡ true) vs) where
  -- it alone is current, where it is no marker
  module _ (h : VersionRow) (newest : IsNewest vs h) where
    same : (v : VersionRow) → is_at tenant bucket okey v ≡ true → (bytes_eq h.tenant v.tenant ≡ true) × ((bytes_eq h.bucket v.bucket ≡ true) × (bytes_eq h.okey v.okey ≡ true))
    same v on =
        let here = all_has _ vs h all (found_in _ vs h newest.alone) in
        let a = and_parts _ _ here in
        let b = and_parts _ _ a.1 in
        let c = and_parts _ _ on in
        let d = and_parts _ _ c.1 in
        (one h.tenant v.tenant tenant a.0 c.0, (one h.bucket v.bucket bucket b.0 d.0, one h.okey v.okey okey b.1 d.1))
      where
        one : (x y z : Octets) → bytes_eq x z ≡ true → bytes_eq y z ≡ true → bytes_eq x y ≡ true
        one x y z first second = (bytes_Decides x y).1 (same_bytes x z first ∙ sym (same_bytes y z second))

    none_later : (v : VersionRow) → int_eq (pos v.seq) (pos h.seq) ≡ true → (ws : List VersionRow) → AllByRecursion (λ w. int_lt (pos h.seq) (pos w.seq) ≡ false) ws → list_any (is_later v) ws ≡ false
    none_later v is [] low = refl
    none_later v is (w ∷ ws) low = ap₂ (λ a b. (bytes_eq w.tenant v.tenant && (bytes_eq w.bucket v.bucket && (bytes_eq w.okey v.okey && a))) || b) (not_after h.seq v.seq w.seq is low.0) (none_later v is ws low.1)
        ∙ off (bytes_eq w.tenant v.tenant) (bytes_eq w.bucket v.bucket) (bytes_eq w.okey v.okey)
      where
        off : (a b c : Bool) → ((a && (b && (c && false))) || false) ≡ false
        off false b c = refl
        off true false c = refl
        off true true false = refl
        off true true true = refl

    some_later : (v : VersionRow) → is_at tenant bucket okey v ≡ true → int_eq (pos v.seq) (pos h.seq) ≡ false → int_lt (pos h.seq) (pos v.seq) ≡ false → list_any (is_later v) vs ≡ true
    some_later v on other low = let eq = same v on in some_from (is_later v) vs h (found_in _ vs h newest.alone) (and_from _ _ eq.0 (and_from _ _ eq.1.0 (and_from _ _ eq.1.1 (before h.seq v.seq other low))))

    current_is : (v : VersionRow) → is_at tenant bucket okey v ≡ true → int_lt (pos h.seq) (pos v.seq) ≡ false → is_current tenant vs v ≡ (int_eq (pos v.marker) (pos 0) && int_eq (pos v.seq) (pos h.seq))
    current_is v on low = ap₂ (λ a b. a && (int_eq (pos v.marker) (pos 0) && not b)) (and_parts _ _ on).0 (elim (cases_Bool (int_eq (pos v.seq) (pos h.seq))) [
      | inl is ↦ none_later v is vs newest.last ∙ sym (ap not is)
      | inr other ↦ some_later v on other low ∙ sym (ap not other)
    ]) ∙ ap (λ b. int_eq (pos v.marker) (pos 0) && b) (twice (int_eq (pos v.seq) (pos h.seq)))
      where
        twice : (b : Bool) → not (not b) ≡ b
        twice true = refl
        twice false = refl

    newest_counts : length (current_versions tenant vs) ≡ marked 0 (Some h)
    newest_counts =
        let p : VersionRow → Bool = λ v. int_eq (pos v.marker) (pos 0) && int_eq (pos v.seq) (pos h.seq) in
        ap length (same_found (is_current tenant vs) p vs (all_both _ _ _ (λ v on low. current_is v on low) vs all newest.last)
        ∙ sym (filter-filter p (λ v. int_eq (pos v.seq) (pos h.seq)) (λ v on. (and_parts _ _ on).1) vs) ∙ ap (filter p) newest.alone)
        ∙ ap (λ b. length (cond (int_eq (pos h.marker) (pos 0) && b) (h ∷ []) [])) (self_seq h.seq) ∙ go (int_eq (pos h.marker) (pos 0))
      where
        go : (b : Bool) → length (cond (b && true) (h ∷ []) []) ≡ cond b 1 0
        go true = refl
        go false = refl

  pub key_counts : (o : Option VersionRow) → Newest vs o → length (current_versions tenant vs) ≡ marked 0 o
  key_counts None none = ap (λ l. length (current_versions tenant l)) none
  key_counts (Some h) newest = newest_counts h newest

  -- and none of another tenant
  other_counts : (x : Octets) → bytes_eq x tenant ≡ false → length (current_versions x vs) ≡ 0
  other_counts x other = ap length (filter_none (is_current x vs) vs (all_weaker _ (λ v. is_current x vs v ≡ false) one vs all))
    where
      one : (v : VersionRow) → is_at tenant bucket okey v ≡ true → is_current x vs v ≡ false
      one v on = ap (λ b. b && (int_eq (pos v.marker) (pos 0) && not (list_any (is_later v) vs))) (ap (λ o. bytes_eq o x) (same_bytes v.tenant tenant (and_parts _ _ on).0) ∙ bytes_swap tenant x ∙ other)

-- ---- the newest entry, once one comes or goes

earlier_is_other : (u v : ℕ) → int_lt (pos u) (pos v) ≡ true → int_eq (pos u) (pos v) ≡ false
earlier_is_other u v less = grind (arith, ints, less)

earlier_is_no_later : (u v : ℕ) → int_lt (pos u) (pos v) ≡ true → int_lt (pos v) (pos u) ≡ false
earlier_is_no_later u v less = grind (arith, ints, less)

none_after_itself : (n : ℕ) → int_lt (pos n) (pos n) ≡ false
none_after_itself n = grind (arith, ints)

-- one comes that has a greater number than all
pub newest_added : (vs : List VersionRow) (v : VersionRow) → AllByRecursion (λ u. int_lt (pos u.seq) (pos v.seq) ≡ true) vs → IsNewest (vs ++ v ∷ []) v
newest_added vs v older = record {
  alone = filter-append (λ u. int_eq (pos u.seq) (pos v.seq)) vs (v ∷ []) ∙ ap₂ ◌++◌ (filter_none (λ u. int_eq (pos u.seq) (pos v.seq)) vs (all_weaker _ _ (λ u less. earlier_is_other u.seq v.seq less) vs older)) (ap (λ b. cond b (v ∷ []) []) (self_seq v.seq));
  last = all-append (λ u. int_lt (pos v.seq) (pos u.seq) ≡ false) vs (v ∷ []) (all_weaker _ _ (λ u less. earlier_is_no_later u.seq v.seq less) vs older) (none_after_itself v.seq, tt);
}

-- others go
pub newest_left : (m : VersionRow → Bool) (vs : List VersionRow) (h : VersionRow) → m h ≡ false → IsNewest vs h → IsNewest (delete_where m vs) h
newest_left m vs h stays newest = record {
  alone = filters_swap (λ u. int_eq (pos u.seq) (pos h.seq)) (λ u. not (m u)) vs ∙ ap (delete_where m) newest.alone ∙ ap (λ b. cond (not b) (h ∷ []) []) stays;
  last = all-filter _ (λ u. not (m u)) vs newest.last;
}

-- ---- the tallies, once entries of one key are others

module _ (tenant bucket okey : Octets) (was now : List VersionRow) (elsewhere : delete_where (is_at tenant bucket okey) now ≡ delete_where (is_at tenant bucket okey) was) (o p : Option VersionRow)
    (before_is : Newest (filter (is_at tenant bucket okey) was) o) (after_is : Newest (filter (is_at tenant bucket okey) now) p) where
  abbrev at : VersionRow → Bool
  at = is_at tenant bucket okey

  objects_turned : (x : Octets) → length (current_versions x now) + cond (bytes_eq x tenant) (marked 0 o) 0 ≡ length (current_versions x was) + cond (bytes_eq x tenant) (marked 0 p) 0
  objects_turned x = elim (cases_Bool (bytes_eq x tenant)) [
    | inl is ↦ ap (λ b. length (current_versions x now) + cond b (marked 0 o) 0) is ∙ subst (λ y. length (current_versions y now) + marked 0 o ≡ length (current_versions y was) + marked 0 p) (sym (same_bytes x tenant is)) its
        ∙ sym (ap (λ b. length (current_versions x was) + cond b (marked 0 p) 0) is)
    | inr other ↦ ap (λ b. length (current_versions x now) + cond b (marked 0 o) 0) other ∙ others other ∙ sym (ap (λ b. length (current_versions x was) + cond b (marked 0 p) 0) other)
  ]
    where
      its : length (current_versions tenant now) + marked 0 o ≡ length (current_versions tenant was) + marked 0 p
      its =
          let a = current_parted tenant at (at_alike tenant bucket okey) was in
          let b = current_parted tenant at (at_alike tenant bucket okey) now in
          let c = key_counts tenant bucket okey (filter at was) (all_pass at was) o before_is in
          let d = key_counts tenant bucket okey (filter at now) (all_pass at now) p after_is in
          let e = ap (λ l. length (current_versions tenant l)) elsewhere in
          omega (arith, a, b, c, d, e)

      others : bytes_eq x tenant ≡ false → length (current_versions x now) + 0 ≡ length (current_versions x was) + 0
      others other =
          let a = current_parted x at (at_alike tenant bucket okey) was in
          let b = current_parted x at (at_alike tenant bucket okey) now in
          let c = other_counts tenant bucket okey (filter at was) (all_pass at was) x other in
          let d = other_counts tenant bucket okey (filter at now) (all_pass at now) x other in
          let e = ap (λ l. length (current_versions x l)) elsewhere in
          omega (arith, a, b, c, d, e)

  module _ (gone come : Option VersionRow) (their_gone : AllByRecursion (λ v. at v ≡ true) (listed gone)) (their_come : AllByRecursion (λ v. at v ≡ true) (listed come))
      (counts : (x : Octets) (n : ℕ) → length (filter (has_marker x n) now) + length (filter (has_marker x n) (listed gone)) ≡ length (filter (has_marker x n) was) + length (filter (has_marker x n) (listed come))) where
    -- an entry counts for its tenant
    owned : (x : Octets) (n : ℕ) (e : Option VersionRow) → AllByRecursion (λ v. at v ≡ true) (listed e) → length (filter (has_marker x n) (listed e)) ≡ cond (bytes_eq x tenant) (marked n e) 0
    owned x n None its = elim (bytes_eq x tenant) as (λ b. length (filter (has_marker x n) []) ≡ cond b 0 0) [ true ↦ refl | false ↦ refl ]
    owned x n (Some v) its = ap (λ b. length (cond (b && int_eq (pos v.marker) (pos n)) (v ∷ []) [])) (ap (λ t. bytes_eq t x) (same_bytes v.tenant tenant (and_parts _ _ its.0).0) ∙ bytes_swap tenant x) ∙ go (bytes_eq x tenant) (int_eq (pos v.marker) (pos n))
      where
        go : (a b : Bool) → length (cond (a && b) (v ∷ []) []) ≡ cond a (cond b 1 0) 0
        go true true = refl
        go true false = refl
        go false b = refl

    entries_turned : (x : Octets) (n : ℕ) → length (filter (has_marker x n) now) + cond (bytes_eq x tenant) (marked n gone) 0 ≡ length (filter (has_marker x n) was) + cond (bytes_eq x tenant) (marked n come) 0
    entries_turned x n = let a = counts x n in let b = owned x n gone their_gone in let c = owned x n come their_come in omega (arith, a, b, c)

    pub tallies_turned : (ts : List TenantRow) → map (tally_of now) ts ≡ update_where (is_tally tenant) (recounted (marked 0 come, marked 0 gone) (marked 1 come, marked 1 gone) (marked 0 p, marked 0 o)) (map (tally_of was) ts)
    tallies_turned [] = refl
    tallies_turned (t ∷ ts) = ap₂ ◌∷◌ (each ∙ go b (tally_of was t)) (tallies_turned ts)
      where
        b : Bool
        b = bytes_eq t.tenant tenant

        change : TallyRow → TallyRow
        change = recounted (marked 0 come, marked 0 gone) (marked 1 come, marked 1 gone) (marked 0 p, marked 0 o)

        turn : Bool → TallyRow → TallyRow
        turn b u = record { tenant = u.tenant; versions = cond b (change u).versions u.versions; markers = cond b (change u).markers u.markers; objects = cond b (change u).objects u.objects }

        each : tally_of now t ≡ turn b (tally_of was t)
        each = λ i. record {
          tenant = t.tenant;
          versions = turned_sum b (length (filter (has_marker t.tenant 0) now)) (length (filter (has_marker t.tenant 0) was)) (marked 0 come) (marked 0 gone) (entries_turned t.tenant 0) i;
          markers = turned_sum b (length (filter (has_marker t.tenant 1) now)) (length (filter (has_marker t.tenant 1) was)) (marked 1 come) (marked 1 gone) (entries_turned t.tenant 1) i;
          objects = turned_sum b (length (current_versions t.tenant now)) (length (current_versions t.tenant was)) (marked 0 p) (marked 0 o) (objects_turned t.tenant) i;
        }

        go : (b : Bool) (u : TallyRow) → turn b u ≡ cond b (change u) u
        go true u = refl
        go false u = refl

-- ---- a tally that is set to what it is to be is changed so

module _ (tenant : Octets) (vs : List VersionRow) (versions markers objects : ℕ × ℕ) (a b c : ℕ) (is_a : a + versions.1 ≡ length (filter (has_marker tenant 0) vs) + versions.0)
    (is_b : b + markers.1 ≡ length (filter (has_marker tenant 1) vs) + markers.0) (is_c : c + objects.1 ≡ length (current_versions tenant vs) + objects.0) where
  changed_so : (after before : ℕ) (by : ℕ × ℕ) → after + by.1 ≡ before + by.0 → pos after ≡ pos before +ℤ pos by.0 -ℤ pos by.1
  changed_so after before by is = turned_sum true after before by.0 by.1 is

  own : (t : TenantRow) → t.tenant ≡ tenant → set_to a b c (tally_of vs t) ≡ recounted versions markers objects (tally_of vs t)
  own t is = subst (λ x. set_to a b c (tally_of vs (record t { tenant = x })) ≡ recounted versions markers objects (tally_of vs (record t { tenant = x }))) (sym is) (λ i. record {
    tenant = tenant;
    versions = changed_so a (length (filter (has_marker tenant 0) vs)) versions is_a i;
    markers = changed_so b (length (filter (has_marker tenant 1) vs)) markers is_b i;
    objects = changed_so c (length (current_versions tenant vs)) objects is_c i;
  })

  pub set_recounted : (ts : List TenantRow) → update_where (is_tally tenant) (set_to a b c) (map (tally_of vs) ts) ≡ update_where (is_tally tenant) (recounted versions markers objects) (map (tally_of vs) ts)
  set_recounted [] = refl
  set_recounted (t ∷ ts) = ap₂ ◌∷◌ (elim (cases_Bool (bytes_eq t.tenant tenant)) [
    | inl is ↦ ap (λ u. cond (bytes_eq t.tenant tenant) u (tally_of vs t)) (own t (same_bytes t.tenant tenant is))
    | inr not ↦ ap (λ d. cond d (set_to a b c (tally_of vs t)) (tally_of vs t)) not ∙ sym (ap (λ d. cond d (recounted versions markers objects (tally_of vs t)) (tally_of vs t)) not)
  ]) (set_recounted ts)

-- ---- entries of a key come and go

module _ (tenant bucket okey : Octets) where
  abbrev key : VersionRow → Bool
  key = is_at tenant bucket okey

  -- its entries without those that pass a test, and with one more
  here_less : (m : VersionRow → Bool) (was : List VersionRow) → filter key (delete_where m was) ≡ delete_where m (filter key was)
  here_less m was = filters_swap key (λ v. not (m v)) was

  here_more : (was : List VersionRow) (v : VersionRow) → key v ≡ true → filter key (was ++ v ∷ []) ≡ filter key was ++ v ∷ []
  here_more was v on = filter-append key was (v ∷ []) ∙ ap (λ b. filter key was ++ cond b (v ∷ []) []) on

  -- the others stay
  others_less : (m : VersionRow → Bool) → ((v : VersionRow) → m v ≡ true → key v ≡ true) → (was : List VersionRow) → delete_where key (delete_where m was) ≡ delete_where key was
  others_less m only was = filter-filter (λ v. not (key v)) (λ v. not (m v)) (λ v off. ap not (false_from_ne_true (m v) (λ on. both_ways _ (not-true _ off) (only v on)))) was

  others_more : (was : List VersionRow) (v : VersionRow) → key v ≡ true → delete_where key (was ++ v ∷ []) ≡ delete_where key was
  others_more was v on = filter-append (λ u. not (key u)) was (v ∷ []) ∙ ap (λ b. delete_where key was ++ cond (not b) (v ∷ []) []) on ∙ append-nil _

  -- those that go are of the key
  gone_here : (m : VersionRow → Bool) → ((v : VersionRow) → m v ≡ true → key v ≡ true) → (was : List VersionRow) (gone : Option VersionRow) → filter m was ≡ listed gone → AllByRecursion (λ v. key v ≡ true) (listed gone)
  gone_here m only was went is = subst (AllByRecursion (λ v. key v ≡ true)) is (all_weaker _ _ only (filter m was) (all_pass m was))

  -- a new entry comes
  pub tallies_added : (was : List VersionRow) (v : VersionRow) (o : Option VersionRow) → key v ≡ true → AllByRecursion (λ u. int_lt (pos u.seq) (pos v.seq) ≡ true) (filter key was) → Newest (filter key was) o
      → (ts : List TenantRow) → map (tally_of (was ++ v ∷ [])) ts ≡ update_where (is_tally tenant) (recounted (marked 0 (Some v), 0) (marked 1 (Some v), 0) (marked 0 (Some v), marked 0 o)) (map (tally_of was) ts)
  tallies_added was v o on older newest = tallies_turned tenant bucket okey was (was ++ v ∷ []) (others_more was v on) o (Some v) newest (subst (λ l. IsNewest l v) (sym (here_more was v on)) (newest_added (filter key was) v older))
      None (Some v) tt (on, tt) (λ x n. let a = many_last (has_marker x n) was v in let b = many_last (has_marker x n) [] v in omega (arith, a, b))

  -- one goes
  pub tallies_deleted : (was : List VersionRow) (m : VersionRow → Bool) (gone o p : Option VersionRow) → ((v : VersionRow) → m v ≡ true → key v ≡ true) → filter m was ≡ listed gone → Newest (filter key was) o → Newest (delete_where m (filter key was)) p
      → (ts : List TenantRow) → map (tally_of (delete_where m was)) ts ≡ update_where (is_tally tenant) (recounted (0, marked 0 gone) (0, marked 1 gone) (marked 0 p, marked 0 o)) (map (tally_of was) ts)
  tallies_deleted was m gone o p only is newest next = tallies_turned tenant bucket okey was (delete_where m was) (others_less m only was) o p newest (subst (λ l. Newest l p) (sym (here_less m was)) next)
      gone None (gone_here m only was gone is) tt (λ x n. let a = many_parted (has_marker x n) m was in let b = ap (λ l. length (filter (has_marker x n) l)) is in omega (arith, a, b))

  -- one goes, and a new one comes
  pub tallies_replaced : (was : List VersionRow) (m : VersionRow → Bool) (v : VersionRow) (gone o : Option VersionRow) → key v ≡ true → ((u : VersionRow) → m u ≡ true → key u ≡ true) → filter m was ≡ listed gone
      → AllByRecursion (λ u. int_lt (pos u.seq) (pos v.seq) ≡ true) (filter key was) → Newest (filter key was) o
      → (ts : List TenantRow) → map (tally_of (delete_where m was ++ v ∷ [])) ts ≡ update_where (is_tally tenant) (recounted (marked 0 (Some v), marked 0 gone) (marked 1 (Some v), marked 1 gone) (marked 0 (Some v), marked 0 o)) (map (tally_of was) ts)
  tallies_replaced was m v gone o on only is older newest = tallies_turned tenant bucket okey was (delete_where m was ++ v ∷ []) (others_more (delete_where m was) v on ∙ others_less m only was) o (Some v) newest
      (subst (λ l. IsNewest l v) (sym (here_more (delete_where m was) v on ∙ ap (λ l. l ++ v ∷ []) (here_less m was))) (newest_added (delete_where m (filter key was)) v (all-filter _ (λ u. not (m u)) (filter key was) older)))
      gone (Some v) (gone_here m only was gone is) (on, tt) (λ x n.
      let a = many_last (has_marker x n) (delete_where m was) v in
      let b = many_last (has_marker x n) [] v in
      let c = many_parted (has_marker x n) m was in
      let d = ap (λ l. length (filter (has_marker x n) l)) is in
      omega (arith, a, b, c, d))

-- ---- all that is kept, once entries of a key come and go

own_key : (v : VersionRow) → is_at v.tenant v.bucket v.okey v ≡ true
own_key v = and_from _ _ (bytes_eq_refl v.tenant) (and_from _ _ (bytes_eq_refl v.bucket) (bytes_eq_refl v.okey))

module _ (t : Tables) where
  -- the entries of a key
  abbrev pub at_key : Octets → Octets → Octets → List VersionRow
  at_key tenant bucket okey = filter (is_at tenant bucket okey) t.versions

  abbrev Older : VersionRow → Type 0
  Older v = AllByRecursion (λ (u : VersionRow). int_lt (pos u.seq) (pos v.seq) ≡ true) (at_key v.tenant v.bucket v.okey)

  module _ (v : VersionRow) (o : Option VersionRow) (older : Older v) (newest : Newest (at_key v.tenant v.bucket v.okey) o) where
    pub kept_version_added : totals_of (record t { versions = t.versions ++ v ∷ [] }) ≡ tally_changed v.tenant (marked 0 (Some v), 0) (marked 1 (Some v), 0) (marked 0 (Some v), marked 0 o) (used_changed v.tenant v.size 0 (totals_of t))
    kept_version_added = totals_version_added t v ∙ ap (λ l. record (used_changed v.tenant v.size 0 (totals_of t)) { tallies = l }) (tallies_added v.tenant v.bucket v.okey t.versions v o (own_key v) older newest t.tenants)

    pub kept_marker_added : v.size ≡ 0 → totals_of (record t { versions = t.versions ++ v ∷ [] }) ≡ tally_changed v.tenant (marked 0 (Some v), 0) (marked 1 (Some v), 0) (marked 0 (Some v), marked 0 o) (totals_of t)
    kept_marker_added none = totals_marker_added t v none ∙ ap (λ l. record (totals_of t) { tallies = l }) (tallies_added v.tenant v.bucket v.okey t.versions v o (own_key v) older newest t.tenants)

    pub kept_version_replaced : (m : VersionRow → Bool) (gone : Option VersionRow) (less : ℕ) → ((u : VersionRow) → m u ≡ true → is_at v.tenant v.bucket v.okey u ≡ true) → filter m t.versions ≡ listed gone
        → sum_by (λ (u : VersionRow). u.size) (filter m t.versions) ≡ less
        → totals_of (record t { versions = delete_where m t.versions ++ v ∷ [] })
        ≡ tally_changed v.tenant (marked 0 (Some v), marked 0 gone) (marked 1 (Some v), marked 1 gone) (marked 0 (Some v), marked 0 o) (used_changed v.tenant v.size less (totals_of t))
    kept_version_replaced m gone less only is held = totals_version_replaced t m v less (λ u on. same_bytes u.tenant v.tenant (and_parts _ _ (only u on)).0) held
        ∙ ap (λ l. record (used_changed v.tenant v.size less (totals_of t)) { tallies = l }) (tallies_replaced v.tenant v.bucket v.okey t.versions m v gone o (own_key v) only is older newest t.tenants)

  pub kept_version_deleted : (tenant bucket okey : Octets) (m : VersionRow → Bool) (gone o p : Option VersionRow) (less : ℕ) → ((v : VersionRow) → m v ≡ true → is_at tenant bucket okey v ≡ true) → filter m t.versions ≡ listed gone
      → sum_by (λ (u : VersionRow). u.size) (filter m t.versions) ≡ less → Newest (at_key tenant bucket okey) o → Newest (delete_where m (at_key tenant bucket okey)) p
      → totals_of (record t { versions = delete_where m t.versions }) ≡ tally_changed tenant (0, marked 0 gone) (0, marked 1 gone) (marked 0 p, marked 0 o) (used_changed tenant 0 less (totals_of t))
  kept_version_deleted tenant bucket okey m gone o p less only is held newest next = totals_version_deleted t m tenant less (λ u on. same_bytes u.tenant tenant (and_parts _ _ (only u on)).0) held
      ∙ ap (λ l. record (used_changed tenant 0 less (totals_of t)) { tallies = l }) (tallies_deleted tenant bucket okey t.versions m gone o p only is newest next t.tenants)

-- ---- tenants come, and their other numbers change

pub tallies_named : (m : TenantRow → Bool) (g : TenantRow → TenantRow) → ((t : TenantRow) → (g t).tenant ≡ t.tenant) → (vs : List VersionRow) (ts : List TenantRow) → map (tally_of vs) (update_where m g ts) ≡ map (tally_of vs) ts
tallies_named m g named vs [] = refl
tallies_named m g named vs (t ∷ ts) = ap₂ ◌∷◌ (elim (m t) as (λ b. tally_of vs (cond b (g t) t) ≡ tally_of vs t) [ true ↦ ap (λ n. tally_of vs (record t { tenant = n })) (named t) | false ↦ refl ]) (tallies_named m g named vs ts)

pub tallies_listed : (tenant : Octets) (vs : List VersionRow) (ts : List TenantRow) → list_any (is_tally tenant) (map (tally_of vs) ts) ≡ list_any (is_tenant tenant) ts
tallies_listed tenant vs [] = refl
tallies_listed tenant vs (t ∷ ts) = ap (λ b. is_tenant tenant t || b) (tallies_listed tenant vs ts)

pub totals_tenant_changed : (t : Tables) (m : TenantRow → Bool) (g : TenantRow → TenantRow) → ((x : TenantRow) → (g x).tenant ≡ x.tenant) → totals_of (record t { tenants = update_where m g t.tenants }) ≡ totals_of t
totals_tenant_changed t m g named = ap (λ l. record (totals_of t) { tallies = l }) (tallies_named m g named t.versions t.tenants)

pub totals_tenant_added : (t : Tables) (x : TenantRow) → totals_of (record t { tenants = t.tenants ++ x ∷ [] }) ≡ tallied (λ l. l ++ tally_of t.versions x ∷ []) (totals_of t)
totals_tenant_added t x = ap (λ l. record (totals_of t) { tallies = l }) (map-append (tally_of t.versions) t.tenants (x ∷ []))
