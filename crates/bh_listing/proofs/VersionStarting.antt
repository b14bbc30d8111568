-- A bucket's rows in their order, the row of an id among them, and where a listing of them begins after a marker.
use Rattle.std.proofs.Common.{◌≡◌, ℕ, zero, suc, ◌≤◌, Bool, true, false, cond, ◌&&◌, ◌==◌, List, [], ◌∷◌, length, map, filter, take, Option, Some, None, option_map, refl, sym, ap, subst, ◌∙◌, arith}
use Rattle.std.specs.List.{AllByRecursion, starts_with}
use Rattle.std.proofs.lemmas.Bool.Decides.{nat_tests}
use Rattle.sqlite_keyed.specs.Lists.{sort_by}
use Rattle.sqlite_keyed.proofs.ListLemmas.{filter_none}
use Rattle.sqlite_typed.specs.Tests.{bytes_eq}
use Rattle.bh_types.specs.declared.id.VersionId.{VersionId}
use Rattle.bh_types.specs.declared.id.VersionId.TheVariants.{Null, Numbered as Given}
use Rattle.bh_types.specs.declared.wanted.Wanted.{Wanted}
use Rattle.bh_types.specs.declared.wanted.Wanted.TheVariants.{Current, Named, Unknown}
use Rattle.bh_model.specs.State.{Octets}
use Rattle.bh_model.specs.Entries.{same_id}
use Rattle.bh_model.specs.Pages.{Listed, VersionItem, begins, same, after_version, versions_after, entries_after, passes_version}
use Rattle.bh_tables.specs.Typed.{VersionRow, Tables}
use Rattle.bh_view.specs.Grouped.{first, same_number, HasUnique}
use Rattle.bh_view.specs.Sound.{IsSound}
use Rattle.bh_view.specs.View.{rows_of, id_of}
use Rattle.bh_view.specs.Wanted.{has_row_id, wanted_row}
use Rattle.bh_view.proofs.FilterLemmas.{single, none_mapped}
use Rattle.bh_view.proofs.FindLemmas.{first_find}
use Rattle.bh_view.proofs.SortLemmas.{up-sort_by, sort_by-filter, sorted_single}
use Rattle.bh_view.proofs.VersionChanges.{one_version, same_ids}
use Rattle.bh_pages.specs.Gathered.{start_of}
use Rattle.bh_pages.specs.Seen.{token_of}
use Rattle.bh_pages.specs.Versions.{Numbered, row_key, at_key, is_from, nothing_after, versions_to_come, items_next, id_in}
use Rattle.bh_pages.specs.declared.gathering.PageAsked.{PageAsked}
use Rattle.bh_pages.proofs.Bytes.{same_is, none_some, some_same}
use Rattle.bh_pages.specs.Versions.{IsStrict}
use Rattle.bh_pages.proofs.VersionRows.{filter_swap, filter_twice}
use Rattle.bh_pages.proofs.VersionLists.{start_first, start_past, start_one, not_under, not_among}
use Rattle.bh_listing.specs.Rows.{version_order}
use Rattle.bh_listing.specs.Versions.{row_numbered, own_rows, Beginning, past_marker, past_entry, marked, listed_from, versions_of_rows}
use Rattle.bh_listing.proofs.ListLemmas.{order_total}
use Rattle.bh_listing.proofs.VersionViewed.{strict_rows, rows_tested}

-- what was gathered from a beginning, where the tables stayed
pub gathered_from : (asked : PageAsked) (start : Beginning) (version : Wanted) (t b : Octets) (old middle : Tables) (shown : List (Listed VersionItem)) → middle ≡ old
    → listed_from asked start (own_rows t b old.versions) ≡ versions_of_rows asked version (own_rows t b old.versions)
    → shown ≡ take (suc asked.max) (listed_from asked start (own_rows t b middle.versions)) → shown ≡ take (suc asked.max) (versions_of_rows asked version (own_rows t b old.versions))
gathered_from asked start version t b old middle shown same begins gathered =
    gathered ∙ ap (take (suc asked.max)) (ap (λ (x : Tables). listed_from asked start (own_rows t b x.versions)) same ∙ begins)

-- ---- a text that begins with another

pub starts_begins : (p k : Octets) → starts_with ◌==◌ k p ≡ begins p k
starts_begins [] k = refl
starts_begins (b ∷ p) [] = refl
starts_begins (b ∷ p) (c ∷ k) = ap (λ t. (b == c) && t) (starts_begins p k)

-- a version of a key under the prefix is asked for, or of another
pub marked_there : (prefix : Octets) (token : Option Octets) (version : Wanted) (k : Octets) (id : VersionId) (test : Bool) → token ≡ Some k → version ≡ Named id → test ≡ starts_with ◌==◌ k prefix → test ≡ true
    → Some (k, id) ≡ marked prefix token version
marked_there prefix token version k id test at is tested e =
    sym ((λ i. marked prefix (at i) (is i)) ∙ ap (λ t. cond {A = Option (Octets × VersionId)} t (Some (k, id)) None) (sym (starts_begins prefix k) ∙ sym tested ∙ e))

pub marked_away : (prefix : Octets) (token : Option Octets) (version : Wanted) (k : Octets) (id : VersionId) (test : Bool) → token ≡ Some k → version ≡ Named id → test ≡ starts_with ◌==◌ k prefix → test ≡ false
    → None ≡ marked prefix token version
marked_away prefix token version k id test at is tested e =
    sym ((λ i. marked prefix (at i) (is i)) ∙ ap (λ t. cond {A = Option (Octets × VersionId)} t (Some (k, id)) None) (sym (starts_begins prefix k) ∙ sym tested ∙ e))

-- ---- lists that are not longer than one

short_filter : {X : Type 0} (p : X → Bool) (l : List X) → length l ≤ 1 → length (filter p l) ≤ 1
short_filter p [] short = short
short_filter p (x ∷ []) short = elim (p x) as (λ t. length (cond t (x ∷ []) []) ≤ 1) [ true ↦ short | false ↦ omega arith ]
short_filter p (x ∷ y ∷ l) short = absurd (omega (arith, short))

none_first : {X : Type 0} (l : List X) → first l ≡ None → l ≡ []
none_first [] h = refl
none_first (x ∷ l) h = absurd (none_some (sym h))

same_ids_in : (n : ℕ) → id_in n ≡ id_of n
same_ids_in zero = refl
same_ids_in (suc n) = refl

module _ (tables : Tables) (t b : Octets) (sound : IsSound tables) where
  abbrev own : List VersionRow
  own = filter (λ (v : VersionRow). bytes_eq v.tenant t && bytes_eq v.bucket b) tables.versions

  abbrev rows : List Numbered
  rows = own_rows t b tables.versions

  -- no two have one number
  one_number : HasUnique same_number (λ (v : VersionRow). v.seq) (sort_by version_order own)
  one_number k = subst (λ l. length l ≤ 1) (sym (sym (sort_by-filter version_order order_total numbered own) ∙ sorted_single version_order (filter numbered own) short)) short
    where
      numbered : VersionRow → Bool
      numbered v = same_number v.seq k

      short : length (filter numbered own) ≤ 1
      short = subst (λ l. length l ≤ 1) (filter_swap (λ (v : VersionRow). bytes_eq v.bucket b) numbered (rows_of t tables).versions ∙ ap (filter numbered) (sym (filter_twice (λ (v : VersionRow). bytes_eq v.tenant t) (λ (v : VersionRow). bytes_eq v.bucket b) tables.versions)))
          (short_filter (λ (v : VersionRow). bytes_eq v.bucket b) (filter numbered (rows_of t tables).versions) ((sound.tenants t).versions.one_seq k))

  pub own_strict : IsStrict rows
  own_strict = strict_rows (sort_by version_order own) (up-sort_by version_order order_total own) one_number

  -- ---- the row of an id

  module _ (prefix k : Octets) (begun : begins prefix k ≡ true) (id : VersionId) where
    abbrev its : List VersionRow
    its = filter (has_row_id t b k id) tables.versions

    abbrev under : List Numbered
    under = filter (λ r. begins prefix (row_key r)) rows

    tests : (l : List VersionRow) → AllByRecursion (λ (v : VersionRow). has_row_id t b k id v
        ≡ ((bytes_eq v.tenant t && bytes_eq v.bucket b) && (begins prefix v.okey && (same v.okey k && same_id (id_in v.id) id)))) l
    tests [] = tt
    tests (v ∷ l) = (
      pure (bytes_eq v.tenant t) (bytes_eq v.bucket b) (same v.okey k) (same_id (id_of v.id) id) (begins prefix v.okey) (λ h. ap (begins prefix) (same_is v.okey k h) ∙ begun)
          ∙ ap (λ (x : VersionId). (bytes_eq v.tenant t && bytes_eq v.bucket b) && (begins prefix v.okey && (same v.okey k && same_id x id))) (sym (same_ids_in v.id)),
      tests l,
    )
      where
        pure : (t b e u g : Bool) → (e ≡ true → g ≡ true) → (t && (b && (e && u))) ≡ ((t && b) && (g && (e && u)))
        pure t b e u g h = grind (arith, h)

    of_id : filter (λ r. same_id r.1.id id) (filter (λ r. same (row_key r) k) under) ≡ map row_numbered (sort_by version_order its)
    of_id = sym (rows_tested t b tables.versions (has_row_id t b k id) (λ r. begins prefix (row_key r) && (same (row_key r) k && same_id r.1.id id)) (tests tables.versions)
        ∙ filter_twice (λ r. begins prefix (row_key r)) (λ r. same (row_key r) k && same_id r.1.id id) rows
        ∙ filter_twice (λ r. same (row_key r) k) (λ r. same_id r.1.id id) under)

    -- there is no such row
    none_of_id : wanted_row t b k (Named id) tables.versions ≡ None → after_version (Named id) (items_next None (filter (λ r. same (row_key r) k) under)) ≡ []
    none_of_id none = not_among id (filter (λ r. same (row_key r) k) under) None
        (of_id ∙ ap (λ l. map row_numbered (sort_by version_order l)) (none_first its (first_find (has_row_id t b k id) tables.versions ∙ none)))

    short_its : length its ≤ 1
    short_its = go id refl
      where
        of_number : (n : ℕ) → length (filter (has_row_id t b k (id_of n)) tables.versions) ≤ 1
        of_number n = subst (λ l. length l ≤ 1)
            (one_version t b k n tables.versions ∙ (λ i. filter (λ v. bytes_eq v.tenant t && (bytes_eq v.bucket b && (bytes_eq v.okey k && same_ids v.id n i))) tables.versions))
            ((sound.tenants t).versions.one_id b k n)

        not_zero : (n : ℕ) → same_id (id_of n) (Given 0) ≡ false
        not_zero zero = refl
        not_zero (suc n) = apart (suc n == 0) refl
          where
            apart : (t : Bool) → (suc n == 0) ≡ t → t ≡ false
            apart true e = absurd (grind (arith, nat_tests, e))
            apart false e = refl

        false_last : (a b c d : Bool) → d ≡ false → (a && (b && (c && d))) ≡ false
        false_last a b c d e = grind (arith, e)

        none : (l : List VersionRow) → AllByRecursion (λ (v : VersionRow). has_row_id t b k (Given 0) v ≡ false) l
        none [] = tt
        none (v ∷ l) = (false_last (bytes_eq v.tenant t) (bytes_eq v.bucket b) (bytes_eq v.okey k) (same_id (id_of v.id) (Given 0)) (not_zero v.id), none l)

        go : (i : VersionId) → id ≡ i → length (filter (has_row_id t b k id) tables.versions) ≤ 1
        go Null e = subst (λ i. length (filter (has_row_id t b k i) tables.versions) ≤ 1) (sym e) (of_number 0)
        go (Given zero) e = subst (λ i. length (filter (has_row_id t b k i) tables.versions) ≤ 1) (sym e) (subst (λ (l : List VersionRow). length l ≤ 1) (sym (filter_none (has_row_id t b k (Given 0)) tables.versions (none tables.versions))) (omega arith))
        go (Given (suc n)) e = subst (λ i. length (filter (has_row_id t b k i) tables.versions) ≤ 1) (sym e) (of_number (suc n))

    -- it is the only one
    one_of_id : (v : VersionRow) → wanted_row t b k (Named id) tables.versions ≡ Some v → filter (λ r. same_id r.1.id id) (filter (λ r. same (row_key r) k) under) ≡ row_numbered v ∷ []
    one_of_id v is = of_id ∙ ap (λ l. map row_numbered (sort_by version_order l)) (single its short_its v (first_find (has_row_id t b k id) tables.versions ∙ is))

  -- ---- where a page begins

  module _ (prefix delimiter : Octets) where
    abbrev below : List Numbered
    below = filter (λ r. begins prefix (row_key r)) rows

    abbrev listing : Option Octets → Wanted → List (Listed VersionItem)
    listing token version =
        entries_after prefix delimiter (λ (v : VersionItem). v.key) (passes_version token) (versions_after (option_map (λ key. record { key = key; version = version }) token) (items_next None rows))

    abbrev come_from : Option Octets → Beginning → List (Listed VersionItem)
    come_from token start = versions_to_come prefix delimiter token (nothing_after start.key) (filter (is_from start.place) below)

    abbrev past_all : Option Octets → Beginning
    past_all token = record { place = at_key (start_of prefix token); key = None }

    -- nothing of the marker's own key is left
    none_left : (token : Option Octets) (version : Wanted) → ((k : Octets) → token ≡ Some k → after_version version (items_next None (filter (λ r. same (row_key r) k) below)) ≡ [])
        → come_from token (past_all token) ≡ listing token version
    none_left None version none = sym (start_first prefix delimiter rows own_strict)
    none_left (Some k) version none = sym (start_past prefix delimiter rows own_strict k version (none k refl))

    -- no version of a key under the prefix is asked for
    unmarked : (token : Option Octets) (version : Wanted) → marked prefix token version ≡ None → come_from token (past_all token) ≡ listing token version
    unmarked token version is = none_left token version (λ k at. none token version k is at)
      where
        away : (k : Octets) (id : VersionId) (t : Bool) → begins prefix k ≡ t → cond {A = Option (Octets × VersionId)} t (Some (k, id)) None ≡ None → filter (λ r. same (row_key r) k) below ≡ []
        away k id true e h = absurd (none_some (sym h))
        away k id false e h = not_under prefix delimiter rows own_strict k e

        none_of : (k : Octets) (version : Wanted) → marked prefix (Some k) version ≡ None → after_version version (items_next None (filter (λ r. same (row_key r) k) below)) ≡ []
        none_of k Current is = refl
        none_of k (Named id) is = ap (λ l. after_version (Named id) (items_next None l)) (away k id (begins prefix k) refl is)
        none_of k Unknown is = refl

        none : (token : Option Octets) (version : Wanted) (k : Octets) → marked prefix token version ≡ None → token ≡ Some k → after_version version (items_next None (filter (λ r. same (row_key r) k) below)) ≡ []
        none None version k is at = absurd (none_some at)
        none (Some j) version k is at = subst (λ x. after_version version (items_next None (filter (λ r. same (row_key r) x) below)) ≡ []) (some_same at) (none_of j version is)

    pub marked_is : (token : Option Octets) (version : Wanted) (k : Octets) (id : VersionId) → marked prefix token version ≡ Some (k, id) → (token ≡ Some k) × (version ≡ Named id) × (begins prefix k ≡ true)
    marked_is None version k id h = absurd (none_some h)
    marked_is (Some j) Current k id h = absurd (none_some h)
    marked_is (Some j) Unknown k id h = absurd (none_some h)
    marked_is (Some j) (Named i) k id h = go (begins prefix j) refl h
      where
        go : (t : Bool) → begins prefix j ≡ t → cond {A = Option (Octets × VersionId)} t (Some (j, i)) None ≡ Some (k, id) → (◌≡◌ {A = Option Octets} (Some j) (Some k)) × (Named i ≡ Named id) × (begins prefix k ≡ true)
        go true e h = let both = some_same h in (ap (λ (p : Octets × VersionId). Some p.0) both, ap (λ (p : Octets × VersionId). Named p.1) both, ap (λ (p : Octets × VersionId). begins prefix p.0) (sym both) ∙ e)
        go false e h = absurd (none_some h)

    -- no version of the key has the id
    missing : (token : Option Octets) (version : Wanted) (k : Octets) (id : VersionId) → marked prefix token version ≡ Some (k, id) → wanted_row t b k (Named id) tables.versions ≡ None
        → come_from token (past_all token) ≡ listing token version
    missing token version k id is none =
        let it = marked_is token version k id is in
        subst (λ o. come_from o (past_all o) ≡ listing o version) (sym it.0) (subst (λ w. come_from (Some k) (past_all (Some k)) ≡ listing (Some k) w) (sym it.1)
        (none_left (Some k) (Named id) (λ j at. subst (λ x. after_version (Named id) (items_next None (filter (λ r. same (row_key r) x) below)) ≡ []) (some_same at) (none_of_id prefix k it.2 id none))))

    -- or one has it
    there : (token : Option Octets) (version : Wanted) (k : Octets) (id : VersionId) → marked prefix token version ≡ Some (k, id) → (v : VersionRow) → wanted_row t b k (Named id) tables.versions ≡ Some v
        → come_from token (past_entry k v.seq) ≡ listing token version
    there token version k id is v found =
        let it = marked_is token version k id is in
        subst (λ o. come_from o (past_entry k v.seq) ≡ listing o version) (sym it.0) (subst (λ w. come_from (Some k) (past_entry k v.seq) ≡ listing (Some k) w) (sym it.1)
        (sym (start_one prefix delimiter rows own_strict k id (row_numbered v) (one_of_id prefix k it.2 id v found))))

  module _ (asked : PageAsked) (version : Wanted) where
    pub begins_unmarked : marked asked.prefix.now (token_of asked) version ≡ None → listed_from asked (past_marker asked) rows ≡ versions_of_rows asked version rows
    begins_unmarked is = unmarked asked.prefix.now asked.delimiter.now (token_of asked) version is

    pub begins_missing : (k : Octets) (id : VersionId) → marked asked.prefix.now (token_of asked) version ≡ Some (k, id) → None ≡ option_map (λ (v : VersionRow). v.seq) (wanted_row t b k (Named id) tables.versions)
        → listed_from asked (past_marker asked) rows ≡ versions_of_rows asked version rows
    begins_missing k id is none = missing asked.prefix.now asked.delimiter.now (token_of asked) version k id is (none_mapped (λ (v : VersionRow). v.seq) (wanted_row t b k (Named id) tables.versions) (sym none))

    pub begins_there : (k : Octets) (id : VersionId) → marked asked.prefix.now (token_of asked) version ≡ Some (k, id) → (seq : ℕ) → Some seq ≡ option_map (λ (v : VersionRow). v.seq) (wanted_row t b k (Named id) tables.versions)
        → listed_from asked (past_entry k seq) rows ≡ versions_of_rows asked version rows
    begins_there k id is seq at = go (wanted_row t b k (Named id) tables.versions) refl at
      where
        go : (o : Option VersionRow) → wanted_row t b k (Named id) tables.versions ≡ o → Some seq ≡ option_map (λ (v : VersionRow). v.seq) o → listed_from asked (past_entry k seq) rows ≡ versions_of_rows asked version rows
        go None found h = absurd (none_some (sym h))
        go (Some v) found h = subst (λ n. listed_from asked (past_entry k n) rows ≡ versions_of_rows asked version rows) (sym (some_same h))
            (there asked.prefix.now asked.delimiter.now (token_of asked) version k id is v found)
