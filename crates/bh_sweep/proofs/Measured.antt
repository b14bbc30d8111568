-- What all bodies have is what all tenants use: each reference is of one body, each body a version's or a part's, and each of
-- those a tenant's.
use Rattle.std.proofs.Common.{arith, ◌≡◌, ◌+◌, ◌≤◌, ℕ, pos, Bool, true, false, cond, List, [], ◌∷◌, ◌++◌, length, map, filter, sum_by, Option, Some, None, option_map, Ordering, refl, sym, ap, ap₂, ◌∙◌, subst}
use Rattle.std.specs.Cmp.{IsTotalOrder, int_cmp_total, on_total}
use Rattle.std.specs.List.{AllByRecursion, list_any}
use Rattle.std.specs.Option.{option_map_or}
use Rattle.std.proofs.lemmas.List.{length-map, length-append}
use Rattle.std.proofs.lemmas.List.Concat.{length-flat_map}
use Rattle.std.proofs.lemmas.List.Elements.{filter-append}
use Rattle.std.proofs.lemmas.List.Sorted.{sum_by-IsPermutation}
use Rattle.std.proofs.lemmas.List.Sums.{sum_by-append}
use Rattle.sqlite_keyed.proofs.ListLemmas.{all_both, all-filter, all_weaker, any_from_none, none_from_any, filter-map, filter_none}
use Rattle.sqlite_keyed.proofs.SortLemmas.{IsPermutation-sort_by}
use Rattle.sqlite_typed.specs.Tests.{bytes_eq}
use Rattle.bh_model.specs.State.{Octets}
use Rattle.bh_tables.specs.Bodies.{Name, same_name, body_name, by_place, block_at, ref_name, version_name, part_name, placed, whole}
use Rattle.bh_tables.specs.Typed.{RefRow, TenantRow, VersionRow, PartRow, Tables, bytes_used}
use Rattle.bh_view.specs.Bodies.{HasBodies, IsResolved, bodies_of, bodies_in}
use Rattle.bh_view.specs.Grouped.{IsKey, HasUnique, Refers, first, matching, same_number}
use Rattle.bh_view.specs.Sound.{IsSound, IsVersionRow, IsPartRow}
use Rattle.bh_view.specs.View.{TenantRows, latest_of, rows_of, state_of}
use Rattle.bh_view.proofs.BodyLemmas.{placed_measured}
use Rattle.bh_view.proofs.FactLemmas.{all_first, none_first}
use Rattle.bh_view.proofs.FilterLemmas.{filter_both, first_passes}
use Rattle.bh_view.proofs.GroupedLemmas.{get-keyed, is_itself}
use Rattle.bh_view.proofs.Keys.{octets, numbers}
use Rattle.bh_view.proofs.NameLemmas.{names, name_swap, none_both, none_either, none_pass, unnamed_each, each_unnamed}
use Rattle.bh_view.proofs.ObjectLemmas.{sum_map}
use Rattle.bh_view.proofs.TenantChanges.{no_tenant_rows, absent_rows}
use Rattle.bh_view.proofs.TotalLemmas.{keyed_total, total_is, sum_by_add, sum_by_agree}
use Rattle.bh_view.proofs.ViewLemmas.{view_is}
use Rattle.bh_storage.specs.Reports.{store_counts}
use Rattle.bh_sweep.specs.Counted.{rows_counted}

-- ---- by key

-- what the rows of another table have, each of which names a row of this one, is what the rows that name each have
by_parents : {K A B : Type 0} {R : K → K → Ordering} {is : K → K → Bool} (k : IsKey R is) (key : A → K) (child : B → K) (w : B → ℕ) (parents : List A) (children : List B) → HasUnique is key parents → Refers is key parents child children
    → sum_by (λ a. sum_by w (matching is child (key a) children)) parents ≡ sum_by w children
by_parents {K = K} {A = A} {is = is} k key child w parents children one named =
    sym (keyed_total k (λ (n : ℕ). n) key (λ q _. sum_by w (matching is child q children)) (λ a. sum_by w (matching is child (key a) children)) (λ a. refl) parents one)
    ∙ total_is k (λ (n : ℕ). n) child w _ children (λ q. ap (λ o. option_map_or (λ (n : ℕ). n) o 0) (get-keyed k key (λ q _. sum_by w (matching is child q children)) parents q) ∙ at q (first (matching is key q parents)) refl)
  where
    at : (q : K) (o : Option A) → first (matching is key q parents) ≡ o → option_map_or (λ (n : ℕ). n) (option_map (λ (_ : A). sum_by w (matching is child q children)) o) 0 ≡ sum_by w (matching is child q children)
    at q None e = sym (ap (sum_by w) (named q e))
    at q (Some a) e = refl

-- what holds of the rows of each key holds of all
all_by_key : {K A : Type 0} {R : K → K → Ordering} {is : K → K → Bool} (k : IsKey R is) (key : A → K) (P : A → Type 0) (rows : List A) → ((q : K) → AllByRecursion P (matching is key q rows)) → AllByRecursion P rows
all_by_key k key P [] each = tt
all_by_key {is = is} k key P (r ∷ rs) each = (
  (subst (λ b. AllByRecursion P (cond b (r ∷ matching is key (key r) rs) (matching is key (key r) rs))) (is_itself k (key r)) (each (key r))).0,
  all_by_key k key P rs (λ q. elim (is (key r) q) as (λ b. AllByRecursion P (cond b (r ∷ matching is key q rs) (matching is key q rs)) → AllByRecursion P (matching is key q rs)) [ true ↦ λ all. all.1 | false ↦ λ all. all ] (each q)),
)

place_total : IsTotalOrder by_place
place_total = on_total (λ (r : RefRow). pos r.place) int_cmp_total

abbrev ref_size : RefRow → ℕ
ref_size r = r.size

module _ (tables : Tables) (sound : IsSound tables) where
  -- ---- tenants

  absent : (t : Octets) → first (matching bytes_eq (λ (r : TenantRow). r.tenant) t tables.tenants) ≡ None → rows_of t tables ≡ no_tenant_rows
  absent t none = absent_rows tables t sound (view_is tables t ∙ ap (option_map (state_of (rows_of t tables))) none)

  -- what tenants use are the sizes of all versions and parts
  tenants_use : sum_by (λ (t : TenantRow). bytes_used tables.versions tables.parts t.tenant) tables.tenants ≡ sum_by (λ (v : VersionRow). v.size) tables.versions + sum_by (λ (p : PartRow). p.size) tables.parts
  tenants_use =
      sum_by_add (λ (t : TenantRow). sum_by (λ (v : VersionRow). v.size) (matching bytes_eq (λ v. v.tenant) t.tenant tables.versions)) (λ t. sum_by (λ (p : PartRow). p.size) (matching bytes_eq (λ p. p.tenant) t.tenant tables.parts)) tables.tenants
      ∙ ap₂ ◌+◌
      (by_parents octets (λ (t : TenantRow). t.tenant) (λ (v : VersionRow). v.tenant) (λ v. v.size) tables.tenants tables.versions (λ t. (sound.tenants t).tenants.one) (λ t none. ap (λ (r : TenantRows). r.versions) (absent t none)))
      (by_parents octets (λ (t : TenantRow). t.tenant) (λ (p : PartRow). p.tenant) (λ p. p.size) tables.tenants tables.parts (λ t. (sound.tenants t).tenants.one) (λ t none. ap (λ (r : TenantRows). r.parts) (absent t none)))

  -- ---- names of bodies, those of markers among them, which have none

  abbrev all_names : List Name
  all_names = map version_name tables.versions ++ map part_name tables.parts

  abbrev versions_at : Name → List VersionRow
  versions_at q = filter (λ v. same_name (version_name v) q) tables.versions

  abbrev parts_at : Name → List PartRow
  parts_at q = filter (λ p. same_name (part_name p) q) tables.parts

  versions_there : (q : Name) → filter (λ (v : VersionRow). same_number v.seq q.1) (rows_of q.0 tables).versions ≡ versions_at q
  versions_there q = filter_both (λ (v : VersionRow). bytes_eq v.tenant q.0) (λ v. same_number v.seq q.1) tables.versions

  parts_there : (q : Name) → filter (λ (p : PartRow). same_number p.body q.1) (rows_of q.0 tables).parts ≡ parts_at q
  parts_there q = filter_both (λ (p : PartRow). bytes_eq p.tenant q.0) (λ p. same_number p.body q.1) tables.parts

  -- where a part has the name, no version has it
  no_version : (q : Name) (p : PartRow) → first (parts_at q) ≡ Some p → versions_at q ≡ []
  no_version q p there =
      let mine = rows_of q.0 tables in
      let found = ap first (parts_there q) ∙ there in
      let apart = all_first _ _ p found (all-filter _ (λ (x : PartRow). same_number x.body q.1) mine.parts (sound.tenants q.0).parts.apart) in
      let same : p.body ≡ q.1 = (numbers.decides p.body q.1).0 (first_passes (λ (x : PartRow). same_number x.body q.1) mine.parts p found) in
      sym (versions_there q) ∙ filter_none _ mine.versions (none_from_any _ mine.versions (ap (λ n. list_any (λ (v : VersionRow). same_number v.seq n) mine.versions) (sym same) ∙ apart))

  one_name : HasUnique same_name (λ (n : Name). n) all_names
  one_name q =
      subst (λ n. n ≤ 1) (sym (
      ap length (filter-append (λ n. same_name n q) (map version_name tables.versions) (map part_name tables.parts))
      ∙ length-append (filter (λ n. same_name n q) (map version_name tables.versions)) (filter (λ n. same_name n q) (map part_name tables.parts))
      ∙ ap₂ ◌+◌ (ap length (filter-map (λ n. same_name n q) version_name tables.versions) ∙ length-map (versions_at q) version_name) (ap length (filter-map (λ n. same_name n q) part_name tables.parts) ∙ length-map (parts_at q) part_name)
      )) (go (parts_at q) refl)
    where
      few : length (versions_at q) ≤ 1
      few = subst (λ l. length l ≤ 1) (versions_there q) ((sound.tenants q.0).versions.one_seq q.1)

      few_parts : length (parts_at q) ≤ 1
      few_parts = subst (λ l. length l ≤ 1) (parts_there q) ((sound.tenants q.0).parts.one_body q.1)

      go : (ps : List PartRow) → parts_at q ≡ ps → length (versions_at q) + length ps ≤ 1
      go [] e = omega (arith, few)
      go (p ∷ ps) e =
          let none = ap length (no_version q p (ap first e)) in
          let most : length (p ∷ ps) ≤ 1 = subst (λ l. length l ≤ 1) e few_parts in
          omega (arith, none, most)

  module _ (bodies : HasBodies tables) (resolved : IsResolved tables) where
    -- the bytes of a body's references
    abbrev referred : Name → ℕ
    referred q = sum_by ref_size (matching same_name body_name q tables.refs)

    named_once : Refers same_name (λ (n : Name). n) all_names body_name tables.refs
    named_once q none =
        let nowhere = any_from_none (same_name q) all_names (all_weaker (λ n. same_name n q ≡ false) (λ n. same_name q n ≡ false) (λ n e. name_swap q n ∙ e) all_names (none_pass (λ n. same_name n q) all_names (none_first _ none))) in
        let both = none_both (same_name q) (map version_name tables.versions) (map part_name tables.parts) nowhere in
        bodies.owned q (none_either (same_name q) (bodies_of tables.versions) (map part_name tables.parts)
        (each_unnamed version_name q _ (all-filter _ (λ (v : VersionRow). same_number v.marker 0) tables.versions (unnamed_each version_name q tables.versions both.0))) both.1)

    -- a body is as long as its references say
    whole_length : (q : Name) → length (whole tables.refs tables.blocks q) ≡ referred q
    unfolding whole
    whole_length q =
        length-flat_map (λ (r : RefRow). block_at tables.blocks (ref_name r)) (placed tables.refs q)
        ∙ sym (sum_by_agree ref_size (λ (r : RefRow). length (block_at tables.blocks (ref_name r))) (placed tables.refs q) (placed_measured (bodies_in tables) tables.refs tables.blocks q bodies))
        ∙ sym (sum_by-IsPermutation ref_size _ _ (IsPermutation-sort_by by_place place_total (matching same_name body_name q tables.refs)))

    version_sizes : AllByRecursion (λ (v : VersionRow). v.size ≡ referred (version_name v)) tables.versions
    version_sizes = all_both (λ (v : VersionRow). v.size ≡ length v.bytes) (λ v. v.bytes ≡ whole tables.refs tables.blocks (version_name v)) (λ v. v.size ≡ referred (version_name v)) (λ v size bytes. size ∙ ap length bytes ∙ whole_length (version_name v))
        tables.versions (all_by_key octets (λ (v : VersionRow). v.tenant) (λ v. v.size ≡ length v.bytes) tables.versions (λ t. all_weaker (IsVersionRow (latest_of tables)) (λ v. v.size ≡ length v.bytes) (λ v good. good.size) (rows_of t tables).versions (sound.tenants t).versions.each)) resolved.versions

    part_sizes : AllByRecursion (λ (p : PartRow). p.size ≡ referred (part_name p)) tables.parts
    part_sizes = all_both (λ (p : PartRow). p.size ≡ length p.bytes) (λ p. p.bytes ≡ whole tables.refs tables.blocks (part_name p)) (λ p. p.size ≡ referred (part_name p)) (λ p size bytes. size ∙ ap length bytes ∙ whole_length (part_name p))
        tables.parts (all_by_key octets (λ (p : PartRow). p.tenant) (λ p. p.size ≡ length p.bytes) tables.parts (λ t. all_weaker (IsPartRow (latest_of tables)) (λ p. p.size ≡ length p.bytes) (λ p good. good.size) (rows_of t tables).parts (sound.tenants t).parts.each)) resolved.parts

    -- all references
    bodies_have : sum_by (λ (v : VersionRow). v.size) tables.versions + sum_by (λ (p : PartRow). p.size) tables.parts ≡ sum_by ref_size tables.refs
    bodies_have =
        ap₂ ◌+◌ (sum_by_agree (λ (v : VersionRow). v.size) (λ v. referred (version_name v)) tables.versions version_sizes ∙ sym (sum_map referred version_name tables.versions))
        (sum_by_agree (λ (p : PartRow). p.size) (λ p. referred (part_name p)) tables.parts part_sizes ∙ sym (sum_map referred part_name tables.parts))
        ∙ sym (sum_by-append referred (map version_name tables.versions) (map part_name tables.parts))
        ∙ by_parents names (λ (n : Name). n) body_name ref_size all_names tables.refs one_name named_once

    all_referred : sum_by (λ (t : TenantRow). bytes_used tables.versions tables.parts t.tenant) tables.tenants ≡ sum_by (λ (r : RefRow). length (block_at tables.blocks (ref_name r))) tables.refs
    all_referred = tenants_use ∙ bodies_have ∙ sum_by_agree ref_size (λ (r : RefRow). length (block_at tables.blocks (ref_name r))) tables.refs bodies.measured

    pub counts_are : rows_counted tables ≡ store_counts tables
    counts_are = ap (λ n. record (store_counts tables) { referred = n }) all_referred
