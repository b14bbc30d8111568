-- A version comes or goes, with what its tenant uses: several texts, one after another.
use Rattle.sqlite.specs.Held.{state as database_state}
use Rattle.sqlite_trees.specs.declared.store.Store.{Ghosts}
use Rattle.bh_shelf.specs.declared.shelf.Shelf.{Ghosts as Shelves}
use Rattle.bh_base.specs.declared.connection.Connection.{Connection}
use Rattle.bh_base.specs.Connections.{state, backing}
use Rattle.bh_base.specs.Shown.{named}
use Rattle.bh_base.specs.Placed.{filled_trees}
use Rattle.bh_base.proofs.Obeying.{filled_obeys}
use Rattle.std.proofs.Common.{◌≡◌, ℕ, pos, List, ◌∷◌, [], ◌++◌, Bool, true, false, cond, ◌&&◌, Option, None, Some, length, arith, ◌≤◌, refl, sym, ap, ◌∙◌, subst, filter, find, sum_by}
use Rattle.std.proofs.lemmas.Bool.{and_parts, and_from}
use Rattle.sqlite.specs.Effect.{IsDatabase}
use Rattle.sqlite.specs.State.{State, IsLive}
use Rattle.std.specs.List.{AllByRecursion}
use Rattle.sqlite_keyed.specs.Lists.{update_where, delete_where}
use Rattle.sqlite_keyed.proofs.ListLemmas.{filter-filter}
use Rattle.sqlite_typed.specs.Tests.{bytes_eq}
use Rattle.std.specs.Ordering.{int_eq}
use Rattle.bh_tables.specs.Schema.{Octets, host_schema}
use Rattle.bh_tables.specs.Typed.{Totals, totals_of, used_changed, tally_changed, TenantRow, VersionColumns, VersionRow, Tables, tables_in}
use Rattle.bh_tables.specs.Bodies.{resolved}
use Rattle.bh_tables.specs.Shown.{is_tenant, is_at, is_version}
use Rattle.bh_tables.proofs.AloneLemmas.{listed, version_bytes, version_listed, entries_apart}
use Rattle.bh_tables.proofs.TallyLemmas.{Newest, kept_version_added, kept_marker_added, kept_version_deleted, totals_tenant_changed}
use Rattle.bh_view.specs.Grouped.{first, same_number, HasUnique}
use Rattle.bh_view.proofs.NewestLemmas.{newest_is, newest_without}
use Rattle.bh_base.specs.Layer.{Standing, standing, IsOpen, IsStateClean, IsInside, IsInsideBy, Holds, HoldsBy}
use Rattle.bh_schema.specs.Rows.{entries_at, newest_at}
use Rattle.bh_schema.specs.Tallies.{coming, going, entries_changed, IsNewer}
use Rattle.bh_schema.specs.Written.{without_version, bytes_of_id}
use Rattle.bh_schema.proofs.TallySteps.{marked_so}
use Rattle.bh_base.proofs.Calls.{whole_again}

-- what a text does in the midst of a write
abbrev pub Turned : State → State → (Totals → Totals) → (Tables → Tables) → Type 0
Turned old new after change = IsStateClean new → (sums : Totals) → IsInsideBy sums (standing old) → HoldsBy (after sums) (change (tables_in (standing old).now)) (standing new)

-- two of them
pub then_turned : (a b d : State) (f g : Totals → Totals) (p q : Tables → Tables) → (IsStateClean d → IsStateClean b) → Turned a b f p → Turned b d g q → Turned a d (λ s. g (f s)) (λ t. q (p t))
then_turned a b d f g p q was one two clean sums by =
    let first = one (was clean) sums by in
    let second = two clean (f sums) first.within in
    record { within = second.within; is = second.is ∙ ap q first.is }

-- what is kept is what the tables have again
pub ended : (a d : State) (after : Totals → Totals) (change : Tables → Tables) → (IsStateClean d → IsStateClean a) → (IsStateClean a → IsInside (standing a)) → Turned a d after change
    → (IsStateClean a → after (totals_of (tables_in (standing a).now)) ≡ totals_of (change (tables_in (standing a).now))) → IsStateClean d → Holds (change (tables_in (standing a).now)) (standing d)
ended a d after change was inside turned law clean =
    let before = was clean in
    whole_again (after (totals_of (tables_in (standing a).now))) (change (tables_in (standing a).now)) (standing d) (turned clean (totals_of (tables_in (standing a).now)) (inside before)) (law before)

-- the first text of a write, from a transaction into its midst
abbrev pub Entered : State → State → (Totals → Totals) → (Tables → Tables) → Type 0
Entered old new after change = IsStateClean new → HoldsBy (after (totals_of (tables_in (standing old).now))) (change (tables_in (standing old).now)) (standing new)

-- and another after it
pub then_entered : (a b d : State) (f g : Totals → Totals) (p q : Tables → Tables) → (IsStateClean d → IsStateClean b) → Entered a b f p → Turned b d g q → Entered a d (λ s. g (f s)) (λ t. q (p t))
then_entered a b d f g p q was one two clean =
    let first = one (was clean) in
    let second = two clean (f (totals_of (tables_in (standing a).now))) first.within in
    record { within = second.within; is = second.is ∙ ap q first.is }

pub ended_so : (a d : State) (after : Totals → Totals) (change : Tables → Tables) → (IsStateClean d → IsStateClean a) → Entered a d after change
    → (IsStateClean a → after (totals_of (tables_in (standing a).now)) ≡ totals_of (change (tables_in (standing a).now))) → IsStateClean d → Holds (change (tables_in (standing a).now)) (standing d)
ended_so a d after change was entered law clean = whole_again (after (totals_of (tables_in (standing a).now))) (change (tables_in (standing a).now)) (standing d) (entered clean) (law (was clean))

-- a text that reads only, before it
pub read_first : (a b d : State) (f : Totals → Totals) → (IsStateClean d → (standing b) ≡ (standing a)) → (IsStateClean d → HoldsBy (f (totals_of (tables_in (standing b).now))) (tables_in (standing b).now) (standing d)) → Entered a d f (λ t. t)
read_first a b d f same held clean = subst (λ (x : Standing). HoldsBy (f (totals_of (tables_in x.now))) (tables_in x.now) (standing d)) (same clean) (held clean)

id_here : (tenant bucket okey : Octets) (id : ℕ) (v : VersionRow) → is_version tenant bucket okey id v ≡ true → is_at tenant bucket okey v ≡ true
id_here tenant bucket okey id v is =
    let x = bytes_eq v.tenant tenant in
    let y = bytes_eq v.bucket bucket in
    let z = bytes_eq v.okey okey in
    let last = int_eq (pos v.id) (pos id) in
    let a = and_parts x (y && (z && last)) is in
    let b = and_parts y (z && last) a.1 in
    let c = and_parts z last b.1 in
    and_from x (y && z) a.0 (and_from y z b.0 c.0)

each_passes : (p : VersionRow → Bool) (vs : List VersionRow) → AllByRecursion (λ v. p v ≡ true) (filter p vs)
each_passes p [] = tt
each_passes p (v ∷ vs) = elim (p v) as (λ b. p v ≡ b → AllByRecursion (λ w. p w ≡ true) (cond b (v ∷ filter p vs) (filter p vs))) [ true ↦ λ e. (e, each_passes p vs) | false ↦ λ e. each_passes p vs ] refl

-- ---- the rows of a connection obey the schema

abbrev pub IsObeyed : State → Type 0
IsObeyed s = IsStateClean s → IsInside (standing s) → IsDatabase (standing s).now

-- with the bytes of packs too
pub live_shown : {S P : Type 0} (g : Ghosts S) (k : Shelves P) (c : Connection S P) → IsLive (database_state g c.database) → IsObeyed (state g k c)
unfolding standing IsOpen
live_shown g k c live clean inside =
    let s = database_state g c.database in
    let packs = named (backing k c.packs) s.in_transaction in
    let stored = subst (λ n. IsDatabase (record { schema = n; trees = s.now.trees })) inside.host.schema (live clean.is_open).0 in
    subst (λ n. IsDatabase (record { schema = n; trees = filled_trees packs s.now.trees })) (sym inside.host.schema) (filled_obeys packs s.now inside.host stored)

pub sound_at : (s : State) → IsObeyed s → IsStateClean s → IsInside (standing s) → IsDatabase (record { schema = host_schema; trees = (standing s).now.trees })
sound_at s live clean inside = subst (λ d. IsDatabase (record { schema = d; trees = (standing s).now.trees })) inside.host.schema (live clean inside)

module _ (s : State) (live : IsObeyed s) (clean : IsStateClean s) (inside : IsInside (standing s)) (tenant bucket okey : Octets) where
  abbrev its : Tables
  its = tables_in (standing s).now

  abbrev here : List VersionRow
  here = filter (is_at tenant bucket okey) its.versions

  pub entries_unique : HasUnique same_number (λ (v : VersionRow). v.seq) here
  entries_unique n = entries_apart (totals_of its) (standing s).now (sound_at s live clean inside) inside.host tenant bucket okey n

  pub newest_here : Newest here (newest_at tenant bucket okey its.versions)
  newest_here = newest_is here entries_unique

  pub listed_here : (id : ℕ) → filter (is_version tenant bucket okey id) its.versions ≡ listed (find (is_version tenant bucket okey id) its.versions)
  listed_here id = version_listed (totals_of its) (standing s).now (sound_at s live clean inside) inside.host tenant bucket okey id

  -- so one entry of a key has the id at most
  entry_bytes : (id less : ℕ) → bytes_of_id tenant bucket okey id its ≡ less → sum_by (λ (v : VersionRow). v.size) (filter (is_version tenant bucket okey id) its.versions) ≡ less
  entry_bytes id less held = version_bytes (totals_of its) (standing s).now (sound_at s live clean inside) inside.host tenant bucket okey id ∙ held

  -- those of an id are one at most
  pub few_here : (id : ℕ) → length (filter (is_version tenant bucket okey id) here) ≤ 1
  few_here id = subst (λ l. length l ≤ 1) (sym (filter-filter (is_version tenant bucket okey id) (is_at tenant bucket okey) (id_here tenant bucket okey id) its.versions ∙ listed_here id)) (go (find (is_version tenant bucket okey id) its.versions))
    where
      go : (o : Option VersionRow) → length (listed o) ≤ 1
      go None = omega (arith)
      go (Some v) = omega (arith)

  pub all_here : AllByRecursion (λ v. is_at tenant bucket okey v ≡ true) here
  all_here = each_passes (is_at tenant bucket okey) its.versions

pub still_inside : (a b : State) → standing b ≡ standing a → IsInside (standing a) → IsInside (standing b)
still_inside a b same = subst IsInside (sym same)

-- ---- the laws of what is kept

-- an entry comes, while its tenant's numbers become others
module _ (s : State) (live : IsObeyed s) (clean : IsStateClean s) (inside : IsInside (standing s)) (c : VersionColumns) (newer : IsNewer c.tenant c.bucket c.okey c.seq (tables_in (standing s).now)) where
  abbrev t : Tables
  t = tables_in (standing s).now

  abbrev row : VersionRow
  row = resolved t.refs t.blocks c

  abbrev before : Option VersionRow
  before = newest_at c.tenant c.bucket c.okey t.versions

  pub comes_law : (g : TenantRow → TenantRow) → ((x : TenantRow) → (g x).tenant ≡ x.tenant)
      → used_changed c.tenant c.size 0 (entries_changed c.tenant (coming c.tenant c.bucket c.okey c.marker t) (totals_of t)) ≡ totals_of (record t { tenants = update_where (is_tenant c.tenant) g t.tenants; versions = t.versions ++ row ∷ [] })
  comes_law g named = sym (kept_version_added (record t { tenants = update_where (is_tenant c.tenant) g t.tenants }) row before newer (newest_here s live clean inside c.tenant c.bucket c.okey)
      ∙ (λ i. tally_changed c.tenant (marked_so 0 (Some row) i, 0) (marked_so 1 (Some row) i, 0) (marked_so 0 (Some row) i, marked_so 0 before i) (used_changed c.tenant c.size 0 (totals_tenant_changed t (is_tenant c.tenant) g named i))))

  pub marker_law : c.size ≡ 0 → entries_changed c.tenant (coming c.tenant c.bucket c.okey c.marker t) (totals_of t) ≡ totals_of (record t { versions = t.versions ++ row ∷ [] })
  marker_law none = sym (kept_marker_added t row before newer (newest_here s live clean inside c.tenant c.bucket c.okey) none
      ∙ (λ i. tally_changed c.tenant (marked_so 0 (Some row) i, 0) (marked_so 1 (Some row) i, 0) (marked_so 0 (Some row) i, marked_so 0 before i) (totals_of t)))

pub deleted_law : (s : State) → IsObeyed s → IsStateClean s → IsInside (standing s) → (tenant bucket okey : Octets) (id less : ℕ) → bytes_of_id tenant bucket okey id (tables_in (standing s).now) ≡ less
    → used_changed tenant 0 less (entries_changed tenant (going tenant bucket okey id (tables_in (standing s).now)) (totals_of (tables_in (standing s).now))) ≡ totals_of (without_version tenant bucket okey id (tables_in (standing s).now))
deleted_law s live clean inside tenant bucket okey id less held =
    let t = tables_in (standing s).now in
    let m = is_version tenant bucket okey id in
    let gone = find m t.versions in
    let before = newest_at tenant bucket okey t.versions in
    let after = first (delete_where m (entries_at tenant bucket okey t.versions)) in
    sym (kept_version_deleted t tenant bucket okey m gone before after less (id_here tenant bucket okey id) (listed_here s live clean inside tenant bucket okey id) (entry_bytes s live clean inside tenant bucket okey id less held)
    (newest_here s live clean inside tenant bucket okey) (newest_without m (filter (is_at tenant bucket okey) t.versions) (entries_unique s live clean inside tenant bucket okey))
    ∙ (λ i. tally_changed tenant (0, marked_so 0 gone i) (0, marked_so 1 gone i) (marked_so 0 after i, marked_so 0 before i) (used_changed tenant 0 less (totals_of t))))
