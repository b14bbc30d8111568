-- A host that is made in a file's database, said of the database alone.
use Rattle.std.proofs.Common.{◌≡◌, ◌∙◌, ℕ, zero, suc, ◌+◌, Bool, true, false, not, ◌||◌, cond, if◌then◌else◌, List, [], ◌∷◌, ◌++◌, map, filter, IsTrue, refl, sym, ap, ap₂, subst}
use Rattle.std.specs.Prelude.{slice_index, slice_index_or}
use Rattle.std.specs.List.{AllZip}
use Rattle.sqlite_disk.specs.declared.Disk.{Ghosts}
use Rattle.sqlite_pages.specs.PageMap.{PageMap}
use Rattle.sqlite_value.specs.Order.{Row}
use Rattle.sqlite_trees.specs.Objects.{catalog_tree, with_version}
use Rattle.sqlite_trees.specs.Tree.{Trees, no_trees}
use Rattle.sqlite_trees.specs.declared.store.Shape.{Shape}
use Rattle.sqlite_trees.specs.declared.store.Shape.TheVariants.{Absent, Table, Index, Pageless, FrozenTable, FrozenIndex}
use Rattle.sqlite_catalog.specs.Listing.{Lists, IsTableRow, IsIndexRow, IsViewRow, is_table_row, is_view_row, is_index_row}
use Rattle.sqlite_store.specs.Catalog.{shape_at, reals_at}
use Rattle.sqlite_pool.specs.Pool as pool
use Rattle.sqlite_store.specs.FileStore.{schema_of, version_now}
use Rattle.sqlite_store.specs.Db.{rows_at, roots_of, shown as shown_row, thawed, trees_in}
use Rattle.sqlite_store.specs.Listing.{listed, listed_from, all_trees}
use Rattle.sqlite_store.specs.declared.catalog.Wanted.{Wanted}
use Rattle.sqlite_store.specs.declared.store.FileStore.{FileStore}
use Rattle.sqlite.specs.Effect.{Database}
use Rattle.sqlite.specs.Files.{file_state}
use Rattle.sqlite.specs.Held.{Held}
use Rattle.sqlite.specs.Schema.{Schema}
use Rattle.sqlite.specs.State.{State, IsLive}
use Rattle.bh_tables.specs.Schema.{no_schema}
use Rattle.bh_shelf.specs.Contents.{Contents}
use Rattle.bh_base.specs.Layer.{Standing, standing, IsOpen, IsStateClean, taken_back}
use Rattle.bh_base.specs.Placed.{filled, filled_trees}
use Rattle.bh_base.specs.Shown.{Backing, named, shown}
use Rattle.bh_bare.specs.Bare.{no_packs}
use Rattle.bh_bare.proofs.Bare.{unplaced_same}

-- ---- the files of a database without a table

none_first : {X : Type 0} (xs ys : List X) → xs ++ ys ≡ [] → xs ≡ []
none_first [] ys none = refl
none_first (x ∷ xs) ys none = absurd (cc)

none_after : {X : Type 0} (xs ys : List X) → xs ++ ys ≡ [] → ys ≡ []
none_after [] ys none = none
none_after (x ∷ xs) ys none = absurd (cc)

-- a list of no object
unlisted : (rows : List Row) → AllZip IsTableRow (filter is_table_row rows) [] → AllZip (IsIndexRow []) (filter is_index_row rows) [] → AllZip IsViewRow (filter is_view_row rows) [] → rows ≡ []
unlisted [] tables indexes views = refl
unlisted (r ∷ rows) tables indexes views = absurd (go (is_table_row r) (is_view_row r) refl refl)
  where
    go : (a b : Bool) → is_table_row r ≡ a → is_view_row r ≡ b → ⊥
    go true b table view = subst (λ c. AllZip IsTableRow (cond c (r ∷ filter is_table_row rows) (filter is_table_row rows)) []) table tables
    go false true table view = subst (λ c. AllZip IsViewRow (cond c (r ∷ filter is_view_row rows) (filter is_view_row rows)) []) view views
    go false false table view = subst (λ c. AllZip (IsIndexRow []) (cond c (r ∷ filter is_index_row rows) (filter is_index_row rows)) []) (ap₂ (λ a b. not (a || b)) table view) indexes

no_objects : (rows : List Row) (schema : Schema) → Lists rows schema → schema ≡ no_schema → rows ≡ []
no_objects rows schema lists is =
    let it = subst (Lists rows) is lists in
    unlisted rows it.listed.tables it.listed.indexes it.listed.views

absent_if : (tree : ℕ) (wanted : Wanted) (shape : Shape) → listed tree wanted shape ≡ [] → shape ≡ Absent
absent_if tree wanted Absent none = refl
absent_if tree wanted Table none = absurd (cc)
absent_if tree wanted (Index o) none = absurd (cc)
absent_if tree wanted Pageless none = absurd (cc)
absent_if tree wanted FrozenTable none = absurd (cc)
absent_if tree wanted (FrozenIndex o) none = absurd (cc)

all_absent : (first : ℕ) (wanted : List Wanted) (t : ℕ) → listed_from first wanted ≡ [] → shape_at wanted t ≡ Absent
all_absent first [] t none = nothing_at t
  where
    nothing_at : (t : ℕ) → slice_index_or [] t Absent ≡ Absent
    nothing_at zero = refl
    nothing_at (suc t) = refl
all_absent first (w ∷ wanted) zero none = absent_if first w w.shape (none_first (listed first w w.shape) (listed_from (first + 1) wanted) none)
all_absent first (w ∷ wanted) (suc t) none = all_absent (first + 1) wanted t (none_after (listed first w w.shape) (listed_from (first + 1) wanted) none)

-- the trees of a store's files
abbrev trees_of : Bool → ℕ → List Wanted → PageMap → ℕ → Trees
trees_of clean size wanted pages version = if clean then with_version (all_trees size wanted pages) version else no_trees

none_in : (clean : Bool) (size : ℕ) (wanted : List Wanted) (pages : PageMap) (version : ℕ) → trees_of clean size wanted pages version catalog_tree ≡ [] → trees_of clean size wanted pages version 34 ≡ []
unfolding all_trees trees_in
none_in false size wanted pages version none = refl
none_in true size wanted pages version none =
    let absent : shape_at wanted 34 ≡ Absent = all_absent 0 wanted 34 none in
    ap (λ s. map (shown_row (thawed s) (reals_at wanted 34)) (rows_at size pages (thawed s) (slice_index (roots_of size wanted pages) 34))) absent

-- nothing is placed in a file's database without a table
pub nothing_placed : {D : Type 0} {g : Ghosts D} (c : Held (FileStore D g)) → IsLive (file_state c) → (file_state c).now.schema ≡ no_schema → IsTrue (file_state c).is_open → (file_state c).now.trees 34 ≡ []
nothing_placed c live is up =
    let below = c.store.pool in
    none_in (pool.state below).is_clean (pool.state below).page_size (schema_of c.store) (pool.usable below) (version_now below c.store.saved)
    (no_objects ((file_state c).now.trees catalog_tree) (file_state c).now.schema (live up).0.lists is)

-- ---- what stands of it

placed_same : (packs : Contents) (db : Database) → (filled packs db).trees 34 ≡ [] → db.trees 34 ≡ []
unfolding filled_trees
placed_same packs db none = none

-- the same with the bytes of packs, so the same
same_bare : (packs : Contents) (db was : Database) → was.trees 34 ≡ [] → filled packs db ≡ was → db ≡ was
same_bare packs db was none is = sym (unplaced_same packs db (placed_same packs db (ap (λ (d : Database). d.trees 34) is ∙ none))) ∙ is

-- a database of which nothing is placed is taken back
back_bare : (a b : Backing) (old new : State) → old.now.trees 34 ≡ [] → old.now ≡ old.committed → standing (shown b new) ≡ taken_back (standing (shown a old)) → standing new ≡ taken_back (standing old)
unfolding standing
back_bare a b old new none settled is =
    let bare : old.committed.trees 34 ≡ [] = sym (ap (λ (d : Database). d.trees 34) settled) ∙ none in
    let now = same_bare (named b new.in_transaction) new.now old.committed bare (ap (λ (x : Standing). x.now) is ∙ unplaced_same a.kept old.committed bare) in
    let kept = same_bare b.kept new.committed old.committed bare (ap (λ (x : Standing). x.kept) is ∙ unplaced_same a.kept old.committed bare) in
    let inside = ap (λ (x : Standing). x.inside) is in
    let limit = ap (λ (x : Standing). x.limit) is in
    λ i. record { now = now i; kept = kept i; inside = inside i; limit = limit i }

-- where no host was made, what was committed stands
pub back_made : {D : Type 0} {g : Ghosts D} (c : Held (FileStore D g)) (new : State) → IsLive (file_state c) → (IsTrue (file_state c).is_open → (file_state c).now ≡ (file_state c).committed) → (file_state c).now.schema ≡ no_schema → IsStateClean (file_state c)
    → standing (shown no_packs new) ≡ taken_back (standing (shown no_packs (file_state c))) → standing new ≡ taken_back (standing (file_state c))
unfolding IsOpen
back_made c new live settled is was back = back_bare no_packs no_packs (file_state c) new (nothing_placed c live is was.is_open) (settled was.is_open) back
