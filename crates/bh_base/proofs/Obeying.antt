-- A host's database with the bytes of packs obeys its schema, as that without them does.
use Rattle.std.proofs.Common.{◌≡◌, ℕ, Bool, true, ◌&&◌, ◌||◌, not, List, [], ◌∷◌, map, IsPermutation, codes, refl, sym, ap, ap₂, subst, ◌∙◌}
use Rattle.std.specs.List.{AllByRecursion, list_any, list_all}
use Rattle.sqlite.specs.declared.types.Value.TheVariants.{Blob}
use Rattle.sqlite.specs.Edit.{id_in}
use Rattle.sqlite.specs.Effect.{Database, IsDatabase}
use Rattle.sqlite.specs.Order.{Row, column}
use Rattle.sqlite.specs.Tree.{Trees, rowid}
use Rattle.sqlite_schema.specs.Rules.{Keeps, passes, agree, clashes, differ, equal, has_parent, has_null}
use Rattle.sqlite_schema.specs.declared.schema.Constraint.{Constraint}
use Rattle.sqlite_schema.specs.declared.schema.Constraint.TheVariants.{Datatype, NotNull, Check, PrimaryKey, Unique, ForeignKey}
use Rattle.sqlite_sql.specs.Catalog.{entry_of}
use Rattle.sqlite_tied.specs.Compute.{everything}
use Rattle.sqlite_value.specs.Keys.{plain, first_key, later}
use Rattle.sqlite_value.specs.declared.keys.Order.{Order}
use Rattle.bh_shelf.specs.Contents.{Contents}
use Rattle.bh_tables.specs.Schema.{host_schema, blocks_table, refs_table, placed_table, at, refers}
use Rattle.bh_tables.specs.Bodies.{block_name}
use Rattle.bh_tables.specs.Rows.{PlaceRow, block_of, number}
use Rattle.bh_tables.specs.Packs.{place_at, places_in, packs_in}
use Rattle.bh_tables.specs.Typed.{Totals, IsHostBy}
use Rattle.bh_tables.proofs.Checked.{block_checked}
use Rattle.bh_base.specs.Placed.{below, filled_row, filled_trees, filled}
use Rattle.bh_base.proofs.Stored.{IsBlock, IsStored, known}

-- ---- rows that differ in their bytes alone

record AreAlike (a b : Row) : Type 0 where
  id : column a 0 ≡ column b 0
  digest : column a 1 ≡ column b 1
  ord : column a 2 ≡ column b 2

module _ (packs : Contents) (places : List PlaceRow) where
  abbrev put : Row → Row
  put r = filled_row packs places r

  alike : (r : Row) → IsBlock (put r) → IsStored packs (place_at places (block_name (block_of r))) r → AreAlike (put r) r
  alike r is stored = record {
    id = stored.id;
    digest = ap (λ (l : Row). column l 1) is ∙ ap Blob (ap (λ n. n.0) stored.name) ∙ sym (ap (λ (l : Row). column l 1) stored.stored);
    ord = ap (λ (l : Row). column l 2) is ∙ ap (λ n. number n.1) stored.name ∙ sym (ap (λ (l : Row). column l 2) stored.stored);
  }

  all_alike : (rows : List Row) → AllByRecursion IsBlock (map put rows) → AllByRecursion (λ r. IsStored packs (place_at places (block_name (block_of r))) r) rows → AllByRecursion (λ r. AreAlike (put r) r) rows
  all_alike [] all stored = tt
  all_alike (r ∷ rows) all stored = (alike r all.0 stored.0, all_alike rows all.1 stored.1)

  -- a test of rows that is the same of each
  any_same : (f g : Row → Bool) (rows : List Row) → AllByRecursion (λ r. AreAlike (put r) r) rows → ((r : Row) → AreAlike (put r) r → f (put r) ≡ g r) → list_any f (map put rows) ≡ list_any g rows
  any_same f g [] all same = refl
  any_same f g (r ∷ rows) all same = ap₂ (λ a b. a || b) (same r all.0) (any_same f g rows all.1 same)

  entries_same : (rows : List Row) → AllByRecursion (λ r. AreAlike (put r) r) rows → map (entry_of (1 ∷ 2 ∷ [])) (map put rows) ≡ map (entry_of (1 ∷ 2 ∷ [])) rows
  entries_same [] all = refl
  entries_same (r ∷ rows) all = ap₂ ◌∷◌ (λ i. all.0.digest i ∷ all.0.ord i ∷ all.0.id i ∷ []) (entries_same rows all.1)

  agree_same : (o : Order) (a b c d : Row) → AreAlike a b → AreAlike c d → agree o (1 ∷ 2 ∷ []) a (1 ∷ 2 ∷ []) c ≡ agree o (1 ∷ 2 ∷ []) b (1 ∷ 2 ∷ []) d
  agree_same o a b c d k m = λ i. equal (first_key o).collation (k.digest i) (m.digest i) && (equal (first_key (later o)).collation (k.ord i) (m.ord i) && true)

  clashes_same : (o : Order) (rows : List Row) → AllByRecursion (λ r. AreAlike (put r) r) rows → (r : Row) → AreAlike (put r) r → clashes o (1 ∷ 2 ∷ []) (map put rows) (put r) ≡ clashes o (1 ∷ 2 ∷ []) rows r
  clashes_same o rows all r k = any_same (λ other. agree o (1 ∷ 2 ∷ []) other (1 ∷ 2 ∷ []) (put r) && differ (rowid other) (rowid (put r))) (λ other. agree o (1 ∷ 2 ∷ []) other (1 ∷ 2 ∷ []) r && differ (rowid other) (rowid r)) rows all
      (λ x m. ap₂ (λ a b. a && b) (agree_same o (put x) x (put r) r m k) (ap₂ differ m.id k.id))

  -- the block that two columns of another row name
  parent_same : (rows : List Row) → AllByRecursion (λ r. AreAlike (put r) r) rows → (p q : ℕ) (row : Row)
      → list_any (λ parent. agree plain (1 ∷ 2 ∷ []) parent (p ∷ q ∷ []) row) (map put rows) ≡ list_any (λ parent. agree plain (1 ∷ 2 ∷ []) parent (p ∷ q ∷ []) row) rows
  parent_same rows all p q row = any_same (λ parent. agree plain (1 ∷ 2 ∷ []) parent (p ∷ q ∷ []) row) (λ parent. agree plain (1 ∷ 2 ∷ []) parent (p ∷ q ∷ []) row) rows all
      (λ x k. λ i. equal (first_key plain).collation (k.digest i) (column row p) && (equal (first_key (later plain)).collation (k.ord i) (column row q) && true))

-- ---- each rule of the table of blocks

block_typed : (db : Trees) (r : Row) → IsBlock r → passes Datatype host_schema db (at 10 blocks_table) r ≡ true
unfolding everything
block_typed db r is = subst (λ l. passes Datatype host_schema db (at 10 blocks_table) l ≡ true) (sym is) refl

block_present : (db : Trees) (r : Row) → IsBlock r → passes NotNull host_schema db (at 10 blocks_table) r ≡ true
unfolding everything
block_present db r is = subst (λ l. passes NotNull host_schema db (at 10 blocks_table) l ≡ true) (sym is) refl

block_right : (db : Trees) (r : Row) → IsBlock r → passes Check host_schema db (at 10 blocks_table) r ≡ true
block_right db r is = subst (λ l. passes Check host_schema db (at 10 blocks_table) l ≡ true) (sym is) (block_checked (id_in (rowid r)) (block_of r))

each_right : {P Q : Row → Type 0} (rows : List Row) → AllByRecursion P rows → ((r : Row) → P r → Q r) → AllByRecursion Q rows
each_right [] all f = tt
each_right (r ∷ rows) all f = (f r all.0, each_right rows all.1 f)

module _ {sums : Totals} (packs : Contents) (db : Database) (host : IsHostBy sums (filled packs db)) (stored : IsDatabase (record { schema = host_schema; trees = db.trees })) where
  abbrev now : Trees
  now = filled_trees packs db.trees

  abbrev its : Row → Row
  its = put (below (packs_in db.trees) packs) (places_in db.trees)

  are_alike : AllByRecursion (λ r. AreAlike (its r) r) (db.trees 10)
  unfolding filled_trees
  are_alike = all_alike (below (packs_in db.trees) packs) (places_in db.trees) (db.trees 10) host.held.blocks.each (known packs db.trees host.held.blocks)

  unique_each : (rows : List Row) → AllByRecursion (λ r. AreAlike (its r) r) rows → AllByRecursion (λ row. passes Unique host_schema db.trees (at 10 blocks_table) row ≡ true) rows → AllByRecursion (λ row. passes Unique host_schema now (at 10 blocks_table) row ≡ true) (map its rows)
  unfolding everything filled_trees
  unique_each [] all h = tt
  unique_each (r ∷ rows) all h = (
    ap (λ t. not t && true) (clashes_same (below (packs_in db.trees) packs) (places_in db.trees) plain (db.trees 10) are_alike r all.0) ∙ h.0,
    unique_each rows all.1 h.1,
  )

  -- ---- the rules of all tables

  refs_right : AllByRecursion (λ row. passes ForeignKey host_schema db.trees (at 12 refs_table) row ≡ true) (db.trees 12) → AllByRecursion (λ row. passes ForeignKey host_schema now (at 12 refs_table) row ≡ true) (db.trees 12)
  unfolding everything filled_trees
  refs_right h = each_right (db.trees 12) h (λ row is. ap (λ t. (has_null (4 ∷ 5 ∷ []) row || t) && true) (parent_same (below (packs_in db.trees) packs) (places_in db.trees) (db.trees 10) are_alike 4 5 row) ∙ is)

  places_right : AllByRecursion (λ row. passes ForeignKey host_schema db.trees (at 34 placed_table) row ≡ true) (db.trees 34) → AllByRecursion (λ row. passes ForeignKey host_schema now (at 34 placed_table) row ≡ true) (db.trees 34)
  unfolding everything filled_trees
  places_right h = each_right (db.trees 34) h (λ row is. ap (λ t. (has_null (1 ∷ 2 ∷ []) row || t) && list_all (has_parent host_schema.tables db.trees row) (refers (3 ∷ []) (codes "packs") ∷ []))
      (parent_same (below (packs_in db.trees) packs) (places_in db.trees) (db.trees 10) are_alike 1 2 row) ∙ is)

  keeps : (rule : Constraint) → Keeps rule host_schema db.trees → Keeps rule host_schema now
  unfolding everything filled_trees
  keeps Datatype h = (h.0, (h.1.0, (h.1.1.0, (h.1.1.1.0, (h.1.1.1.1.0, (each_right (map its (db.trees 10)) host.held.blocks.each (block_typed now), h.1.1.1.1.1.1))))))
  keeps NotNull h = (h.0, (h.1.0, (h.1.1.0, (h.1.1.1.0, (h.1.1.1.1.0, (each_right (map its (db.trees 10)) host.held.blocks.each (block_present now), h.1.1.1.1.1.1))))))
  keeps Check h = (h.0, (h.1.0, (h.1.1.0, (h.1.1.1.0, (h.1.1.1.1.0, (each_right (map its (db.trees 10)) host.held.blocks.each (block_right now), h.1.1.1.1.1.1))))))
  keeps PrimaryKey h = (h.0, (h.1.0, (h.1.1.0, (h.1.1.1.0, (h.1.1.1.1.0, (each_right (map its (db.trees 10)) host.held.blocks.each (λ r is. refl), h.1.1.1.1.1.1))))))
  keeps Unique h = (h.0, (h.1.0, (h.1.1.0, (h.1.1.1.0, (h.1.1.1.1.0, (unique_each (db.trees 10) are_alike h.1.1.1.1.1.0, h.1.1.1.1.1.1))))))
  keeps ForeignKey h = (
    h.0,
    (
      h.1.0,
      (
        h.1.1.0,
        (
          h.1.1.1.0,
          (
            h.1.1.1.1.0,
            (
              each_right (map its (db.trees 10)) host.held.blocks.each (λ r is. refl),
              (
                refs_right h.1.1.1.1.1.1.0,
                (
                  h.1.1.1.1.1.1.1.0,
                  (
                    h.1.1.1.1.1.1.1.1.0,
                    (
                      h.1.1.1.1.1.1.1.1.1.0,
                      (
                        h.1.1.1.1.1.1.1.1.1.1.0,
                        (
                          h.1.1.1.1.1.1.1.1.1.1.1.0,
                          (
                            h.1.1.1.1.1.1.1.1.1.1.1.1.0,
                            (
                              h.1.1.1.1.1.1.1.1.1.1.1.1.1.0,
                              (places_right h.1.1.1.1.1.1.1.1.1.1.1.1.1.1.0, h.1.1.1.1.1.1.1.1.1.1.1.1.1.1.1),
                            ),
                          ),
                        ),
                      ),
                    ),
                  ),
                ),
              ),
            ),
          ),
        ),
      ),
    ),
  )

  -- with the bytes of packs it obeys the schema too
  pub filled_obeys : IsDatabase (record { schema = host_schema; trees = now })
  unfolding everything filled_trees
  filled_obeys = record {
    lists = stored.lists;
    obeys = record {
      rules = λ rule. keeps rule (stored.obeys.rules rule);
      indexed = let h = stored.obeys.indexed in (
        h.0,
        (
          h.1.0,
          (
            h.1.1.0,
            (
              h.1.1.1.0,
              (
                h.1.1.1.1.0,
                (
                  subst (λ l. IsPermutation l (db.trees 11)) (sym (entries_same (below (packs_in db.trees) packs) (places_in db.trees) (db.trees 10) are_alike)) h.1.1.1.1.1.0,
                  h.1.1.1.1.1.1,
                ),
              ),
            ),
          ),
        ),
      );
    };
  }
