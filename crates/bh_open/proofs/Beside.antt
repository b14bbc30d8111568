-- What a database shows beside packs: the laws of its tables, and what is listed of packs.
use Rattle.std.proofs.Common.{arith, ◌≡◌, ◌⊎◌, inl, inr, ℕ, ◌+◌, ◌==◌, ◌&&◌, ◌||◌, nat_le, pos, Bool, true, false, true≢false, cond, List, [], ◌∷◌, map, map-id, None, refl, sym, ap, ap₂, ◌∙◌}
use Rattle.std.specs.Ordering.{int_eq}
use Rattle.std.proofs.lemmas.Bool.{and_parts, cases_Bool, cases_eq, eqb-true, eq-eqb, ne_eqb}
use Rattle.std.proofs.lemmas.Int.{ints}
use base.Stored.{Gv, gnil, gnum, gcons}
use Rattle.sqlite.specs.Schema.{Schema}
use Rattle.sqlite_schema.specs.contracts.schema.Schema as schema
use Rattle.sqlite.specs.Effect.{Database}
use Rattle.sqlite.specs.Order.{Row}
use Rattle.sqlite.specs.State.{State}
use Rattle.sqlite.specs.Tree.{Trees}
use Rattle.sqlite_trees.specs.Tree.{with_tree}
use Rattle.bh_types.specs.Limits.{HostLimits}
use Rattle.bh_rows.specs.Form.{AreRows, typed}
use Rattle.bh_shelf.specs.Contents.{Contents}
use Rattle.bh_shelf.specs.Listed.{is_listed, HasListed}
use Rattle.bh_tables.specs.Hosts.{same_code, same, are_held, is_first_host, is_second_host, is_third_host, is_fourth_host, earlier_shown, tables_shown, tables_opened}
use Rattle.bh_tables.specs.Packs.{is_reached, places_in, packs_in}
use Rattle.bh_tables.specs.Rows.{PackRow, pack_form, place_form}
use Rattle.bh_tables.specs.Schema.{first_schema, second_schema, third_schema, fourth_schema, host_schema}
use Rattle.bh_tables.specs.Typed.{HostRow, Tables, totals_of, unweighed, untallied, tables_in, first_tables_in, first_raw, second_raw, third_raw, fourth_raw, IsHost}
use Rattle.bh_tables.proofs.HostTests.{other_schema, unlike_second, unlike_third, unlike_fourth, shown_host, opened_host}
use Rattle.bh_base.specs.Layer.{standing}
use Rattle.bh_base.specs.Placed.{sized, below, filled_row, filled_trees, filled}
use Rattle.bh_base.specs.Shown.{Backing, named, shown}
use Rattle.bh_schema.specs.Storage.{seen_in}
use Rattle.bh_migration.specs.Migration.{IsOfEarlier}
use Rattle.bh_open.specs.Packed.{is_earlier_host, tables_beside, resting, seen_beside, listed_of}

-- ---- which version it is

same_is : (a b : Gv) → same_code a b ≡ true → a ≡ b
same_is gnil gnil h = refl
same_is gnil (gnum n) h = absurd (true≢false (sym h))
same_is gnil (gcons a b) h = absurd (true≢false (sym h))
same_is (gnum m) gnil h = absurd (true≢false (sym h))
same_is (gnum m) (gnum n) h = ap gnum (eqb-true m n h)
same_is (gnum m) (gcons a b) h = absurd (true≢false (sym h))
same_is (gcons a b) gnil h = absurd (true≢false (sym h))
same_is (gcons a b) (gnum n) h = absurd (true≢false (sym h))
same_is (gcons a b) (gcons c d) h = let parts = and_parts _ _ h in ap₂ gcons (same_is a c parts.0) (same_is b d parts.1)

-- no test of a host passes under another schema
unlike : (is its : Schema) (held : Bool) → (is ≡ its → ⊥) → (same schema.the_row.coded is its && held) ≡ false
unlike is its held other = elim (cases_Bool (same schema.the_row.coded is its && held)) [
  | inl passed ↦ absurd (other (schema.the_row.coded.inj is its (same_is _ _ (and_parts _ _ passed).0)))
  | inr none ↦ none
]

not_first : (db : Database) → (db.schema ≡ first_schema → ⊥) → is_first_host db ≡ false
unfolding is_first_host
not_first db = unlike db.schema first_schema (are_held (untallied (totals_of (first_tables_in db))) (first_raw db.trees))

not_second : (db : Database) → (db.schema ≡ second_schema → ⊥) → is_second_host db ≡ false
unfolding is_second_host
not_second db = unlike db.schema second_schema (are_held (untallied (totals_of (tables_in db))) (second_raw db.trees))

not_third : (db : Database) → (db.schema ≡ third_schema → ⊥) → is_third_host db ≡ false
unfolding is_third_host
not_third db = unlike db.schema third_schema (are_held (unweighed (totals_of (tables_in db))) (third_raw db.trees))

not_fourth : (db : Database) → (db.schema ≡ fourth_schema → ⊥) → is_fourth_host db ≡ false
unfolding is_fourth_host
not_fourth db = unlike db.schema fourth_schema (are_held (unweighed (totals_of (tables_in db))) (fourth_raw db.trees))

earlier_not : (db : Database) → db.schema ≡ host_schema → is_earlier_host db ≡ false
earlier_not db is = ap₂ ◌||◌ (not_first db (other_schema db is)) (ap₂ ◌||◌ (not_second db (unlike_second db is)) (ap₂ ◌||◌ (not_third db (unlike_third db is)) (not_fourth db (unlike_fourth db is))))

-- one of the present version has what the packs give it
pub beside_present : (packs : Contents) (db : Database) → db.schema ≡ host_schema → tables_beside packs db ≡ tables_shown (filled packs db)
unfolding tables_beside
beside_present packs db is = ap (λ b. cond b (tables_opened db) (tables_shown (filled packs db))) (earlier_not db is)

or_none : (a b : Bool) → (a || b) ≡ false → (a ≡ false) × (b ≡ false)
or_none true b h = absurd (true≢false h)
or_none false b h = (refl, h)

opened_shown : (db : Database) → is_earlier_host db ≡ false → tables_opened db ≡ tables_shown db
unfolding tables_opened
opened_shown db none =
    let one = or_none (is_first_host db) (is_second_host db || (is_third_host db || is_fourth_host db)) none in
    let two = or_none (is_second_host db) (is_third_host db || is_fourth_host db) one.1 in
    let three = or_none (is_third_host db) (is_fourth_host db) two.1 in
    λ i. cond (one.0 i) (earlier_shown 1 (first_tables_in db)) (cond (two.0 i) (earlier_shown 2 (tables_in db)) (cond (three.0 i) (earlier_shown 3 (tables_in db)) (cond (three.1 i) (earlier_shown 4 (tables_in db)) (tables_shown db))))

-- one of an earlier version has what it has once it is opened
pub beside_earlier : (packs : Contents) (db : Database) (row : HostRow) → (tables_opened db).host ≡ row ∷ [] → (db.schema ≡ host_schema → ⊥) → tables_beside packs db ≡ tables_opened db
unfolding tables_beside
beside_earlier packs db row there unlike = elim (cases_Bool (is_earlier_host db)) [
  | inl is ↦ ap (λ b. cond b (tables_opened db) (tables_shown (filled packs db))) is
  | inr none ↦ absurd (unlike (shown_host db row (sym (ap (λ (t : Tables). t.host) (opened_shown db none)) ∙ there)).schema)
]

-- only a database of one of the five has a row of the host: with its packs, if it is of the present version
pub beside_told : (packs : Contents) (db : Database) (row : HostRow) → (tables_beside packs db).host ≡ row ∷ [] → IsHost (filled packs db) ⊎ (IsOfEarlier db × (tables_beside packs db ≡ tables_opened db))
unfolding tables_beside
beside_told packs db row there = elim (cases_Bool (is_earlier_host db)) [
  | inr none ↦ inl (shown_host (filled packs db) row (sym (ap (λ b. (cond b (tables_opened db) (tables_shown (filled packs db))).host) none) ∙ there))
  | inl is ↦ elim (opened_host db row (sym (ap (λ b. (cond b (tables_opened db) (tables_shown (filled packs db))).host) is) ∙ there)) [
    | inl host ↦ absurd (true≢false (sym is ∙ earlier_not db host.schema))
    | inr was ↦ inr (was, ap (λ b. cond b (tables_opened db) (tables_shown (filled packs db))) is)
  ]
]

-- ---- without places

-- a tree put back as it was
put_back : (trees : Trees) (tree : ℕ) → with_tree trees tree (trees tree) ≡ trees
put_back trees tree = λ i. λ t. at t i
  where
    at : (t : ℕ) → with_tree trees tree (trees tree) t ≡ trees t
    at t = elim (cases_eq t tree) [
      | inl is ↦ ap (λ b. cond b (trees tree) (trees t)) (eq-eqb t tree is) ∙ ap trees (sym is)
      | inr other ↦ ap (λ b. cond b (trees tree) (trees t)) (ne_eqb t tree other)
    ]

-- packs give nothing to a database of which nothing is placed
pub unplaced_same : (packs : Contents) (db : Database) → db.trees 34 ≡ [] → filled packs db ≡ db
unfolding filled_trees
unplaced_same packs db none =
    let put : List Row → List Row = λ rows. map (filled_row (below (packs_in db.trees) packs) (typed place_form rows)) (db.trees 10) in
    ap (λ (t : Trees). record { schema = db.schema; trees = t }) (ap (with_tree db.trees 10) (ap put none ∙ map-id (db.trees 10)) ∙ put_back db.trees 10)

-- ---- what is listed

same_number : (a b : ℕ) → int_eq (pos a) (pos b) ≡ (a == b)
same_number a b = elim (cases_Bool (a == b)) [
  | inl is ↦ ap (λ n. int_eq (pos a) (pos n)) (sym (eqb-true a b is)) ∙ self a ∙ sym is
  | inr other ↦ grind (arith, ints, other)
]
  where
    self : (n : ℕ) → int_eq (pos n) (pos n) ≡ true
    self n = grind (arith, ints)

-- rows list what they reach
pub reached_listed : (rows : List PackRow) (pack end : ℕ) → is_listed (map listed_of rows) pack end ≡ is_reached rows pack end
reached_listed [] pack end = refl
reached_listed (p ∷ rows) pack end = ap₂ ◌||◌ (ap (λ b. b && nat_le end p.length) (sym (same_number p.pack pack))) (reached_listed rows pack end)

module _ (rows : List PackRow) (files packs : Contents) (has : HasListed (map listed_of rows) files packs) where
  below_same : (pack offset size : ℕ) → below rows packs pack offset size ≡ below rows files pack offset size
  unfolding below
  below_same pack offset size = go (is_reached rows pack (offset + size)) refl
    where
      go : (t : Bool) → is_reached rows pack (offset + size) ≡ t → cond t (sized size (packs pack offset size)) None ≡ cond t (sized size (files pack offset size)) None
      go true is = ap (sized size) (has.same pack offset size (reached_listed rows pack (offset + size) ∙ is))
      go false is = refl

  pub below_listed : below rows packs ≡ below rows files
  below_listed = λ i pack offset size. below_same pack offset size i

-- packs that were opened by the rows give a database what their files give it
pub filled_listed : (db : Database) (files packs : Contents) → HasListed (map listed_of (packs_in db.trees)) files packs → filled packs db ≡ filled files db
unfolding filled_trees
filled_listed db files packs has =
    ap (λ (c : Contents). record { schema = db.schema; trees = with_tree db.trees 10 (map (filled_row c (places_in db.trees)) (db.trees 10)) }) (below_listed (packs_in db.trees) files packs has)

-- the rows of a host's packs are typed rows, whatever the packs have
pub packs_typed : (packs : Contents) (db : Database) → IsHost (filled packs db) → AreRows pack_form (db.trees 32)
unfolding filled_trees
packs_typed packs db host = host.held.packs

-- ---- what a state shows

-- what packs have at rest, inside a transaction and outside
at_rest : (packs : Contents) (inside : Bool) → named (resting packs) inside ≡ packs
at_rest packs true = refl
at_rest packs false = refl

-- the current and the committed database, each with these packs
pub beside_is : (packs : Contents) (limits : HostLimits) (s : State)
    → seen_beside packs limits s ≡ record { now = tables_shown (filled packs (standing s).now); kept = tables_shown (filled packs (standing s).kept); inside = (standing s).inside; limits = limits }
unfolding seen_in standing
beside_is packs limits s = ap (λ c. record { now = tables_shown (filled c s.now); kept = tables_shown (filled packs s.committed); inside = s.in_transaction; limits = limits }) (at_rest packs s.in_transaction)

-- so it is with packs of which all is committed
pub beside_backing : (backing : Backing) (packs : Contents) (limits : HostLimits) (s : State) → backing.seen ≡ packs → backing.kept ≡ packs → seen_in limits (shown backing s) ≡ seen_beside packs limits s
unfolding seen_in standing
beside_backing backing packs limits s seen kept =
    λ i. record { now = tables_shown (filled (both s.in_transaction i) s.now); kept = tables_shown (filled (kept i) s.committed); inside = s.in_transaction; limits = limits }
  where
    both : (inside : Bool) → named backing inside ≡ named (resting packs) inside
    both true = seen
    both false = kept
