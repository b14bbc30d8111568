-- What the rules of a schema say of rows that are there: a row that was added has a key of its own, one row has a key at most, and a
-- child has its parent.
use Rattle.std.proofs.Common.{arith, ◌≡◌, ℤ, List, [], ◌∷◌, ◌++◌, not, ◌&&◌, Bool, true, false, Some, cond, filter, find, map, refl, sym, ap, ap₂, subst, ◌∙◌, Less, int_cmp, int_eq, inl, inr, true≢false}
use Rattle.std.specs.List.{AllByRecursion, list_any}
use Rattle.std.proofs.lemmas.Bool.{cases_Bool, and_from, both_ways, false_from_ne_true, not-true}
use Rattle.std.proofs.lemmas.Int.{ints}
use Rattle.sqlite.specs.declared.types.Value.TheVariants.{Int}
use Rattle.sqlite.specs.Order.{Row, value_cmp}
use Rattle.sqlite.specs.Tree.{Trees, IsTable, rowid}
use Rattle.sqlite.specs.Table.{Table}
use Rattle.sqlite.specs.Schema.{Schema}
use Rattle.sqlite.specs.Edit.{id_in}
use Rattle.sqlite.specs.Effect.{IsDatabase}
use Rattle.sqlite_sql.specs.declared.ops.CompareOp.TheVariants.{Ne}
use Rattle.sqlite_value.proofs.OrderLemmas.{value_cmp-Int}
use Rattle.sqlite_schema.specs.declared.schema.Constraint.TheVariants.{Unique, ForeignKey}
use Rattle.sqlite_schema.specs.declared.schema.Index.{Index}
use Rattle.sqlite_schema.specs.declared.schema.Reference.{Reference}
use Rattle.sqlite_schema.specs.Rules.{agree, guards, differ, Keeps, ParentKey, parent_key, has_null}
use Rattle.sqlite_rules.specs.Lists.{Has}
use Rattle.sqlite_rules.proofs.ListLemmas.{all_has, test_has, some_has, some_from, has_left}
use Rattle.sqlite_rules.proofs.ProbeLemmas.{has_mapped}
use Rattle.sqlite_rules.proofs.RuleLemmas.{keeps_at}
use Rattle.sqlite_typed.proofs.TestLemmas.{at_ints}
use Rattle.bh_rows.specs.Form.{Form, AreRows, put, entries, typed}
use Rattle.bh_rows.proofs.FormLemmas.{stored, any_typed}

-- ---- a row that was added has a key of its own

less_differs : (a b : ℤ) → int_cmp a b ≡ Less → not (int_eq a b) ≡ true
less_differs a b less = grind (arith, ints)

-- the last of rows whose numbers rise has another number than each before
last_differs : (xs : List Row) (x : Row) → IsTable (xs ++ x ∷ []) → (y : Row) → Has xs y → value_cmp (rowid y) (rowid x) ≡ Less
last_differs [] x up y h = absurd h
last_differs (z ∷ xs) x up y (inl is) = subst (λ r. value_cmp (rowid r) (rowid x) ≡ Less) (sym is) (all_has _ (xs ++ x ∷ []) x up.0 (at_end xs))
  where
    at_end : (rows : List Row) → Has (rows ++ x ∷ []) x
    at_end [] = inl refl
    at_end (r ∷ rows) = inr (at_end rows)
last_differs (z ∷ xs) x up y (inr more) = last_differs xs x up.1 y more

module _ {T : Type 0} (form : Form T) (schema : Schema) (table : Table) (next : Trees) (keeps : Keeps Unique schema next) (listed : Has schema.tables table) (i : Index) (known : Has schema.indexes i) (on : guards i table ≡ true) where
  pub own_key : (was : List Row) (id : ℤ) (x : T) → AreRows form was → IsTable (was ++ put form (id, x) ∷ []) → next table.tree ≡ was ++ put form (id, x) ∷ []
      → list_any (λ other. agree i.order i.columns other i.columns (put form (id, x))) was ≡ false
  own_key was id x held up rows = false_from_ne_true _ (λ some.
      let new = put form (id, x) in
      let other = some_has (λ r. agree i.order i.columns r i.columns new) was some in
      let e = has_mapped (put form) (entries form was) other.0 (subst (λ l. Has l other.0) (stored form was held) other.1) in
      let less : int_cmp e.0.0 id ≡ Less = sym (value_cmp-Int e.0.0 id) ∙ subst (λ r. value_cmp (rowid r) (Int id) ≡ Less) e.2 (last_differs was new up other.0 other.1) in
      let apart : differ (rowid other.0) (rowid new) ≡ true = subst (λ r. differ (rowid r) (Int id) ≡ true) (sym e.2) (at_ints false Ne e.0.0 id ∙ less_differs e.0.0 id less) in
      let there : Has (next table.tree) new = subst (λ l. Has l new) (sym rows) (at_end was new) in
      let test = not-true _ (test_has _ schema.indexes i (keeps_at Unique schema next table new keeps listed there) known) in
      both_ways _ test (and_from _ _ on (subst (λ l. list_any (λ r. agree i.order i.columns r i.columns new && differ (rowid r) (rowid new)) l ≡ true) (sym rows)
      (some_from (λ r. agree i.order i.columns r i.columns new && differ (rowid r) (rowid new)) (was ++ new ∷ []) other.0 (has_left was (new ∷ []) other.0 other.1) (and_from _ _ other.2 apart)))))
    where
      at_end : (rows : List Row) (r : Row) → Has (rows ++ r ∷ []) r
      at_end [] r = inl refl
      at_end (q ∷ rows) r = inr (at_end rows r)

-- ---- of rows that a key holds apart, one passes a test at most

module _ {T : Type 0} (form : Form T) (schema : Schema) (table : Table) (db : Trees) (keeps : Keeps Unique schema db) (listed : Has schema.tables table) (i : Index) (known : Has schema.indexes i) (on : guards i table ≡ true) (held : AreRows form (db table.tree))
    (m : T → Bool) (agrees : (a b : ℤ) (x y : T) → m x ≡ true → m y ≡ true → agree i.order i.columns (put form (a, x)) i.columns (put form (b, y)) ≡ true) where
  abbrev Stored : Row → Type 0
  Stored r = r ≡ Int (id_in (rowid r)) ∷ form.encode (form.decode r)

  clash : (r s : Row) → Has (db table.tree) r → Has (db table.tree) s → Stored r → Stored s → value_cmp (rowid r) (rowid s) ≡ Less → m (form.decode r) ≡ true → m (form.decode s) ≡ true → ⊥
  clash r s first second is_r is_s less passes also =
      let a = id_in (rowid r) in
      let b = id_in (rowid s) in
      let low : int_cmp a b ≡ Less = sym (value_cmp-Int a b) ∙ subst (λ z. value_cmp (rowid z) (Int b) ≡ Less) is_r (subst (λ z. value_cmp (rowid r) (rowid z) ≡ Less) is_s less) in
      let apart : differ (rowid r) (rowid s) ≡ true = subst (λ z. differ (rowid z) (rowid s) ≡ true) (sym is_r) (subst (λ z. differ (Int a) (rowid z) ≡ true) (sym is_s) (at_ints false Ne a b ∙ less_differs a b low)) in
      let same : agree i.order i.columns r i.columns s ≡ true =
      subst (λ z. agree i.order i.columns z i.columns s ≡ true) (sym is_r) (subst (λ z. agree i.order i.columns (put form (a, form.decode r)) i.columns z ≡ true) (sym is_s) (agrees a b (form.decode r) (form.decode s) passes also)) in
      let test = not-true _ (test_has _ schema.indexes i (keeps_at Unique schema db table s keeps listed second) known) in
      both_ways _ test (and_from _ _ on (some_from (λ z. agree i.order i.columns z i.columns s && differ (rowid z) (rowid s)) (db table.tree) r first (and_from _ _ same apart)))

  none_after : (r : Row) → Has (db table.tree) r → Stored r → m (form.decode r) ≡ true → (rs : List Row) → ((s : Row) → Has rs s → Has (db table.tree) s) → AllByRecursion Stored rs → AllByRecursion (λ s. value_cmp (rowid r) (rowid s) ≡ Less) rs
      → filter m (map form.decode rs) ≡ []
  none_after r first is passes [] there each above = refl
  none_after r first is passes (s ∷ rs) there each above = elim (cases_Bool (m (form.decode s))) [
    | inl also ↦ absurd (clash r s first (there s (inl refl)) is each.0 above.0 passes also)
    | inr off ↦ ap (λ b. cond b (form.decode s ∷ filter m (map form.decode rs)) (filter m (map form.decode rs))) off ∙ none_after r first is passes rs (λ z h. there z (inr h)) each.1 above.1
  ]

  pub one_passes : (x : T) → find m (typed form (db table.tree)) ≡ Some x → filter m (typed form (db table.tree)) ≡ x ∷ []
  one_passes x found = go (db table.tree) (λ s h. h) held.each held.rises found
    where
      first_is : (y : T) → Some y ≡ Some x → y ≡ x
      first_is y e = cc

      go : (rs : List Row) → ((s : Row) → Has rs s → Has (db table.tree) s) → AllByRecursion Stored rs → IsTable rs → find m (map form.decode rs) ≡ Some x → filter m (map form.decode rs) ≡ x ∷ []
      go [] there each up found = absurd (cc)
      go (r ∷ rs) there each up found = elim (cases_Bool (m (form.decode r))) [
        | inl on ↦ ap (λ b. cond b (form.decode r ∷ filter m (map form.decode rs)) (filter m (map form.decode rs))) on
            ∙ ap₂ ◌∷◌ (first_is (form.decode r) (sym (ap (λ b. cond b (Some (form.decode r)) (find m (map form.decode rs))) on) ∙ found)) (none_after r (there r (inl refl)) each.0 on rs (λ z h. there z (inr h)) each.1 up.0)
        | inr off ↦ ap (λ b. cond b (form.decode r ∷ filter m (map form.decode rs)) (filter m (map form.decode rs))) off
            ∙ go rs (λ z h. there z (inr h)) each.1 up.1 (sym (ap (λ b. cond b (Some (form.decode r)) (find m (map form.decode rs))) off) ∙ found)
      ]

-- ---- a child has its parent

pub has_parents : {T C : Type 0} (form : Form T) (child : Form C) (schema : Schema) (db : Trees) → IsDatabase (record { schema = schema; trees = db }) → (table : Table) → Has schema.tables table → (ref : Reference) → Has table.references ref
    → (key : ParentKey) → parent_key schema.tables ref ≡ Some key → ((id : ℤ) (c : C) → has_null ref.columns (put child (id, c)) ≡ false)
    → (q : C → T → Bool) → ((i : ℤ) (c : C) (j : ℤ) (x : T) → agree key.2 key.1 (put form (j, x)) ref.columns (put child (i, c)) ≡ q c x)
    → AreRows form (db key.0) → AreRows child (db table.tree) → (c : C) → Has (typed child (db table.tree)) c → list_any (q c) (typed form (db key.0)) ≡ true
has_parents {T} {C} form child schema db sound table listed ref has key is whole q agrees held kept c there =
    let e = of_typed (db table.tree) kept there in
    let row = put child (e.0, c) in
    let test = test_has _ table.references ref (keeps_at ForeignKey schema db table row (sound.obeys.rules ForeignKey) listed e.1) has in
    sym (any_typed form (λ r. agree key.2 key.1 r ref.columns row) (q c) (λ j x. agrees e.0 c j x) (db key.0) held) ∙ rw (whole e.0 c, is) at test
  where
    of_typed : (rows : List Row) → AreRows child rows → Has (typed child rows) c → (id : ℤ) × Has rows (put child (id, c))
    of_typed rows kept h = go rows kept.each h
      where
        go : (rs : List Row) → AllByRecursion (λ r. r ≡ Int (id_in (rowid r)) ∷ child.encode (child.decode r)) rs → Has (typed child rs) c → (id : ℤ) × Has rs (put child (id, c))
        go [] each h = absurd h
        go (r ∷ rs) each (inl same) = (id_in (rowid r), inl (ap (λ y. Int (id_in (rowid r)) ∷ child.encode y) same ∙ sym each.0))
        go (r ∷ rs) each (inr more) = let it = go rs each.1 more in (it.0, inr it.1)
