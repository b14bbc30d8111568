-- Where the rules allow the row, an INSERT is refused for want of a row number alone.
use Rattle.std.proofs.Common.{arith, ◌≡◌, ◌≢◌, inl, inr, ℕ, ℤ, List, [], ◌∷◌, ◌++◌, map, cond, not, ◌&&◌, ◌||◌, Bool, true, false, true≢false, Option, None, Some, refl, sym, ap, subst, ◌∙◌, int_eq}
use Rattle.std.specs.List.{list_any, list_all}
use Rattle.std.specs.Ordering.{is_eq}
use Rattle.std.proofs.Math.Bool.{and-false}
use Rattle.std.proofs.lemmas.Int.{ints}
use Rattle.std.proofs.lemmas.Bool.{and_parts, cases_eq, eq-eqb, ne_eqb}
use Rattle.sqlite.specs.declared.types.Value.TheVariants.{Null, Int}
use Rattle.sqlite.specs.Order.{Row, value_cmp}
use Rattle.sqlite.specs.Tree.{Trees, IsAscending, rowid}
use Rattle.sqlite.specs.Table.{Table}
use Rattle.sqlite.specs.Schema.{Schema}
use Rattle.sqlite.specs.Cast.{cast_all}
use Rattle.sqlite.specs.Rowids.TheVariants.{Chosen}
use Rattle.sqlite.specs.Edit.{Edit, Applies, IsRefused, edit_of, edited, left_by, are_fresh, is_taken, is_referred, next_rowid}
use Rattle.sqlite.specs.Effect.{edit_error}
use Rattle.sqlite_trees.specs.Tree.{with_tree}
use Rattle.sqlite_sql.specs.declared.ops.CompareOp.TheVariants.{Ne}
use Rattle.sqlite_value.specs.declared.keys.Order.{Order}
use Rattle.sqlite_value.proofs.OrderLemmas.{value_cmp-Int}
use Rattle.sqlite_schema.specs.declared.schema.Constraint.TheVariants.{Datatype, NotNull, Check, PrimaryKey, Unique, ForeignKey}
use Rattle.sqlite_schema.specs.declared.schema.Among.{Among}
use Rattle.sqlite_schema.specs.declared.schema.Reference.{Reference}
use Rattle.sqlite_schema.specs.declared.schema.Keys.TheVariants.{Enforced}
use Rattle.sqlite_schema.specs.Rules.{agree, clashes, passes, Keeps, Refers, ParentKey, parent_key, has_parent, has_null, is_held}
use Rattle.sqlite_rules.specs.declared.error.Refusal.{Refusal}
use Rattle.sqlite_rules.specs.declared.error.Refusal.TheVariants.{Violates, Mismatch, NoRowid, BadReference, TooDeep}
use Rattle.sqlite_rules.specs.Lists.{Has}
use Rattle.sqlite_rules.specs.Keys.{are_unique}
use Rattle.sqlite_rules.proofs.EditLemmas.{turns}
use Rattle.sqlite_rules.proofs.ListLemmas.{all_has, all_from, test_has, some_has, some_from, has_left, has_either}
use Rattle.sqlite_rules.proofs.RuleLemmas.{keeps_at, unique_kept, refers_from, parent_is_table, same_table}
use Rattle.sqlite_keyed.specs.Keyed.{has_key}
use Rattle.sqlite_keyed.proofs.KeyedLemmas.{next_key_is_free}
use Rattle.sqlite_keyed.proofs.SliceLemmas.{any_is_found}
use Rattle.sqlite_typed.proofs.TestLemmas.{at_ints}
use Rattle.bh_rows.specs.Means.{is_trouble}
use Rattle.bh_rows.specs.Keys.{are_apart}
use Rattle.bh_rows.specs.Form.{Form, AreRows, Entry, put, entries}
use Rattle.bh_rows.proofs.FormLemmas.{stored, keyed}
use Rattle.bh_rows.proofs.InsertLemmas.{plainly, cast_null, added, put_last, next_is}

any_map : {X Y : Type 0} (p : Y → Bool) (f : X → Y) (xs : List X) → list_any p (map f xs) ≡ list_any (λ x. p (f x)) xs
any_map p f [] = refl
any_map p f (x ∷ xs) = ap (λ b. p (f x) || b) (any_map p f xs)

any_append : {X : Type 0} (p : X → Bool) (xs : List X) (y : X) → list_any p xs ≡ false → p y ≡ false → list_any p (xs ++ y ∷ []) ≡ false
any_append p [] y none last = rw last
any_append p (x ∷ xs) y none last = go (p x) (list_any p xs) none (any_append p xs y) refl
  where
    go : (a b : Bool) → (a || b) ≡ false → (list_any p xs ≡ false → p y ≡ false → list_any p (xs ++ y ∷ []) ≡ false) → list_any p xs ≡ b → (a || list_any p (xs ++ y ∷ [])) ≡ false
    go true b h more is = h
    go false b h more is = more (is ∙ h) last

narrower : {X : Type 0} (p q : X → Bool) (xs : List X) → list_any p xs ≡ false → list_any (λ x. p x && q x) xs ≡ false
narrower p q [] h = refl
narrower p q (x ∷ xs) h = go (p x) (list_any p xs) h (narrower p q xs) refl
  where
    go : (a b : Bool) → (a || b) ≡ false → (list_any p xs ≡ false → list_any (λ y. p y && q y) xs ≡ false) → list_any p xs ≡ b → ((a && q x) || list_any (λ y. p y && q y) xs) ≡ false
    go true b e more is = absurd (true≢false e)
    go false b e more is = more (is ∙ e)

int_eq_self : (n : ℤ) → int_eq n n ≡ true
int_eq_self n = grind (arith, ints)

-- the tree that is replaced
pub at_changed : (db : Trees) (tree : ℕ) (l : List Row) → with_tree db tree l tree ≡ l
at_changed db tree l = ap (λ b. cond b l (db tree)) (eq-eqb tree tree refl)

-- and each other one
pub at_other : (db : Trees) (tree t : ℕ) (l : List Row) → t ≢ tree → with_tree db tree l t ≡ db t
at_other db tree t l other = ap (λ b. cond b l (db t)) (ne_eqb t tree other)

module _ {T : Type 0} (form : Form T) (schema : Schema) (table : Table) (source : Row) (db : Trees) (held : AreRows form (db table.tree)) (x : T)
    (columns : source ≡ Null ∷ form.encode x) (kept : cast_all table.columns (form.encode x) ≡ form.encode x)
    (apart : IsAscending (λ (a b : Table). a.tree ≡ b.tree → ⊥) schema.tables) (listed : Has schema.tables (plainly table)) where
  abbrev was : List Row
  was = db table.tree

  abbrev new : Row
  new = added form was held x

  abbrev edit : Edit
  edit = edit_of db (plainly table) [] Chosen 0 (source ∷ [])

  news_are : edit.news ≡ new ∷ []
  news_are = rw (columns, cast_null, kept)

  edited_is : edited db edit ≡ was ++ new ∷ []
  edited_is = (λ i. Rattle.sqlite.specs.Edit.put_all was (news_are i)) ∙ put_last form was held x

  free : is_taken was new ≡ false
  free =
      let es = entries form was in
      let n = next_rowid was in
      ap (list_any (λ r. is_eq (value_cmp (rowid r) (Int n)))) (stored form was held) ∙ any_map _ (put form) es
      ∙ (λ i. list_any (λ (e : Entry T). is_eq (value_cmp-Int e.0 n i)) es) ∙ any_is_found (λ (e : Entry T). int_eq e.0 n) es
      ∙ ap (has_key (λ (e : Entry T). e.0) es) (next_is form was held x) ∙ next_key_is_free (λ (e : Entry T). e.0) es (keyed form was held)

  fresh : are_fresh (left_by db edit) edit.news ≡ true
  fresh = ap (are_fresh was) news_are ∙ ap (λ b. not b && true) free

  -- no row with the same key
  pub unclashed : (o : Order) (places : List ℕ) → list_any (λ other. agree o places other places new) was ≡ false → clashes o places (was ++ new ∷ []) new ≡ false
  unclashed o places none =
      any_append _ was new (narrower _ _ was none) (ap (λ b. agree o places new places new && b) (at_ints false Ne (next_rowid was) (next_rowid was) ∙ ap not (int_eq_self (next_rowid was))) ∙ and-false _)

  module _ (typed : passes Datatype schema db (plainly table) new ≡ true) (present : passes NotNull schema db (plainly table) new ≡ true) (checked : passes Check schema db (plainly table) new ≡ true)
      (referred : is_referred schema Enforced edit ≡ true) (unique : (next : Trees) → next table.tree ≡ was ++ new ∷ [] → are_unique schema.indexes next (plainly table) (new ∷ []) ≡ true) (keeps : Keeps Unique schema db) where
    last_true : (b : Bool) → b ≡ true → (b && true) ≡ true
    last_true b h = rw h refl

    -- it is refused for want of a number alone
    pub allowed : (r : Refusal) → IsRefused schema Enforced db edit r → is_trouble (edit_error r) ≡ true
    allowed (Violates Datatype) h = absurd (true≢false (sym (last_true _ typed) ∙ ap (list_all (passes Datatype schema db (plainly table))) (sym news_are) ∙ h))
    allowed (Violates NotNull) h = absurd (true≢false (sym (last_true _ present) ∙ ap (list_all (passes NotNull schema db (plainly table))) (sym news_are) ∙ h))
    allowed (Violates Check) h = absurd (true≢false (sym (last_true _ checked) ∙ ap (list_all (passes Check schema db (plainly table))) (sym news_are) ∙ h))
    allowed (Violates PrimaryKey) h = absurd (true≢false (sym fresh ∙ h))
    allowed (Violates Unique) h =
        let next = with_tree db table.tree (edited db edit) in
        let rows : next table.tree ≡ edited db edit = at_changed db table.tree (edited db edit) in
        let turn = turns schema db next edit apart listed held.rises fresh rows (all_from _ schema.tables (λ t known other. at_other db table.tree t.tree (edited db edit) other)) in
        absurd (h (unique_kept schema db next (plainly table) _ _ edit.news turn (ap (are_unique schema.indexes next (plainly table)) news_are ∙ unique next (rows ∙ edited_is)) keeps))
    allowed (Violates ForeignKey) h = absurd h
    allowed Mismatch h = absurd (true≢false (ap (list_all (λ r. Rattle.sqlite_trees.specs.View.is_int (rowid r))) (sym news_are) ∙ h))
    allowed NoRowid h = refl
    allowed BadReference h = absurd (true≢false (sym referred ∙ h))
    allowed TooDeep h = absurd h

    -- each row has its parents afterwards, where the new row has them before
    module _ (next : Trees) (it : Applies schema Enforced db edit next) (parents : list_all (has_parent schema.tables db new) table.references ≡ true) (refers : Keeps ForeignKey schema db) where
      stays : (t : Table) → Has schema.tables t → (r : Row) → Has (db t.tree) r → Has (next t.tree) r
      stays t known r there = elim (cases_eq t.tree table.tree) [
        | inl same ↦ subst (λ n. Has (next n) r) (sym same) (subst (λ l. Has l r) (sym (it.rows ∙ edited_is)) (has_left was (new ∷ []) r (subst (λ n. Has (db n) r) same there)))
        | inr other ↦ subst (λ l. Has l r) (sym (all_has _ schema.tables t it.tables known other)) there
      ]

      held_still : (ref : Reference) (row : Row) (o : Option ParentKey) → parent_key schema.tables ref ≡ o → is_held db ref.columns row o ≡ true → is_held next ref.columns row o ≡ true
      held_still ref row None is h = h
      held_still ref row (Some key) is h =
          let t = parent_is_table schema.tables ref key is in
          let r = some_has (λ parent. agree key.2 key.1 parent ref.columns row) (db key.0) h in
          some_from (λ parent. agree key.2 key.1 parent ref.columns row) (next key.0) r.0 (subst (λ n. Has (next n) r.0) t.2 (stays t.0 t.1 r.0 (subst (λ n. Has (db n) r.0) (sym t.2) r.1))) r.2

      parent_still : (row : Row) (ref : Reference) → has_parent schema.tables db row ref ≡ true → has_parent schema.tables next row ref ≡ true
      parent_still row ref h = go (has_null ref.columns row) h (held_still ref row (parent_key schema.tables ref) refl)
        where
          go : (b : Bool) → (b || is_held db ref.columns row (parent_key schema.tables ref)) ≡ true → (is_held db ref.columns row (parent_key schema.tables ref) ≡ true → is_held next ref.columns row (parent_key schema.tables ref) ≡ true)
              → (b || is_held next ref.columns row (parent_key schema.tables ref)) ≡ true
          go true e more = refl
          go false e more = more e

      -- each row has its parents afterwards
      pub refers_still : (among : Among) → Refers among schema next
      refers_still among = refers_from among schema next (λ t ref row known has is there. parent_still row ref (elim (cases_eq t.tree table.tree) [
        | inl same ↦
            let here : t ≡ plainly table = same_table schema.tables t (plainly table) apart known listed same in
            elim (has_either was (new ∷ []) row (subst (λ l. Has l row) (it.rows ∙ edited_is) (subst (λ n. Has (next n) row) same there))) [
              | inl old ↦ test_has _ t.references ref (keeps_at ForeignKey schema db t row refers known (subst (λ n. Has (db n) row) (sym same) old)) has
              | inr (inl is_new) ↦ subst (λ r. has_parent schema.tables db r ref ≡ true) (sym is_new) (test_has _ table.references ref parents (subst (λ (u : Table). Has u.references ref) here has))
              | inr (inr none) ↦ absurd none
            ]
        | inr other ↦ test_has _ t.references ref (keeps_at ForeignKey schema db t row refers known (subst (λ l. Has l row) (all_has _ schema.tables t it.tables known other) there)) has
      ]))

-- that the trees differ, from the test
pub apart_by : (ts : List Table) → are_apart ts ≡ true → IsAscending (λ (a b : Table). a.tree ≡ b.tree → ⊥) ts
apart_by [] h = tt
apart_by (t ∷ ts) h =
    let parts = and_parts _ _ h in
    (all_from _ ts (λ u there same. true≢false (sym (test_has _ ts u parts.0 there) ∙ ap not (eq-eqb t.tree u.tree same))), apart_by ts parts.1)
