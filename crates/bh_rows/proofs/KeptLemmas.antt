-- The rules that stay kept: Unique and the foreign keys by an UPDATE of other columns, and the foreign keys by a DELETE of rows that none points to.
use Rattle.std.proofs.Common.{◌≡◌, ◌≢◌, inl, inr, ℕ, ℤ, ◌==◌, List, [], ◌∷◌, ◌++◌, map, flat_map, drop, cond, not, ◌&&◌, ◌||◌, Bool, true, Option, Some, None, refl, sym, ap, ap₂, subst, ◌∙◌}
use Rattle.std.specs.List.{list_any, list_all}
use Rattle.std.proofs.lemmas.Bool.{and_parts, and_from, cases_Bool, cases_eq, eq-eqb, both_ways, not-true, not_from_false, false_from_ne_true, or_cases, or_left, or_right}
use Rattle.sqlite.specs.Order.{Row, column}
use Rattle.sqlite.specs.Tree.{Trees, IsAscending, rowid}
use Rattle.sqlite.specs.Table.{Table}
use Rattle.sqlite.specs.Schema.{Schema}
use Rattle.sqlite.specs.Edit.{Edit, taken_by}
use Rattle.sqlite_value.specs.declared.keys.Order.{Order}
use Rattle.sqlite_value.specs.Keys.{later}
use Rattle.sqlite_sql.specs.Ops.{is_null}
use Rattle.sqlite_schema.specs.declared.schema.Constraint.TheVariants.{Unique, ForeignKey}
use Rattle.sqlite_schema.specs.declared.schema.Among.{Among}
use Rattle.sqlite_schema.specs.declared.schema.Index.{Index}
use Rattle.sqlite_schema.specs.declared.schema.Keys.TheVariants.{Enforced}
use Rattle.sqlite_schema.specs.declared.schema.Reference.{Reference}
use Rattle.sqlite_schema.specs.Rules.{agree, clashes, differ, equal, guards, Keeps, Refers, ParentKey, parent_key, has_parent, has_null, is_held}
use Rattle.sqlite_rules.specs.Lists.{Has}
use Rattle.sqlite_rules.specs.Action.{pairs, works, is_child_of}
use Rattle.sqlite_rules.proofs.ListLemmas.{all_has, test_has, test_from, some_has, some_from, has_left, has_right, has_kept}
use Rattle.sqlite_rules.proofs.RuleLemmas.{Turns, keeps_at, keeps_from, refers_from, same_table, parent_is_table}
use Rattle.sqlite_rules.proofs.KeyLemmas.{agree_back}
use Rattle.sqlite_rules.proofs.ProbeLemmas.{has_mapped, mapped_has}
use Rattle.sqlite_keyed.specs.Lists.{update_where}
use Rattle.bh_rows.specs.Form.{Form, AreRows, Entry, put, entries}
use Rattle.bh_rows.specs.Keys.{Pointer, pointer_at, pointers, points_at, watched, indexed_places, referring_places, pointed_places, AreUnused}
use Rattle.bh_rows.proofs.FormLemmas.{stored}
use Rattle.bh_rows.proofs.RestrictLemmas.{flat_has, IsHeldBack, work_of}

-- ---- rows that are the same at some places

-- the rows have one number, and the same columns at these places
pub record AreTwins (places : List ℕ) (a b : Row) : Type 0 where
  pub numbered : rowid a ≡ rowid b
  pub alike : (p : ℕ) → Has places p → column a p ≡ column b p

-- columns that are the same as a list are the same at each place
pub same_at : (places : List ℕ) (a b : Row) → map (column a) places ≡ map (column b) places → (p : ℕ) → Has places p → column a p ≡ column b p
same_at [] a b h p there = absurd there
same_at (q ∷ places) a b h p (inl same) = let first : column a q ≡ column b q = cc in subst (λ n. column a n ≡ column b n) (sym same) first
same_at (q ∷ places) a b h p (inr more) = let rest : map (column a) places ≡ map (column b) places = cc in same_at places a b rest p more

-- keys agree by the columns at their places alone
pub agree_same : (o : Order) (ps qs : List ℕ) (a b c d : Row) → ((p : ℕ) → Has ps p → column a p ≡ column b p) → ((q : ℕ) → Has qs q → column c q ≡ column d q) → agree o ps a qs c ≡ agree o ps b qs d
agree_same o [] [] a b c d left right = refl
agree_same o [] (q ∷ qs) a b c d left right = refl
agree_same o (p ∷ ps) [] a b c d left right = refl
agree_same o (p ∷ ps) (q ∷ qs) a b c d left right =
    ap₂ ◌&&◌ (ap₂ (equal (Rattle.sqlite_value.specs.Keys.first_key o).collation) (left p (inl refl)) (right q (inl refl))) (agree_same (later o) ps qs a b c d (λ n h. left n (inr h)) (λ n h. right n (inr h)))

-- and so is a key NULL or not
pub null_same : (places : List ℕ) (a b : Row) → ((p : ℕ) → Has places p → column a p ≡ column b p) → has_null places a ≡ has_null places b
null_same [] a b alike = refl
null_same (p ∷ places) a b alike = ap₂ ◌||◌ (ap is_null (alike p (inl refl))) (null_same places a b (λ n h. alike n (inr h)))

-- ---- references to a tree

-- a reference to the tree is among the pointers
pub pointer_listed : (schema : Schema) (t : Table) (ref : Reference) (key : ParentKey) (tree : ℕ) → Has schema.tables t → Has t.references ref → parent_key schema.tables ref ≡ Some key → key.0 ≡ tree
    → Has (pointers schema tree) (record { child = t.tree; columns = ref.columns; places = key.1; order = key.2 })
pointer_listed schema t ref key tree listed known is here =
    let p : Pointer = record { child = t.tree; columns = ref.columns; places = key.1; order = key.2 } in
    let one : Has (cond (key.0 == tree) (p ∷ []) []) p = subst (λ b. Has (cond b (p ∷ []) []) p) (sym (eq-eqb key.0 tree here)) (inl refl) in
    let at : Has (pointer_at tree t.tree ref.columns (parent_key schema.tables ref)) p = subst (λ o. Has (pointer_at tree t.tree ref.columns o) p) (sym is) one in
    flat_has (λ (u : Table). flat_map (λ (r : Reference). pointer_at tree u.tree r.columns (parent_key schema.tables r)) u.references) schema.tables t p listed
    (flat_has (λ (r : Reference). pointer_at tree t.tree r.columns (parent_key schema.tables r)) t.references ref p known at)

module _ (schema : Schema) (table : Table) where
  -- a unique index watches its columns
  pub index_watched : (i : Index) → Has schema.indexes i → guards i table ≡ true → (p : ℕ) → Has i.columns p → Has (watched schema table) p
  index_watched i listed on p h = has_left (indexed_places schema table) (referring_places table ++ pointed_places schema table) p (flat_has (λ (j : Index). j.columns) _ i p (has_kept (λ j. guards j table) schema.indexes i listed on) h)

  -- a reference watches its columns
  pub reference_watched : (ref : Reference) → Has table.references ref → (p : ℕ) → Has ref.columns p → Has (watched schema table) p
  reference_watched ref known p h = has_right (indexed_places schema table) (referring_places table ++ pointed_places schema table) p (has_left (referring_places table) (pointed_places schema table) p (flat_has (λ (r : Reference). r.columns) table.references ref p known h))

  -- and the columns that it points to
  pub pointed_watched : (pointer : Pointer) → Has (pointers schema table.tree) pointer → (p : ℕ) → Has pointer.places p → Has (watched schema table) p
  pointed_watched pointer listed p h = has_right (indexed_places schema table) (referring_places table ++ pointed_places schema table) p (has_right (referring_places table) (pointed_places schema table) p (flat_has (λ (r : Pointer). r.places) (pointers schema table.tree) pointer p listed h))

-- ---- an UPDATE of columns that no key watches

module _ {T : Type 0} (form : Form T) (schema : Schema) (table : Table) (db next : Trees) (held : AreRows form (db table.tree)) (m : T → Bool) (f : T → T)
    (apart : IsAscending (λ (a b : Table). a.tree ≡ b.tree → ⊥) schema.tables) (listed : Has schema.tables table)
    (unwatched : (id : ℤ) (x : T) → m x ≡ true → map (column (put form (id, f x))) (watched schema table) ≡ map (column (put form (id, x))) (watched schema table))
    (rows : next table.tree ≡ map (put form) (update_where (λ (e : Entry T). m e.1) (λ e. (e.0, f e.1)) (entries form (db table.tree))))
    (others : (t : Table) → Has schema.tables t → t.tree ≢ table.tree → next t.tree ≡ db t.tree) where
  abbrev es : List (Entry T)
  es = entries form (db table.tree)

  abbrev turned : Entry T → Entry T
  turned e = cond (m e.1) (e.0, f e.1) e

  twin : (e : Entry T) → AreTwins (watched schema table) (put form (turned e)) (put form e)
  twin e = elim (cases_Bool (m e.1)) [
    | inl hits ↦ subst (λ b. AreTwins (watched schema table) (put form (cond b (e.0, f e.1) e)) (put form e)) (sym hits) (record { numbered = refl; alike = same_at (watched schema table) (put form (e.0, f e.1)) (put form e) (unwatched e.0 e.1 hits) })
    | inr misses ↦ subst (λ b. AreTwins (watched schema table) (put form (cond b (e.0, f e.1) e)) (put form e)) (sym misses) (record { numbered = refl; alike = λ p h. refl })
  ]

  -- each row has its twin before, and after
  before : (r : Row) → Has (next table.tree) r → (q : Row) × Has (db table.tree) q × AreTwins (watched schema table) r q
  before r h =
      let one = has_mapped (put form) _ r (subst (λ l. Has l r) rows h) in
      let two = has_mapped turned es one.0 one.1 in
      (put form two.0, subst (λ l. Has l (put form two.0)) (sym (stored form (db table.tree) held)) (mapped_has (put form) es two.0 two.1), subst (λ x. AreTwins (watched schema table) x (put form two.0)) (sym (one.2 ∙ ap (put form) two.2)) (twin two.0))

  after : (q : Row) → Has (db table.tree) q → (r : Row) × Has (next table.tree) r × AreTwins (watched schema table) r q
  after q h =
      let e = has_mapped (put form) es q (subst (λ l. Has l q) (stored form (db table.tree) held) h) in
      (put form (turned e.0), subst (λ l. Has l (put form (turned e.0))) (sym rows) (mapped_has (put form) _ (turned e.0) (mapped_has turned es e.0 e.1)), subst (AreTwins (watched schema table) (put form (turned e.0))) (sym e.2) (twin e.0))

  clash_before : (i : Index) → Has schema.indexes i → guards i table ≡ true → (r : Row) → Has (next table.tree) r → clashes i.order i.columns (next table.tree) r ≡ true
      → (q : Row) × Has (db table.tree) q × (clashes i.order i.columns (db table.tree) q ≡ true)
  clash_before i known on r there clash =
      let other = some_has _ (next table.tree) clash in
      let parts = and_parts _ _ other.2 in
      let q = before r there in
      let p = before other.0 other.1 in
      let watch = index_watched schema table i known on in
      let agrees : agree i.order i.columns p.0 i.columns q.0 ≡ true = sym (agree_same i.order i.columns i.columns other.0 p.0 r q.0 (λ n h. p.2.alike n (watch n h)) (λ n h. q.2.alike n (watch n h))) ∙ parts.0 in
      let differs : differ (rowid p.0) (rowid q.0) ≡ true = sym (ap₂ differ p.2.numbered q.2.numbered) ∙ parts.1 in
      (q.0, q.1, some_from (λ x. agree i.order i.columns x i.columns q.0 && differ (rowid x) (rowid q.0)) (db table.tree) p.0 p.1 (and_from _ _ agrees differs))

  -- Unique is kept
  pub unique_after : Keeps Unique schema db → Keeps Unique schema next
  unique_after keeps = keeps_from Unique schema next (λ t row known there. elim (cases_eq t.tree table.tree) [
    | inl same ↦
        let is : t ≡ table = same_table schema.tables t table apart known listed same in
        test_from _ schema.indexes (λ i indexed. not_from_false _ (false_from_ne_true _ (λ both.
        let parts = and_parts _ _ (subst (λ (u : Table). (guards i u && clashes i.order i.columns (next u.tree) row) ≡ true) is both) in
        let q = clash_before i indexed parts.0 row (subst (λ (u : Table). Has (next u.tree) row) is there) parts.1 in
        both_ways _ (not-true _ (test_has _ schema.indexes i (keeps_at Unique schema db table q.0 keeps listed q.1) indexed)) (and_from _ _ parts.0 q.2))))
    | inr other ↦ subst (λ l. list_all (λ (i : Index). not (guards i t && clashes i.order i.columns l row)) schema.indexes ≡ true) (sym (others t known other))
        (keeps_at Unique schema db t row keeps known (subst (λ l. Has l row) (others t known other) there))
  ])

  -- a parent is there still
  held_after : (t : Table) (ref : Reference) → Has schema.tables t → Has t.references ref → (row : Row) (o : Option ParentKey) → parent_key schema.tables ref ≡ o → is_held db ref.columns row o ≡ true → is_held next ref.columns row o ≡ true
  held_after t ref known has row None is h = h
  held_after t ref known has row (Some key) is h =
      let parent = some_has (λ p. agree key.2 key.1 p ref.columns row) (db key.0) h in
      elim (cases_eq key.0 table.tree) [
        | inl same ↦
            let it = after parent.0 (subst (λ n. Has (db n) parent.0) same parent.1) in
            let watch = pointed_watched schema table _ (pointer_listed schema t ref key table.tree known has is same) in
            some_from (λ p. agree key.2 key.1 p ref.columns row) (next key.0) it.0 (subst (λ n. Has (next n) it.0) (sym same) it.1)
            (agree_same key.2 key.1 ref.columns it.0 parent.0 row row (λ n there. it.2.alike n (watch n there)) (λ n _. refl) ∙ parent.2)
        | inr other ↦
            let u = parent_is_table schema.tables ref key is in
            some_from (λ p. agree key.2 key.1 p ref.columns row) (next key.0) parent.0 (subst (λ l. Has l parent.0) (sym (subst (λ n. next n ≡ db n) u.2 (others u.0 u.1 (λ e. other (sym u.2 ∙ e))))) parent.1) parent.2
      ]

  parent_after : (t : Table) (ref : Reference) → Has schema.tables t → Has t.references ref → (row : Row) → has_parent schema.tables db row ref ≡ true → has_parent schema.tables next row ref ≡ true
  parent_after t ref known has row h = elim (or_cases _ _ h) [ inl null ↦ or_left _ _ null | inr there ↦ or_right _ _ (held_after t ref known has row (parent_key schema.tables ref) refl there) ]

  -- each row has its parents
  pub refers_after : (among : Among) → Keeps ForeignKey schema db → Refers among schema next
  refers_after among keeps = refers_from among schema next (λ t ref row known has is there. elim (cases_eq t.tree table.tree) [
    | inl same ↦
        let here : t ≡ table = same_table schema.tables t table apart known listed same in
        let q = before row (subst (λ (u : Table). Has (next u.tree) row) here there) in
        let watch = reference_watched schema table ref (subst (λ (u : Table). Has u.references ref) here has) in
        let was = test_has _ table.references ref (keeps_at ForeignKey schema db table q.0 keeps listed q.1) (subst (λ (u : Table). Has u.references ref) here has) in
        same_parent ref row q.0 (λ n h. q.2.alike n (watch n h)) (parent_after t ref known has q.0 was)
    | inr other ↦ parent_after t ref known has row (test_has _ t.references ref (keeps_at ForeignKey schema db t row keeps known (subst (λ l. Has l row) (others t known other) there)) has)
  ])
    where
      held_alike : (ref : Reference) (a b : Row) → ((p : ℕ) → Has ref.columns p → column a p ≡ column b p) → (o : Option ParentKey) → is_held next ref.columns b o ≡ true → is_held next ref.columns a o ≡ true
      held_alike ref a b alike None h = h
      held_alike ref a b alike (Some key) h =
          let parent = some_has (λ p. agree key.2 key.1 p ref.columns b) (next key.0) h in
          some_from (λ p. agree key.2 key.1 p ref.columns a) (next key.0) parent.0 parent.1 (agree_same key.2 key.1 ref.columns parent.0 parent.0 a b (λ n _. refl) alike ∙ parent.2)

      same_parent : (ref : Reference) (a b : Row) → ((p : ℕ) → Has ref.columns p → column a p ≡ column b p) → has_parent schema.tables next b ref ≡ true → has_parent schema.tables next a ref ≡ true
      same_parent ref a b alike h = elim (or_cases _ _ h) [ inl null ↦ or_left _ _ (null_same ref.columns a b alike ∙ null) | inr there ↦ or_right _ _ (held_alike ref a b alike (parent_key schema.tables ref) there) ]

-- ---- a DELETE of rows that none points to

moved_old : (olds news : List Row) (move : Row × Row) → Has (pairs olds news) move → Has olds move.0
moved_old [] news move h = absurd h
moved_old (old ∷ olds) news move (inl same) = inl (ap (λ (p : Row × Row). p.0) same)
moved_old (old ∷ olds) news move (inr more) = inr (moved_old olds (drop 1 news) move more)

module _ (schema : Schema) (db next : Trees) (edit : Edit) (none : edit.news ≡ []) (turn : Turns schema db next edit.table (Rattle.sqlite.specs.Edit.left_by db edit) (taken_by db edit) edit.news)
    (unused : AreUnused schema db edit.table.tree (taken_by db edit)) where
  -- a row that is there was there
  was_there : (t : Table) → Has schema.tables t → (row : Row) → Has (next t.tree) row → Has (db t.tree) row
  was_there t known row there = elim (cases_eq t.tree edit.table.tree) [
    | inl same ↦ elim (turn.from row (subst (λ n. Has (next n) row) same there)) [
      | inl new ↦ absurd (subst (λ l. Has l row) none new)
      | inr left ↦ subst (λ n. Has (db n) row) (sym same) (turn.was row left)
    ]
    | inr other ↦ subst (λ l. Has l row) (turn.others t known other) there
  ]

  -- no row points to one that was taken out
  points_to_none : (t : Table) (ref : Reference) (key : ParentKey) → Has schema.tables t → Has t.references ref → parent_key schema.tables ref ≡ Some key → key.0 ≡ edit.table.tree
      → (row old : Row) → Has (db t.tree) row → Has (taken_by db edit) old → agree key.2 ref.columns row key.1 old ≡ true → ⊥
  points_to_none t ref key known has is here row old there taken agrees =
      let p : Pointer = record { child = t.tree; columns = ref.columns; places = key.1; order = key.2 } in
      both_ways _ (all_has _ (pointers schema edit.table.tree) p unused (pointer_listed schema t ref key edit.table.tree known has is here))
      (some_from (λ r. list_any (points_at p r) (taken_by db edit)) (db t.tree) row there (some_from (points_at p row) (taken_by db edit) old taken agrees))

  -- so no action of a foreign key holds the DELETE back
  pub not_held_back : IsHeldBack next (works schema Enforced 0 edit.table.tree (taken_by db edit) []) → ⊥
  not_held_back h =
      let w = work_of schema edit.table.tree (taken_by db edit) [] h.0 h.1 in
      let move = some_has (is_child_of h.0 h.2) h.0.moves h.4 in
      let old = moved_old (taken_by db edit) [] move.0 (subst (λ l. Has l move.0) w.moves move.1) in
      let agrees = (and_parts _ _ move.2).1 in
      points_to_none h.0.child h.0.ref w.key w.listed w.known w.key_is w.here h.2 move.0.0 (was_there h.0.child w.listed h.2 h.3) old
      (subst (λ o. agree o h.0.ref.columns h.2 w.key.1 move.0.0 ≡ true) w.order (subst (λ l. agree h.0.order h.0.ref.columns h.2 l move.0.0 ≡ true) w.places agrees))

  held_left : (t : Table) (ref : Reference) → Has schema.tables t → Has t.references ref → (row : Row) → Has (db t.tree) row → (o : Option ParentKey) → parent_key schema.tables ref ≡ o → is_held db ref.columns row o ≡ true → is_held next ref.columns row o ≡ true
  held_left t ref known has row there None is h = h
  held_left t ref known has row there (Some key) is h =
      let parent = some_has (λ p. agree key.2 key.1 p ref.columns row) (db key.0) h in
      let found = some_from (λ p. agree key.2 key.1 p ref.columns row) (next key.0) parent.0 in
      elim (cases_eq key.0 edit.table.tree) [
        | inl same ↦ elim (turn.split parent.0 (subst (λ n. Has (db n) parent.0) same parent.1)) [
          | inl left ↦ found (subst (λ n. Has (next n) parent.0) (sym same) (turn.stays parent.0 left)) parent.2
          | inr taken ↦ absurd (points_to_none t ref key known has is same row parent.0 there taken (agree_back key.2 key.1 ref.columns parent.0 row parent.2))
        ]
        | inr other ↦
            let u = parent_is_table schema.tables ref key is in
            found (subst (λ l. Has l parent.0) (sym (subst (λ n. next n ≡ db n) u.2 (turn.others u.0 u.1 (λ e. other (sym u.2 ∙ e))))) parent.1) parent.2
      ]

  -- and each row that is left has its parents
  pub refers_left : (among : Among) → Keeps ForeignKey schema db → Refers among schema next
  refers_left among keeps = refers_from among schema next (λ t ref row known has is there.
      let before = was_there t known row there in
      elim (or_cases _ _ (test_has _ t.references ref (keeps_at ForeignKey schema db t row keeps known before) has)) [
        | inl null ↦ or_left _ _ null
        | inr held ↦ or_right _ _ (held_left t ref known has row before (parent_key schema.tables ref) refl held)
      ])
