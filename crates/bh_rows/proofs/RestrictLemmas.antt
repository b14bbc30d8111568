-- Where no foreign key writes, an edit is its one step, or is refused by a rule or by a row that points to what it takes out.
use Rattle.std.proofs.Common.{◌≡◌, ◌⊎◌, inl, inr, ℕ, zero, suc, ◌+◌, ◌==◌, nat_lt, ℤ, List, [], ◌∷◌, ◌++◌, length, filter_map, flat_map, cond, Bool, true, false, ◌&&◌, true≢false, Option, None, Some, MatchBool, Ok, Err, Result, refl, sym, ap, subst, ◌∙◌}
use Rattle.std.specs.List.{AllByRecursion, list_any, cons_option}
use Rattle.std.proofs.lemmas.Bool.{and_parts, eqb-true}
use Rattle.sqlite.specs.Order.{Row}
use Rattle.sqlite.specs.Tree.{Trees}
use Rattle.sqlite.specs.Table.{Table}
use Rattle.sqlite.specs.Schema.{Schema}
use Rattle.std.proofs.Math.Dec.{eqb-suc-zero}
use Rattle.sqlite.specs.Rowids.TheVariants.{Given}
use Rattle.sqlite.specs.Edit.{Edit, Applies, IsRefused, edit_of, taken_by}
use Rattle.sqlite_rules.specs.Calls.{ids_of}
use Rattle.sqlite_rules.proofs.ActionLemmas.{no_works}
use Rattle.sqlite_schema.specs.declared.schema.Action.{Action}
use Rattle.sqlite_schema.specs.declared.schema.Action.TheVariants.{NoAction, Restrict, Cascade, SetNull, SetDefault}
use Rattle.sqlite_schema.specs.declared.schema.Constraint.TheVariants.{ForeignKey}
use Rattle.sqlite_schema.specs.declared.schema.Keys.TheVariants.{Enforced}
use Rattle.sqlite_schema.specs.declared.schema.Reference.{Reference}
use Rattle.sqlite_schema.specs.Rules.{ParentKey, parent_key}
use Rattle.sqlite_rules.specs.declared.action.Deed.{Deed}
use Rattle.sqlite_rules.specs.declared.action.Deed.TheVariants.{Refuse}
use Rattle.sqlite_rules.specs.declared.error.Refusal.{Refusal}
use Rattle.sqlite_rules.specs.declared.error.Refusal.TheVariants.{Violates, TooDeep}
use Rattle.sqlite_rules.specs.Lists.{Has}
use Rattle.sqlite_rules.specs.Action.{Work, pairs, loses, work_by, work_for, works, deed_for, deed_of, is_child_of, refuses, max_depth, AreChildren, ActsOn, Acts, Leads, Writes, Goes, action_edit}
use Rattle.sqlite_rules.proofs.ListLemmas.{all_has, all_from, has_left, has_right, has_either, test_has}
use Rattle.bh_rows.specs.Keys.{is_passive, is_none, is_passive_schema, ignores_updates}

-- ---- lists

-- an element of `filter_map` comes from one
pub has_mapped_some : {X Y : Type 0} (f : X → Option Y) (xs : List X) (y : Y) → Has (filter_map f xs) y → (x : X) × Has xs x × (f x ≡ Some y)
has_mapped_some f [] y h = absurd h
has_mapped_some {X} {Y} f (x ∷ xs) y h = go (f x) refl h (has_mapped_some f xs y)
  where
    go : (o : Option Y) → f x ≡ o → Has (cons_option o (filter_map f xs)) y → (Has (filter_map f xs) y → (z : X) × Has xs z × (f z ≡ Some y)) → (z : X) × Has (x ∷ xs) z × (f z ≡ Some y)
    go None is there more = let later = more there in (later.0, inr later.1, later.2)
    go (Some z) is (inl same) more = (x, inl refl, is ∙ ap Some (sym same))
    go (Some z) is (inr there) more = let later = more there in (later.0, inr later.1, later.2)

-- an element of `flat_map` comes from one
pub has_flat : {X Y : Type 0} (f : X → List Y) (xs : List X) (y : Y) → Has (flat_map f xs) y → (x : X) × Has xs x × Has (f x) y
has_flat f [] y h = absurd h
has_flat f (x ∷ xs) y h = elim (has_either (f x) (flat_map f xs) y h) [
  | inl here ↦ (x, inl refl, here)
  | inr there ↦ let later = has_flat f xs y there in (later.0, inr later.1, later.2)
]

-- and the other way round
pub flat_has : {X Y : Type 0} (f : X → List Y) (xs : List X) (x : X) (y : Y) → Has xs x → Has (f x) y → Has (flat_map f xs) y
flat_has f [] x y h there = absurd h
flat_has f (z ∷ xs) x y (inl same) there = has_left (f z) (flat_map f xs) y (subst (λ w. Has (f w) y) same there)
flat_has f (z ∷ xs) x y (inr later) there = has_right (f z) (flat_map f xs) y (flat_has f xs x y later there)

-- a list with no element is empty
pub none_left : {X : Type 0} (xs : List X) → ((x : X) → Has xs x → ⊥) → xs ≡ []
none_left [] h = refl
none_left (x ∷ xs) h = absurd (h x (inl refl))

-- ---- the actions that a step sets off

-- an action is that of a reference to the table, on rows that are taken out
pub record IsWorkOf (schema : Schema) (tree : ℕ) (olds news : List Row) (w : Work) : Type 0 where
  pub listed : Has schema.tables w.child
  pub known : Has w.child.references w.ref
  pub at_first : w.depth ≡ 0
  pub key : ParentKey
  pub key_is : parent_key schema.tables w.ref ≡ Some key
  pub here : key.0 ≡ tree
  pub places : w.places ≡ key.1
  pub order : w.order ≡ key.2
  pub moves : w.moves ≡ pairs olds news
  pub deed : deed_for Enforced (length news == 0) w.ref ≡ Some w.deed

work_is : (schema : Schema) (tree : ℕ) (olds news : List Row) (child : Table) (ref : Reference) (w : Work) → Has schema.tables child → Has child.references ref
    → (d : Option Deed) (k : Option ParentKey) → deed_for Enforced (length news == 0) ref ≡ d → parent_key schema.tables ref ≡ k → work_by 0 tree (pairs olds news) child ref d k ≡ Some w → IsWorkOf schema tree olds news w
work_is schema tree olds news child ref w listed known None k deed key h = absurd (cc)
work_is schema tree olds news child ref w listed known (Some d) None deed key h = absurd (cc)
work_is schema tree olds news child ref w listed known (Some d) (Some k) deed key h = go ((k.0 == tree) && list_any (loses k.2 k.1) (pairs olds news)) refl h
  where
    made : Work
    made = record { depth = 0; child = child; ref = ref; places = k.1; order = k.2; deed = d; moves = pairs olds news }

    go : (b : Bool) → ((k.0 == tree) && list_any (loses k.2 k.1) (pairs olds news)) ≡ b → cond b (Some made) None ≡ Some w → IsWorkOf schema tree olds news w
    go false is found = absurd (cc)
    go true is found = let same : made ≡ w = cc in subst (IsWorkOf schema tree olds news) same (record {
      listed = listed;
      known = known;
      at_first = refl;
      key = k;
      key_is = key;
      here = eqb-true k.0 tree (and_parts _ _ is).0;
      places = refl;
      order = refl;
      moves = refl;
      deed = deed;
    })

-- each action that is set off is one
pub work_of : (schema : Schema) (tree : ℕ) (olds news : List Row) (w : Work) → Has (works schema Enforced 0 tree olds news) w → IsWorkOf schema tree olds news w
work_of schema tree olds news w h =
    let t = has_flat (λ (child : Table). filter_map (work_for schema Enforced 0 tree olds news child) child.references) schema.tables w h in
    let ref = has_mapped_some (work_for schema Enforced 0 tree olds news t.0) t.0.references w t.2 in
    work_is schema tree olds news t.0 ref.0 w t.1 ref.1 _ _ refl refl ref.2

-- where no reference acts on an UPDATE, it sets nothing off
pub quiet_update : (schema : Schema) (tree : ℕ) (olds news : List Row) → ignores_updates schema ≡ true → (length news == 0) ≡ false → works schema Enforced 0 tree olds news ≡ []
quiet_update schema tree olds news ignores some = none_left _ (λ w h.
    let it = work_of schema tree olds news w h in
    let none = test_has _ w.child.references w.ref (test_has _ schema.tables w.child ignores it.listed) it.known in
    idle w.ref.on_update none w.deed (subst (λ b. deed_of Enforced b (cond b w.ref.on_delete w.ref.on_update) ≡ Some w.deed) some it.deed))
  where
    idle : (a : Action) → is_none a ≡ true → (d : Deed) → deed_of Enforced false a ≡ Some d → ⊥
    idle NoAction h d is = absurd (cc)
    idle Restrict h d is = true≢false (sym h)
    idle Cascade h d is = true≢false (sym h)
    idle SetNull h d is = true≢false (sym h)
    idle SetDefault h d is = true≢false (sym h)

-- so the edit of an UPDATE sets nothing off
pub update_works : (schema : Schema) (db : Trees) (table : Table) → ignores_updates schema ≡ true → (rows : List Row)
    → works schema Enforced 0 table.tree (taken_by db (edit_of db table (ids_of rows) Given 1 rows)) (edit_of db table (ids_of rows) Given 1 rows).news ≡ []
update_works schema db table ignores [] = no_works schema Enforced 0 table.tree []
update_works schema db table ignores (r ∷ rows) = let e = edit_of db table (ids_of (r ∷ rows)) Given 1 (r ∷ rows) in quiet_update schema table.tree (taken_by db e) e.news ignores (eqb-suc-zero _)

-- where no reference writes on a DELETE, all that it sets off are refusals
abbrev pub IsRefusal : Work → Type 0
IsRefusal w = (w.deed ≡ Refuse) × (w.depth ≡ 0)

-- each action that a DELETE sets off
pub only_refusals : (schema : Schema) (tree : ℕ) (olds : List Row) → is_passive_schema schema ≡ true → AllByRecursion IsRefusal (works schema Enforced 0 tree olds [])
only_refusals schema tree olds passive = all_from _ _ (λ w h.
    let it = work_of schema tree olds [] w h in
    let none = test_has _ w.child.references w.ref (test_has _ schema.tables w.child passive it.listed) it.known in
    (refusal w.ref.on_delete none w.deed it.deed, it.at_first))
  where
    refusal : (a : Action) → is_passive a ≡ true → (d : Deed) → deed_of Enforced true a ≡ Some d → d ≡ Refuse
    refusal NoAction h d is = absurd (cc)
    refusal Restrict h d is = let same : Refuse ≡ d = cc in sym same
    refusal Cascade h d is = absurd (true≢false (sym h))
    refusal SetNull h d is = absurd (true≢false (sym h))
    refusal SetDefault h d is = absurd (true≢false (sym h))

-- ---- how they end

-- a row that an action refuses for
abbrev pub IsHeldBack : Trees → List Work → Type 0
IsHeldBack db stack = (w : Work) × Has stack w × (row : Row) × Has (db w.child.tree) row × (list_any (is_child_of w row) w.moves ≡ true)

module _ (schema : Schema) (db : Trees) where
  abbrev Done : ℕ → List Work → Result Trees (Option Refusal) → Type 0
  Done n below end = Leads schema Enforced n db below end

  -- a refusal passes where there is no child, and ends the step where there is one
  refusal_acts : (n : ℕ) (w : Work) (below : List Work) (end : Result Trees (Option Refusal)) → IsRefusal w → Acts schema Enforced (Leads schema Enforced n) db w below end
      → Done n below end ⊎ (((row : Row) × Has (db w.child.tree) row × (list_any (is_child_of w row) w.moves ≡ true)) × (end ≡ Err (Some (Violates ForeignKey))))
  refusal_acts n w below end it acts = found (subst (λ d. MatchBool (nat_lt d max_depth) ((ids : List ℤ) × AreChildren db w ids × ActsOn schema Enforced (Leads schema Enforced n) db w below end ids) (end ≡ Err (Some TooDeep))) it.1 acts)
    where
      on : (ids : List ℤ) → AreChildren db w ids → ActsOn schema Enforced (Leads schema Enforced n) db w below end ids
          → Done n below end ⊎ (((row : Row) × Has (db w.child.tree) row × (list_any (is_child_of w row) w.moves ≡ true)) × (end ≡ Err (Some (Violates ForeignKey))))
      on [] children h = inl h
      on (id ∷ ids) children h = let child = children.sound id (inl refl) in inr ((child.0, child.1, child.2), subst (λ d. MatchBool (refuses d) (end ≡ Err (Some (Violates ForeignKey))) (Goes schema Enforced (Leads schema Enforced n) db (action_edit db w (id ∷ ids)) (w.depth + 1) below end)) it.0 h)

      found : (ids : List ℤ) × AreChildren db w ids × ActsOn schema Enforced (Leads schema Enforced n) db w below end ids
          → Done n below end ⊎ (((row : Row) × Has (db w.child.tree) row × (list_any (is_child_of w row) w.moves ≡ true)) × (end ≡ Err (Some (Violates ForeignKey))))
      found h = on h.0 h.1 h.2

  leads_ok : (n : ℕ) (stack : List Work) (next : Trees) → AllByRecursion IsRefusal stack → Leads schema Enforced n db stack (Ok next) → next ≡ db
  leads_ok zero stack next all h = let e = h.1 in cc
  leads_ok (suc n) stack next all h =
      let refusals = subst (AllByRecursion IsRefusal) h.2 all in
      let below = all_from IsRefusal h.0 (λ w there. all_has IsRefusal _ w refusals (has_left h.0 (h.1 ∷ []) w there)) in
      elim (refusal_acts n h.1 h.0 (Ok next) (all_has IsRefusal _ h.1 refusals (has_right h.0 (h.1 ∷ []) h.1 (inl refl))) h.3) [
        | inl on ↦ leads_ok n h.0 next below on
        | inr ends ↦ absurd (let e = ends.1 in cc)
      ]

  leads_refused : (n : ℕ) (stack : List Work) (r : Refusal) → AllByRecursion IsRefusal stack → Leads schema Enforced n db stack (Err (Some r)) → IsHeldBack db stack
  leads_refused zero stack r all h = absurd (let e = h.1 in cc)
  leads_refused (suc n) stack r all h =
      let refusals = subst (AllByRecursion IsRefusal) h.2 all in
      let below = all_from IsRefusal h.0 (λ w there. all_has IsRefusal _ w refusals (has_left h.0 (h.1 ∷ []) w there)) in
      let here : Has (h.0 ++ h.1 ∷ []) h.1 = has_right h.0 (h.1 ∷ []) h.1 (inl refl) in
      elim (refusal_acts n h.1 h.0 (Err (Some r)) (all_has IsRefusal _ h.1 refusals here) h.3) [
        | inl on ↦ let back = leads_refused n h.0 r below on in (back.0, subst (λ l. Has l back.0) (sym h.2) (has_left h.0 (h.1 ∷ []) back.0 back.1), back.2, back.3, back.4)
        | inr ends ↦ (h.1, subst (λ l. Has l h.1) (sym h.2) here, ends.0.0, ends.0.1, ends.0.2)
      ]

-- an edit whose actions are refusals, if it succeeds, is its one step
pub one_edit : (schema : Schema) (db next : Trees) (edit : Edit) → AllByRecursion IsRefusal (works schema Enforced 0 edit.table.tree (taken_by db edit) edit.news)
    → Writes schema Enforced db edit (Ok next) → Applies schema Enforced db edit next
one_edit schema db next edit all (inl refused) = absurd (let e = refused.2 in cc)
one_edit schema db next edit all (inr (inl big)) = absurd (let e = big.3 in cc)
one_edit schema db next edit all (inr (inr went)) = subst (Applies schema Enforced db edit) (sym (leads_ok schema went.0 went.2.0 _ next all went.2.1)) went.1

-- and if it is refused, then by a rule, or for a row that points to what it takes out
pub one_refused : (schema : Schema) (db : Trees) (edit : Edit) (r : Refusal) → AllByRecursion IsRefusal (works schema Enforced 0 edit.table.tree (taken_by db edit) edit.news)
    → Writes schema Enforced db edit (Err (Some r)) → IsRefused schema Enforced db edit r ⊎ ((next : Trees) × Applies schema Enforced db edit next × IsHeldBack next (works schema Enforced 0 edit.table.tree (taken_by db edit) edit.news))
one_refused schema db edit r all (inl refused) = let same : r ≡ refused.0 = let e = refused.2 in cc in inl (subst (IsRefused schema Enforced db edit) (sym same) refused.1)
one_refused schema db edit r all (inr (inl big)) = absurd (let e = big.3 in cc)
one_refused schema db edit r all (inr (inr went)) = inr (went.0, went.1, leads_refused schema went.0 went.2.0 _ r all went.2.1)
