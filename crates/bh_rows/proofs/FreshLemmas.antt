-- The rows that an edit takes out are those that the statement found, and the rows that it puts back are at free numbers.
use Rattle.std.proofs.Common.{◌≡◌, inl, inr, ℤ, List, [], ◌∷◌, map, filter, not, Bool, true, false, refl, sym, ap, subst, ◌∙◌, is_eq}
use Rattle.std.specs.Cmp.{Equal-is}
use Rattle.std.specs.List.Sorted.{IsPermutation}
use Rattle.std.proofs.lemmas.Bool.{and_from, not-true, both_ways, false_from_ne_true}
use Rattle.std.proofs.lemmas.Cmp.{tied_itself, tied_back}
use Rattle.std.proofs.lemmas.List.Sorted.{IsPermutation-sym}
use Rattle.sqlite.specs.declared.types.Value.TheVariants.{Int}
use Rattle.sqlite.specs.Order.{Row, value_cmp}
use Rattle.sqlite.specs.Tree.{IsAscending, rowid, put_row}
use Rattle.sqlite.specs.Edit.{are_fresh, without_all, row_at}
use Rattle.sqlite_value.proofs.OrderLemmas.{value_cmp-Int, value_cmp_total}
use Rattle.sqlite_rules.specs.Lists.{Has}
use Rattle.sqlite_rules.proofs.ListLemmas.{all_has, all_from, some_has, has_filtered}
use Rattle.sqlite_rules.proofs.PlaceLemmas.{row_at_is, tied_same}
use Rattle.sqlite_rules.proofs.ProbeLemmas.{has_mapped, mapped_has}
use Rattle.sqlite_rules.proofs.TableLemmas.{put_has}
use Rattle.sqlite_keyed.proofs.KeyedLemmas.{Less-from_lt}
use Rattle.sqlite_keyed.proofs.ListLemmas.{ascending-map, ascending-filter, ascending_weaker}
use Rattle.sqlite_trees.proofs.ListLemmas.{along_permutation}
use Rattle.bh_rows.specs.Form.{Form, AreRows, Entry, put, entries}
use Rattle.bh_rows.proofs.FormLemmas.{stored, keyed}
use Rattle.bh_rows.proofs.EditLemmas.{has_permuted, left_is}

-- two rows at two numbers
abbrev Apart : Row → Row → Type 0
Apart a b = is_eq (value_cmp (rowid a) (rowid b)) ≡ false

apart_back : (a b : Row) → Apart a b → Apart b a
apart_back a b h = false_from_ne_true _ (λ tie. both_ways _ h (ap is_eq (tied_back value_cmp_total (rowid b) (rowid a) ((Equal-is _).0 tie))))

-- that each two are apart does not turn on the order
abbrev Still : List Row → List Row → Type 0
Still xs ys = (IsAscending Apart xs → IsAscending Apart ys) × ((x : Row) → Has ys x → Has xs x)

apart_permuted : (xs ys : List Row) → IsPermutation xs ys → Still xs ys
apart_permuted = along_permutation Still
    (λ xs. (λ h. h, λ x h. h))
    (λ x xs ys later. (
      λ h. (all_from (Apart x) ys (λ y there. all_has (Apart x) xs y h.0 (later.1 y there)), later.0 h.1),
      λ y h. elim h [ inl same ↦ inl same | inr more ↦ inr (later.1 y more) ],
    ))
    (λ x y xs. (
      λ h. ((apart_back x y h.0.0, h.1.0), (h.0.1, h.1.1)),
      λ z h. elim h [ inl same ↦ inr (inl same) | inr more ↦ elim more [ inl same ↦ inl same | inr rest ↦ inr (inr rest) ] ],
    ))
    (λ xs ys zs a b. (λ h. b.0 (a.0 h), λ x h. a.1 x (b.1 x h)))

fresh_apart : (news rows : List Row) → IsAscending Apart news → ((x n : Row) → Has rows x → Has news n → Apart x n) → are_fresh rows news ≡ true
fresh_apart [] rows up free = refl
fresh_apart (n ∷ news) rows up free = and_from _ _
    (ap not (false_from_ne_true _ (λ taken. let x = some_has (λ r. is_eq (value_cmp (rowid r) (rowid n))) rows taken in both_ways _ (free x.0 n x.1 (inl refl)) x.2)))
    (fresh_apart news (put_row n rows) up.1 (λ x m h k. elim (put_has n rows x h) [
      | inl same ↦ subst (λ y. Apart y m) (sym same) (all_has (Apart n) news m up.0 k)
      | inr old ↦ free x m old (inr k)
    ]))

module _ {T : Type 0} (form : Form T) (rows : List Row) (held : AreRows form rows) (m : T → Bool) where
  abbrev es : List (Entry T)
  es = entries form rows

  abbrev hit : Entry T → Bool
  hit e = m e.1

  abbrev id_of : Entry T → ℤ
  id_of e = e.0

  -- an entry is a row
  pub entry_there : (e : Entry T) → Has es e → Has rows (put form e)
  entry_there e h = subst (λ l. Has l (put form e)) (sym (stored form rows held)) (mapped_has (put form) es e h)

  -- what is taken out was found
  pub taken_hit : (ids : List ℤ) → IsPermutation (map id_of (filter hit es)) ids → (r : Row) → Has (map (row_at rows) ids) r → Has (map (put form) (filter hit es)) r
  taken_hit ids perm r h =
      let id = has_mapped (row_at rows) ids r h in
      let e = has_mapped id_of (filter hit es) id.0 (has_permuted _ _ id.0 (IsPermutation-sym _ _ perm) id.1) in
      let there = has_filtered hit es e.0 e.1 in
      let is : row_at rows id.0 ≡ put form e.0 = row_at_is rows id.0 (put form e.0) held.rises (entry_there e.0 there.0) (ap is_eq (ap (λ n. value_cmp (Int n) (Int id.0)) (sym e.2) ∙ tied_itself value_cmp_total (Int id.0))) in
      subst (Has (map (put form) (filter hit es))) (sym (id.2 ∙ is)) (mapped_has (put form) (filter hit es) e.0 e.1)

  module _ (f : T → T) where
    abbrev changed : Entry T → Entry T
    changed e = (e.0, f e.1)

    hits_apart : IsAscending Apart (map (λ e. put form (changed e)) (filter hit es))
    hits_apart = ascending-map Apart (λ e. put form (changed e)) (filter hit es) (ascending-filter _ hit es
        (ascending_weaker _ _ (λ a b h. ap is_eq (value_cmp-Int a.0 b.0 ∙ Less-from_lt a.0 b.0 h)) es (keyed form rows held)))

    -- a row that stays and a row that was found are at two numbers
    stays_apart : (x d : Entry T) → Has es x → hit x ≡ false → Has es d → hit d ≡ true → Apart (put form x) (put form (changed d))
    stays_apart x d there misses also hits = false_from_ne_true _ (λ tie.
        let same : put form x ≡ put form d = tied_same rows (put form x) (put form d) held.rises (entry_there x there) (entry_there d also) ((Equal-is _).0 tie) in
        both_ways _ misses (ap m (sym (form.back (Int x.0) x.1) ∙ ap form.decode same ∙ form.back (Int d.0) d.1) ∙ hits))

    -- what an UPDATE puts back is at free numbers
    pub update_fresh : (ids : List ℤ) (news : List Row) → IsPermutation (map id_of (filter hit es)) ids → IsPermutation (map (λ e. put form (changed e)) (filter hit es)) news → are_fresh (without_all rows ids) news ≡ true
    update_fresh ids news perm renewed = fresh_apart news (without_all rows ids) ((apart_permuted _ news renewed).0 hits_apart) (λ x n there new.
        let e = has_mapped (put form) _ x (subst (λ l. Has l x) (left_is form rows held m ids perm) there) in
        let stays = has_filtered (λ y. not (hit y)) es e.0 e.1 in
        let d = has_mapped (λ y. put form (changed y)) (filter hit es) n (has_permuted _ _ n (IsPermutation-sym _ _ renewed) new) in
        let found = has_filtered hit es d.0 d.1 in
        subst (λ y. Apart y n) (sym e.2) (subst (Apart (put form e.0)) (sym d.2) (stays_apart e.0 d.0 stays.0 (not-true _ stays.1) found.0 found.1)))
