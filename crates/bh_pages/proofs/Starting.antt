-- Rows up to the marker show nothing, so reading begins after it.
use Rattle.std.proofs.Common.{◌≡◌, Bool, true, false, true≢false, cond, List, [], ◌∷◌, Option, Some, None, refl, sym, ap, subst, ◌∙◌, Ordering, Less, Equal, Greater}
use Rattle.std.specs.List.{AllByRecursion}
use Rattle.std.specs.Ordering.{is_le, is_lt, ordering_reverse}
use Rattle.std.proofs.lemmas.Cmp.{nat_list_cmp_total}
use Rattle.bh_model.specs.State.{Octets, octets_cmp}
use Rattle.bh_model.specs.Pages.{Listed, begins, is_before, is_upto, same, rolled, as_listed, after_name, name_of, entry_of}
use Rattle.bh_pages.specs.Gathered.{InOrder, nothing_gathered, to_come, rows_from, past_key, start_of}
use Rattle.bh_pages.proofs.Bytes.{upto_trans, upto_begun, upto_other, upto_self, from_past_key, rolled_begins, same_is, upto_past_key}
use Rattle.bh_pages.proofs.Skipping.{AreIdle, not_passed, rows_skipped, all_from}

no_less : (o : Ordering) → is_le o ≡ true → is_lt (ordering_reverse o) ≡ false
no_less Less h = refl
no_less Equal h = refl
no_less Greater h = absurd (true≢false (sym h))

not_after : (t n : Octets) → is_upto n t ≡ true → is_before t n ≡ false
not_after t n h = ap is_lt (nat_list_cmp_total.antisymm t n) ∙ no_less (octets_cmp n t) h

-- what stands before the least text after a marker is not after the marker
not_past : (t y : Octets) → is_upto (past_key t) y ≡ false → is_upto y t ≡ true
not_past t y h = go (is_upto t y) refl
  where
    at_same : same t y ≡ true → is_upto y t ≡ true
    at_same e = subst (λ z. is_upto z t ≡ true) (same_is t y e) (upto_self t)

    further : is_upto t y ≡ true → (b : Bool) → same t y ≡ b → is_upto y t ≡ true
    further e true k = at_same k
    further e false k = absurd (true≢false (sym (from_past_key t y e k) ∙ h))

    go : (b : Bool) → is_upto t y ≡ b → is_upto y t ≡ true
    go true e = further e (same t y) refl
    go false e = upto_other t y e

module _ {R T : Type 0} (row_key : R → Octets) (item : R → Option T) (prefix delimiter : Octets) (item_key : T → Octets) (t : Octets) (keyed : (r : R) (x : T) → item r ≡ Some x → item_key x ≡ row_key r) where
  abbrev passes : Listed T → Bool
  passes = after_name item_key (Some t)

  name_low : (x : T) → begins prefix (item_key x) ≡ true → is_upto (name_of item_key (entry_of prefix delimiter item_key x)) (item_key x) ≡ true
  name_low x under = go (rolled prefix delimiter (item_key x)) refl
    where
      go : (o : Option Octets) → rolled prefix delimiter (item_key x) ≡ o → is_upto (name_of item_key (as_listed x o)) (item_key x) ≡ true
      go None is = upto_self (item_key x)
      go (Some p) is = upto_begun p (item_key x) (rolled_begins prefix delimiter (item_key x) p under is)

  idle : (rows : List R) → AllByRecursion (λ r. begins prefix (row_key r) ≡ true) rows → AreIdle row_key item prefix delimiter item_key passes (past_key t) None rows
  idle [] under = tt
  idle (r ∷ rows) under = (
    λ before x has.
        let at : item_key x ≡ row_key r = keyed r x has in
        not_passed row_key item prefix delimiter item_key passes None (entry_of prefix delimiter item_key x)
        (not_after t _ (upto_trans _ (item_key x) t (name_low x (subst (λ z. begins prefix z ≡ true) (sym at) under.0)) (subst (λ z. is_upto z t ≡ true) (sym at) (not_past t (row_key r) before)))),
    idle rows under.1,
  )

  -- what is to come from the marker on is all
  pub start_step : (rows : List R) → InOrder row_key rows → AllByRecursion (λ r. begins prefix (row_key r) ≡ true) rows
      → to_come row_key item prefix delimiter item_key passes nothing_gathered rows ≡ to_come row_key item prefix delimiter item_key passes nothing_gathered (rows_from row_key (past_key t) rows)
  start_step rows up under = rows_skipped row_key item prefix delimiter item_key passes (past_key t) None rows None None tt tt up (idle rows under)

module _ {R T : Type 0} (row_key : R → Octets) (item : R → Option T) (prefix delimiter : Octets) (item_key : T → Octets) (keyed : (r : R) (x : T) → item r ≡ Some x → item_key x ≡ row_key r)
    (rows : List R) (up : InOrder row_key rows) (under : AllByRecursion (λ r. begins prefix (row_key r) ≡ true) rows) where
  above : (l : List R) → AllByRecursion (λ r. begins prefix (row_key r) ≡ true) l → AllByRecursion (λ r. is_upto prefix (row_key r) ≡ true) l
  above [] all = tt
  above (r ∷ l) all = (upto_begun prefix (row_key r) all.0, above l all.1)

  pub start_any : (token : Option Octets) → to_come row_key item prefix delimiter item_key (after_name item_key token) nothing_gathered rows
      ≡ to_come row_key item prefix delimiter item_key (after_name item_key token) nothing_gathered (rows_from row_key (start_of prefix token) rows)
  start_any None = ap (to_come row_key item prefix delimiter item_key (after_name item_key None) nothing_gathered) (sym (all_from row_key item prefix delimiter item_key (after_name item_key None) prefix rows (above rows under)))
  start_any (Some t) = elim (is_upto prefix t) as (λ b. to_come row_key item prefix delimiter item_key (after_name item_key (Some t)) nothing_gathered rows
      ≡ to_come row_key item prefix delimiter item_key (after_name item_key (Some t)) nothing_gathered (rows_from row_key (cond b (past_key t) prefix) rows)) [
        | true ↦ start_step row_key item prefix delimiter item_key t keyed rows up under
        | false ↦ ap (to_come row_key item prefix delimiter item_key (after_name item_key (Some t)) nothing_gathered) (sym (all_from row_key item prefix delimiter item_key (after_name item_key (Some t)) prefix rows (above rows under)))
      ]

pub start_low : (prefix : Octets) (token : Option Octets) → is_upto prefix (start_of prefix token) ≡ true
start_low prefix None = upto_self prefix
start_low prefix (Some t) = elim (is_upto prefix t) as (λ b. is_upto prefix t ≡ b → is_upto prefix (cond b (past_key t) prefix) ≡ true) [
  | true ↦ λ e. upto_trans prefix t (past_key t) e (upto_past_key t)
  | false ↦ λ e. upto_self prefix
] refl
