-- Rows in the order of their keys, those of a key in an order of their numbers: what follows a row, the later ones of a key, and
-- those of greater keys.
use Rattle.std.proofs.Common.{◌≡◌, ℕ, Bool, true, false, true≢false, cond, List, [], ◌∷◌, ◌++◌, ◌&&◌, Option, Some, None, refl, sym, ap, subst, ◌∙◌, Ordering, Less, Equal, Greater}
use Rattle.std.specs.List.{filter, AllByRecursion}
use Rattle.std.specs.Cmp.{IsTotalOrder}
use Rattle.std.specs.Ordering.{is_lt, is_eq, is_gt, ordering_then, ordering_reverse}
use Rattle.std.proofs.lemmas.Cmp.{nat_list_cmp_total, on_total, then_total, upto, tied_itself}
use Rattle.std.proofs.lemmas.List.Elements.{filter-append}
use Rattle.bh_model.specs.State.{Octets, octets_cmp}
use Rattle.bh_model.specs.Pages.{is_upto, is_before, last_of}
use Rattle.bh_pages.specs.Gathered.{past_key}
use Rattle.bh_pages.specs.Places.{Spot, Place, at_key, after_entry}
use Rattle.bh_pages.specs.Places as places
use Rattle.bh_pages.proofs.Bytes.{upto_trans, some_same, none_some}
use Rattle.bh_pages.proofs.Before.{less_not_more, turned_more, key_first, less_not_same, before_upto, past_is_after}
use Rattle.bh_pages.proofs.Filters.{all_map, filter_none, filter_whole, filter_all, filter_passes, filter_narrow, all_front, last_all}

module _ {R : Type 0} (by_number : ℕ → ℕ → Ordering) (numbers : IsTotalOrder by_number) (row_key : R → Octets) (number : R → ℕ) where
  abbrev order : Spot → Spot → Ordering
  order = places.spot_order by_number

  abbrev precedes : Spot → Spot → Bool
  precedes = places.precedes by_number

  abbrev spot : R → Spot
  spot = places.spot by_number row_key number

  abbrev is_from : Place → R → Bool
  is_from = places.is_from by_number row_key number

  abbrev is_behind : Octets → ℕ → R → Bool
  is_behind = places.is_behind by_number row_key number

  abbrev IsStrict : List R → Type 0
  IsStrict = places.IsStrict by_number row_key number

  pub spot_total : IsTotalOrder order
  spot_total = then_total (on_total (λ (s : Spot). s.0) nat_list_cmp_total) (on_total (λ (s : Spot). s.1) numbers)

  -- a chain of three whose ends are the other way round is none
  pub precedes_trans : (a b c : Spot) → precedes a b ≡ true → precedes b c ≡ true → precedes a c ≡ true
  precedes_trans a b c h k = go (order a c) refl
    where
      back : is_gt (order c a) ≡ false → ⊥
      back e = true≢false (sym (ap is_gt (spot_total.antisymm c b) ∙ turned_more (order b c) k) ∙ upto spot_total c a b e (less_not_more _ h))

      go : (o : Ordering) → order a c ≡ o → is_lt (order a c) ≡ true
      go Less e = ap is_lt e
      go Equal e = absurd (back (ap is_gt (spot_total.antisymm c a ∙ ap ordering_reverse e)))
      go Greater e = absurd (back (ap is_gt (spot_total.antisymm c a ∙ ap ordering_reverse e)))

  pub not_itself : (a : Spot) → precedes a a ≡ false
  not_itself a = ap is_lt (tied_itself spot_total a)

  pub not_back : (a b : Spot) → precedes a b ≡ true → precedes b a ≡ false
  not_back a b h = elim (precedes b a) as (λ t. precedes b a ≡ t → t ≡ false) [ true ↦ λ e. absurd (true≢false (sym (precedes_trans a b a h e) ∙ not_itself a)) | false ↦ λ _. refl ] refl

  pub precedes_key : (a b : Spot) → precedes a b ≡ true → is_upto a.0 b.0 ≡ true
  precedes_key a b h = key_first _ _ h

  pub strict_filter : (p : R → Bool) (rows : List R) → IsStrict rows → IsStrict (filter p rows)
  strict_filter p [] up = tt
  strict_filter p (r ∷ rows) up = elim (p r) as (λ t. IsStrict (cond t (r ∷ filter p rows) (filter p rows))) [ true ↦ (filter_all _ p rows up.0, strict_filter p rows up.1) | false ↦ strict_filter p rows up.1 ]

  -- ---- what follows the last row of a chunk

  around_last : (c rest : List R) (r : R) → last_of c ≡ Some r → IsStrict (c ++ rest)
      → AllByRecursion (λ x. precedes (spot r) (spot x) ≡ false) c × AllByRecursion (λ x. precedes (spot r) (spot x) ≡ true) rest
  around_last [] rest r h up = absurd (none_some h)
  around_last (x ∷ []) rest r h up =
      ((subst (λ z. precedes (spot z) (spot x) ≡ false) (some_same h) (not_itself (spot x)), tt), subst (λ z. AllByRecursion (λ y. precedes (spot z) (spot y) ≡ true) rest) (some_same h) up.0)
  around_last (x ∷ y ∷ c) rest r h up =
      let more = around_last (y ∷ c) rest r h up.1 in
      let later = last_all (λ z. precedes (spot x) (spot z) ≡ true) (y ∷ c) r h (all_front _ (y ∷ c) rest up.0).0 in
      ((not_back (spot x) (spot r) later, more.0), more.1)

  from_later : (place : Place) (r x : R) → is_from place r ≡ true → precedes (spot r) (spot x) ≡ true → is_from place x ≡ true
  from_later place r x h k = go place.after h
    where
      go : (o : Option ℕ) → is_from (record { key = place.key; after = o }) r ≡ true → is_from (record { key = place.key; after = o }) x ≡ true
      go None h = upto_trans place.key (row_key r) (row_key x) h (precedes_key (spot r) (spot x) k)
      go (Some n) h = precedes_trans (place.key, n) (spot r) (spot x) h k

  pub rest_is : (place : Place) (rows c rest : List R) (r : R) → IsStrict rows → c ++ rest ≡ filter (is_from place) rows → last_of c ≡ Some r
      → rest ≡ filter (is_from (after_entry (row_key r) (number r))) rows
  rest_is place rows c rest r up split last =
      let it = around_last c rest r last (subst IsStrict (sym split) (strict_filter (is_from place) rows up)) in
      let here : is_from place r ≡ true = last_all (λ z. is_from place z ≡ true) c r last (all_front _ c rest (subst (AllByRecursion (λ z. is_from place z ≡ true)) (sym split) (filter_passes (is_from place) rows))).0 in
      let after : R → Bool = λ x. precedes (spot r) (spot x) in
      sym (filter_narrow (is_from place) after (λ x h. from_later place r x here h) rows ∙ ap (filter after) (sym split) ∙ filter-append after c rest ∙ (λ i. filter_none after c it.0 i ++ filter_whole after rest it.1 i))

  -- ---- the later rows of a key, and those of greater keys

  module _ (key : Octets) (n : ℕ) (r : R) (rows : List R) where
    abbrev whole : List R → List R
    whole = filter (is_from (after_entry key n))

    abbrev behind : List R → List R
    behind = filter (is_behind key n)

    abbrev past : List R → List R
    past = filter (is_from (at_key (past_key key)))

    abbrev three : Bool → Bool → Bool → Type 0
    three a b c = cond a (r ∷ whole rows) (whole rows) ≡ cond b (r ∷ behind rows) (behind rows) ++ cond c (r ∷ past rows) (past rows)

    one_beyond : behind rows ≡ [] → whole rows ≡ behind rows ++ past rows → three true false true
    one_beyond none more = ap (λ l. r ∷ l) (more ∙ ap (λ l. l ++ past rows) none) ∙ sym (ap (λ l. l ++ (r ∷ past rows)) none)

    one_within : (t : Bool) → whole rows ≡ behind rows ++ past rows → three t t false
    one_within true more = ap (λ l. r ∷ l) more
    one_within false more = more

    put_back : {a b c d e f : Bool} → a ≡ d → b ≡ e → c ≡ f → three d e f → three a b c
    put_back h k l t = (λ i. cond (h i) (r ∷ whole rows) (whole rows)) ∙ t ∙ sym (λ i. cond (k i) (r ∷ behind rows) (behind rows) ++ cond (l i) (r ∷ past rows) (past rows))

    abbrev later : R → Bool
    later x = is_lt (by_number n (number x))

    further : is_before key (row_key r) ≡ true → AllByRecursion (λ s. precedes (spot r) (spot s) ≡ true) rows → behind rows ≡ []
    further h all = filter_none (is_behind key n) rows (all_map (λ x k. ap (λ t. t && later x) (less_not_same key (row_key x) (before_upto key (row_key r) (row_key x) h (precedes_key (spot r) (spot x) k)))) rows all)

    split_step : (o : Ordering) → octets_cmp key (row_key r) ≡ o → AllByRecursion (λ s. precedes (spot r) (spot s) ≡ true) rows → whole rows ≡ behind rows ++ past rows → whole (r ∷ rows) ≡ behind (r ∷ rows) ++ past (r ∷ rows)
    split_step Less e all more = put_back (ap (λ o. is_lt (ordering_then o (by_number n (number r)))) e) (ap (λ t. t && later r) (less_not_same key (row_key r) (ap is_lt e))) (past_is_after key (row_key r) ∙ ap is_lt e)
        (one_beyond (further (ap is_lt e) all) more)
    split_step Equal e all more = put_back (ap (λ o. is_lt (ordering_then o (by_number n (number r)))) e) (ap (λ o. is_eq o && later r) (nat_list_cmp_total.antisymm (row_key r) key ∙ ap ordering_reverse e)) (past_is_after key (row_key r) ∙ ap is_lt e)
        (one_within (later r) more)
    split_step Greater e all more = put_back (ap (λ o. is_lt (ordering_then o (by_number n (number r)))) e) (ap (λ o. is_eq o && later r) (nat_list_cmp_total.antisymm (row_key r) key ∙ ap ordering_reverse e)) (past_is_after key (row_key r) ∙ ap is_lt e)
        (one_within false more)

  pub behind_split : (key : Octets) (n : ℕ) (rows : List R) → IsStrict rows
      → filter (is_from (after_entry key n)) rows ≡ filter (is_behind key n) rows ++ filter (is_from (at_key (past_key key))) rows
  behind_split key n [] up = refl
  behind_split key n (r ∷ rows) up = split_step key n r rows (octets_cmp key (row_key r)) refl up.0 (behind_split key n rows up.1)
