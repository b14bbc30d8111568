-- What a map answers whose values are changed or taken out.
use Rattle.std.proofs.Common.{◌≡◌, Bool, true, false, true≢false, cond, ◌||◌, List, [], ◌∷◌, map, Option, Some, None, is_some, option_map, option_and_then, refl, sym, ap, ◌∙◌, Ordering, Less, Equal, Greater, is_eq, is_lt, T, ◌&&◌}
use Rattle.std.specs.List.{filter_map, cons_option, list_any}
use Rattle.std.specs.Ordering.{eq_by_cmp}
use Rattle.std.specs.Cmp.{IsTotalOrder, Equal-is}
use Rattle.std.specs.FinMap.{FinMap, IsAntisymmetric, entries, find, get, get-from_entries, contains_key-keys, same_map}
use Rattle.std.specs.FinMap.Entries.{below_all}
use Rattle.bh_model.specs.FinMaps.{adjusted}

no_value : {X : Type 0} (o : Option X) → is_some o ≡ false → o ≡ None
no_value None h = refl
no_value (Some x) h = absurd (true≢false h)

any_key : {K X : Type 0} (R : K → K → Ordering) (q : K) (es : List (K × X)) → list_any (eq_by_cmp R q) (map (λ e. e.0) es) ≡ list_any (λ e. eq_by_cmp R q e.0) es
any_key R q [] = refl
any_key R q (e ∷ es) = ap (λ b. eq_by_cmp R q e.0 || b) (any_key R q es)

pub none_anyway : {X : Type 0} (b : Bool) (o : Option X) → o ≡ None → cond b o None ≡ None
none_anyway true o e = e
none_anyway false o e = refl

module _ {K : Type 0} {R : K → K → Ordering} (total : IsTotalOrder R) (same : IsAntisymmetric R) where
  module _ {T X : Type 0} (key : T → K) (value : K → Option X) (q : K) where
    abbrev pairs : List T → List (K × X)
    pairs items = filter_map (λ t. option_map (λ x. (key t, x)) (value (key t))) items

    here : (t : T) (ts : List T) → eq_by_cmp R q (key t) ≡ true → find R q (pairs ts) ≡ cond (list_any (λ t. eq_by_cmp R q (key t)) ts) (value q) None → (o : Option X) → value q ≡ o → find R q (cons_option (option_map (λ x. (key t, x)) o) (pairs ts)) ≡ o
    here t ts e rest None nothing = rest ∙ none_anyway _ _ nothing
    here t ts e rest (Some v) value_is = ap (λ b. cond b (Some v) (find R q (pairs ts))) e

    there : (t : T) (ts : List T) → eq_by_cmp R q (key t) ≡ false → (o : Option X) → find R q (cons_option (option_map (λ x. (key t, x)) o) (pairs ts)) ≡ find R q (pairs ts)
    there t ts e None = refl
    there t ts e (Some v) = ap (λ b. cond b (Some v) (find R q (pairs ts))) e

    found : (items : List T) → find R q (pairs items) ≡ cond (list_any (λ t. eq_by_cmp R q (key t)) items) (value q) None
    found [] = refl
    found (t ∷ ts) =
        elim (eq_by_cmp R q (key t)) as (λ b. eq_by_cmp R q (key t) ≡ b → find R q (cons_option (option_map (λ x. (key t, x)) (value (key t))) (pairs ts)) ≡ cond (b || list_any (λ t. eq_by_cmp R q (key t)) ts) (value q) None) [
          | true ↦ λ e. ap (λ o. find R q (cons_option (option_map (λ x. (key t, x)) o) (pairs ts))) (ap value (sym (same q (key t) ((Equal-is _).0 e)))) ∙ here t ts e (found ts) (value q) refl
          | false ↦ λ e. there t ts e (value (key t)) ∙ found ts
        ] refl

  pub get-adjusted : {X Y : Type 0} (f : X → Option Y) (m : FinMap R X) (q : K) → get (adjusted f m) q ≡ option_and_then f (get m q)
  unfolding adjusted
  get-adjusted f m q =
      get-from_entries total _ q ∙ found (λ e. e.0) (λ k. option_and_then f (get m k)) q (entries m)
      ∙ elim (list_any (λ e. eq_by_cmp R q e.0) (entries m)) as (λ b. list_any (λ e. eq_by_cmp R q e.0) (entries m) ≡ b → cond b (option_and_then f (get m q)) None ≡ option_and_then f (get m q)) [
        | true ↦ λ e. refl
        | false ↦ λ e. ap (option_and_then f) (sym (no_value (get m q) (contains_key-keys m q ∙ any_key R q (entries m) ∙ e)))
      ] refl

  pub adjusted_after : {X Y Z : Type 0} (g : X → Option Y) (f : Y → Option Z) (h : X → Option Z) → ((x : X) → option_and_then f (g x) ≡ h x) → (m : FinMap R X) → adjusted f (adjusted g m) ≡ adjusted h m
  adjusted_after {X = X} g f h is_h m = same_map total same _ _ (λ q. get-adjusted f (adjusted g m) q ∙ ap (option_and_then f) (get-adjusted g m q) ∙ step (get m q) ∙ sym (get-adjusted h m q))
    where
      step : (o : Option X) → option_and_then f (option_and_then g o) ≡ option_and_then h o
      step None = refl
      step (Some x) = is_h x

pub both : (a b : Bool) → T a → T b → T (a && b)
both true b h k = k
both false b h k = h

pub left : (a b : Bool) → T (a && b) → T a
left true b h = tt
left false b h = absurd h

pub right : (a b : Bool) → T (a && b) → T b
right true b h = h
right false b h = absurd h

not_tied : (o : Ordering) → T (is_lt o) → is_eq o ≡ false
not_tied Less h = refl
not_tied Equal h = absurd h
not_tied Greater h = absurd h

module _ {K X : Type 0} (R : K → K → Ordering) where
  pub find_below : (q : K) (es : List (K × X)) → T (below_all R q es) → find R q es ≡ None
  find_below q [] h = refl
  find_below q (e ∷ es) h = ap (λ b. cond b (Some e.1) (find R q es)) (not_tied _ (left _ _ h)) ∙ find_below q es (right _ _ h)
