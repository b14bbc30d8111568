-- What a map that is made of rows answers, and what one key's change makes of it.
use Rattle.std.proofs.Common.{◌≡◌, ◌≢◌, Bool, true, false, true≢false, cond, ◌||◌, List, [], ◌∷◌, ◌++◌, Option, Some, None, option_map, refl, sym, ap, ◌∙◌, subst, Ordering, is_eq, is_some, unwrap_or}
use Rattle.std.specs.List.{filter_map, cons_option, list_any}
use Rattle.sqlite_keyed.proofs.ListLemmas.{filter_none, none_from_any}
use Rattle.std.specs.Cmp.{Equal-is}
use Rattle.std.specs.Ordering.{eq_by_cmp}
use Rattle.std.proofs.lemmas.Cmp.{tied_itself}
use Rattle.std.specs.FinMap.{FinMap, get, empty, get-empty, get-from_entries, get-insert, get-remove, same_map, insert, remove, find}
use Rattle.sqlite_keyed.specs.Lists.{update_where, delete_where}
use Rattle.bh_model.specs.FinMaps.{non_empty, set_at}
use Rattle.bh_model.proofs.MapLemmas.{none_anyway}
use Rattle.bh_view.specs.Grouped.{first, IsKey, matching, grouped, keyed}
use Rattle.bh_view.proofs.FilterLemmas.{push_here, push_other, delete_other, delete_all, update_other, first_updated}

pub unwrapped : {X : Type 0} (l : List X) → unwrap_or (non_empty l) [] ≡ l
unwrapped [] = refl
unwrapped (x ∷ xs) = refl

module _ {K : Type 0} {R : K → K → Ordering} {is : K → K → Bool} (k : IsKey R is) where
  pub key_same : (x y : K) → eq_by_cmp R x y ≡ true → x ≡ y
  key_same x y h = k.same x y ((Equal-is _).0 h)

  pub key_itself : (x : K) → eq_by_cmp R x x ≡ true
  key_itself x = ap is_eq (tied_itself k.total x)

  pub is_itself : (x : K) → is x x ≡ true
  is_itself x = (k.decides x x).1 refl

  pub is_other : (x y : K) → x ≢ y → is x y ≡ false
  is_other x y apart = elim (is x y) as (λ b. is x y ≡ b → b ≡ false) [ true ↦ λ e. absurd (apart ((k.decides x y).0 e)) | false ↦ λ e. refl ] refl

  -- two tests of the same keys, in either order
  pub key_agrees : (x y : K) → eq_by_cmp R x y ≡ is y x
  key_agrees x y = elim (eq_by_cmp R x y) as (λ b. eq_by_cmp R x y ≡ b → b ≡ is y x) [
    | true ↦ λ e. sym (subst (λ z. is z x ≡ true) (key_same x y e) (is_itself x))
    | false ↦ λ e. elim (is y x) as (λ b. is y x ≡ b → false ≡ b) [ true ↦ λ h. absurd (true≢false (sym (key_itself x) ∙ ap (eq_by_cmp R x) (sym ((k.decides y x).0 h)) ∙ e)) | false ↦ λ h. refl ] refl
  ] refl

  no_rows : {T : Type 0} (key : T → K) (q : K) (rows : List T) → list_any (λ r. is (key r) q) rows ≡ false → matching is key q rows ≡ []
  no_rows key q rows e = filter_none _ rows (none_from_any _ rows e)

  module _ {T X : Type 0} (key : T → K) where
    abbrev pairs : (K → Option X) → List T → List (K × X)
    pairs value rows = filter_map (λ r. option_map (λ x. (key r, x)) (value (key r))) rows

    pub found : (value : K → Option X) (q : K) (rows : List T) → find R q (pairs value rows) ≡ cond (list_any (λ r. is (key r) q) rows) (value q) None
    found value q [] = refl
    found value q (r ∷ rs) =
        elim (is (key r) q) as (λ b. is (key r) q ≡ b → find R q (cons_option (option_map (λ x. (key r, x)) (value (key r))) (pairs value rs)) ≡ cond (b || list_any (λ r. is (key r) q) rs) (value q) None) [
          | true ↦ λ e. ap (λ o. find R q (cons_option (option_map (λ x. (key r, x)) o) (pairs value rs))) (ap value ((k.decides (key r) q).0 e)) ∙ here e (found value q rs) (value q) refl
          | false ↦ λ e. there e (value (key r)) ∙ found value q rs
        ] refl
      where
        here : is (key r) q ≡ true → find R q (pairs value rs) ≡ cond (list_any (λ r. is (key r) q) rs) (value q) None → (o : Option X) → value q ≡ o → find R q (cons_option (option_map (λ x. (key r, x)) o) (pairs value rs)) ≡ o
        here e rest None is_none = rest ∙ none_anyway _ _ is_none
        here e rest (Some v) is_some = ap (λ b. cond b (Some v) (find R q (pairs value rs))) (key_agrees q (key r) ∙ e)

        there : is (key r) q ≡ false → (o : Option X) → find R q (cons_option (option_map (λ x. (key r, x)) o) (pairs value rs)) ≡ find R q (pairs value rs)
        there e None = refl
        there e (Some v) = ap (λ b. cond b (Some v) (find R q (pairs value rs))) (key_agrees q (key r) ∙ e)

    module _ (build : K → List T → Option X) (no_row : (q : K) → build q [] ≡ None) where
      -- what a map that is made of rows answers: what `build` makes of the key's rows
      pub get-grouped : (rows : List T) (q : K) → get (grouped R is key build rows) q ≡ build q (matching is key q rows)
      unfolding grouped
      get-grouped rows q = get-from_entries k.total _ q ∙ found (λ x. build x (matching is key x rows)) q rows
          ∙ elim (list_any (λ r. is (key r) q) rows) as (λ b. list_any (λ r. is (key r) q) rows ≡ b → cond b (build q (matching is key q rows)) None ≡ build q (matching is key q rows)) [
            | true ↦ λ e. refl
            | false ↦ λ e. sym (ap (build q) (no_rows key q rows e) ∙ no_row q)
          ] refl

  pub get-set_at : {X : Type 0} (m : FinMap R X) (q : K) (o : Option X) (x : K) → get (set_at m q o) x ≡ cond (is q x) o (get m x)
  get-set_at m q None x = get-remove k.total m q x ∙ ap (λ b. cond b None (get m x)) (key_agrees x q)
  get-set_at m q (Some v) x = get-insert k.total m q v x ∙ ap (λ b. cond b (Some v) (get m x)) (key_agrees x q)

  module _ {T U X : Type 0} (key : T → K) (other : U → K) (build : K → List T → Option X) (make : K → List U → Option X) (no_row : (q : K) → build q [] ≡ None) (none_made : (q : K) → make q [] ≡ None) where
    -- rows that give the same at each key give the same map
    pub grouped_same : (old : List T) (new : List U) → ((q : K) → make q (matching is other q new) ≡ build q (matching is key q old)) → grouped R is other make new ≡ grouped R is key build old
    grouped_same old new alike = same_map k.total k.same _ _ (λ q. get-grouped other make none_made new q ∙ alike q ∙ sym (get-grouped key build no_row old q))

    -- rows that give the same at each key but one
    pub grouped_changed : (old : List T) (new : List U) (at : K) → ((q : K) → at ≢ q → make q (matching is other q new) ≡ build q (matching is key q old))
        → grouped R is other make new ≡ set_at (grouped R is key build old) at (make at (matching is other at new))
    grouped_changed old new at alike = same_map k.total k.same _ _ (λ q. get-grouped other make none_made new q ∙ step q ∙ sym (get-set_at (grouped R is key build old) at (make at (matching is other at new)) q))
      where
        step : (q : K) → make q (matching is other q new) ≡ cond (is at q) (make at (matching is other at new)) (get (grouped R is key build old) q)
        step q = elim (is at q) as (λ b. is at q ≡ b → make q (matching is other q new) ≡ cond b (make at (matching is other at new)) (get (grouped R is key build old) q)) [
          | true ↦ λ e. ap (λ z. make z (matching is other z new)) (sym ((k.decides at q).0 e))
          | false ↦ λ e. alike q (λ h. absurd (true≢false (sym ((k.decides at q).1 h) ∙ e))) ∙ sym (get-grouped key build no_row old q)
        ] refl

  -- a table in which no two rows have one key
  module _ {T X : Type 0} (key : T → K) (value : K → T → X) where
    pub get-keyed : (rows : List T) (q : K) → get (keyed R is key value rows) q ≡ option_map (value q) (first (matching is key q rows))
    get-keyed = get-grouped key (λ q rows. option_map (value q) (first rows)) (λ _. refl)

    keyed_changed : (old new : List T) (at : K) → ((q : K) → at ≢ q → matching is key q new ≡ matching is key q old) → keyed R is key value new ≡ set_at (keyed R is key value old) at (option_map (value at) (first (matching is key at new)))
    keyed_changed old new at alike = grouped_changed key key (λ q rows. option_map (value q) (first rows)) (λ q rows. option_map (value q) (first rows)) (λ _. refl) (λ _. refl) old new at (λ q apart. ap (λ l. option_map (value q) (first l)) (alike q apart))

    -- a row with a new key
    pub keyed_pushed : (rows : List T) (r : T) → matching is key (key r) rows ≡ [] → keyed R is key value (rows ++ r ∷ []) ≡ insert (keyed R is key value rows) (key r) (value (key r) r)
    keyed_pushed rows r fresh =
        keyed_changed rows (rows ++ r ∷ []) (key r) (λ q apart. push_other _ rows r (is_other (key r) q apart))
        ∙ ap (λ l. set_at (keyed R is key value rows) (key r) (option_map (value (key r)) (first l))) (push_here _ rows r (is_itself (key r)) ∙ ap (λ l. l ++ r ∷ []) fresh)

    -- the rows of a key taken out
    pub keyed_deleted : (rows : List T) (at : K) → keyed R is key value (delete_where (λ r. is (key r) at) rows) ≡ remove (keyed R is key value rows) at
    keyed_deleted rows at =
        keyed_changed rows _ at (λ q apart. delete_other _ _ rows (λ x here. is_other (key x) at (λ there. apart (sym there ∙ (k.decides (key x) q).0 here))))
        ∙ ap (λ l. set_at (keyed R is key value rows) at (option_map (value at) (first l))) (delete_all (λ r. is (key r) at) rows)

    -- the row of a key changed
    pub keyed_updated : (f : T → T) → ((r : T) → key (f r) ≡ key r) → (rows : List T) (at : K) (r : T) → first (matching is key at rows) ≡ Some r
        → keyed R is key value (update_where (λ r. is (key r) at) f rows) ≡ insert (keyed R is key value rows) at (value at (f r))
    keyed_updated f keeps rows at r there =
        keyed_changed rows _ at (λ q apart. update_other _ _ f
        (λ x here. is_other (key x) at (λ e. apart (sym e ∙ (k.decides (key x) q).0 here)))
        (λ x here. ap (λ z. is z q) (keeps x) ∙ is_other (key x) q (λ e. apart (sym ((k.decides (key x) at).0 here) ∙ e))) rows)
        ∙ ap (λ o. set_at (keyed R is key value rows) at (option_map (value at) o)) (first_updated (λ x. is (key x) at) f (λ x. ap (λ z. is z at) (keeps x)) rows r there)

  -- two changes at one key
  pub set_at_again : {X : Type 0} (m : FinMap R X) (q : K) (o p : Option X) → set_at (set_at m q o) q p ≡ set_at m q p
  set_at_again m q o p = same_map k.total k.same _ _ (λ x. get-set_at (set_at m q o) q p x ∙ ap (cond (is q x) p) (get-set_at m q o x) ∙ shadow x (is q x) ∙ sym (get-set_at m q p x))
    where
      shadow : (x : K) (b : Bool) → cond b p (cond b o (get m x)) ≡ cond b p (get m x)
      shadow x true = refl
      shadow x false = refl

  pub get_here : {X : Type 0} (m : FinMap R X) (q : K) (o : Option X) → get (set_at m q o) q ≡ o
  get_here m q o = get-set_at m q o q ∙ ap (λ b. cond b o (get m q)) (is_itself q)

  pub set_at_same : {X : Type 0} (m : FinMap R X) (q : K) → set_at m q (get m q) ≡ m
  set_at_same m q = same_map k.total k.same _ _ (λ x. get-set_at m q (get m q) x ∙ elim (is q x) as (λ b. is q x ≡ b → cond b (get m q) (get m x) ≡ get m x) [
    | true ↦ λ e. ap (get m) ((k.decides q x).0 e)
    | false ↦ λ e. refl
  ] refl)

-- a map that is made of rows is empty just where there are none
module _ {K X T : Type 0} {R : K → K → Ordering} {is : K → K → Bool} (k : IsKey R is) (key : T → K) (build : K → List T → Option X) (no_row : (q : K) → build q [] ≡ None)
    (some_row : (q : K) (r : T) (rs : List T) → is_some (build q (r ∷ rs)) ≡ true) where
  pub empty_of_no_rows : (rows : List T) → rows ≡ [] → grouped R is key build rows ≡ empty
  unfolding grouped
  empty_of_no_rows rows e = ap (grouped R is key build) e

  pub no_rows_of_empty : (rows : List T) → grouped R is key build rows ≡ empty → rows ≡ []
  no_rows_of_empty [] e = refl
  no_rows_of_empty (r ∷ rs) e =
      let none : build (key r) (matching is key (key r) (r ∷ rs)) ≡ None = sym (get-grouped k key build no_row (r ∷ rs) (key r)) ∙ ap (λ m. get m (key r)) e ∙ get-empty R (key r) in
      absurd (true≢false (sym (some_row (key r) r (matching is key (key r) rs)) ∙ ap (λ b. is_some (build (key r) (cond b (r ∷ matching is key (key r) rs) (matching is key (key r) rs)))) (sym (is_itself k (key r))) ∙ ap is_some none))
