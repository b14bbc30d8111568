-- Rows that are joined with other tables, as a version row with its body's bytes: a `map` before the view.
use Rattle.std.proofs.Common.{◌≡◌, Bool, true, false, cond, not, List, [], ◌∷◌, ◌++◌, map, map-id, refl, sym, ap, ◌∙◌}
use Rattle.std.specs.List.{AllByRecursion}
use Rattle.sqlite_keyed.specs.Lists.{delete_where}

module _ {A B : Type 0} where
  pub map_push : (f : A → B) (xs : List A) (x : A) → map f (xs ++ x ∷ []) ≡ map f xs ++ f x ∷ []
  map_push f [] x = refl
  map_push f (y ∷ ys) x = ap (λ l. f y ∷ l) (map_push f ys x)

  pub map_delete : (f : A → B) (s : A → Bool) (t : B → Bool) → ((x : A) → t (f x) ≡ s x) → (xs : List A) → map f (delete_where s xs) ≡ delete_where t (map f xs)
  map_delete f s t same [] = refl
  map_delete f s t same (x ∷ xs) =
      elim (s x) as (λ b. map f (cond (not b) (x ∷ delete_where s xs) (delete_where s xs)) ≡ cond (not b) (f x ∷ delete_where t (map f xs)) (delete_where t (map f xs))) [
        | true ↦ map_delete f s t same xs
        | false ↦ ap (λ l. f x ∷ l) (map_delete f s t same xs)
      ] ∙ ap (λ b. cond (not b) (f x ∷ delete_where t (map f xs)) (delete_where t (map f xs))) (sym (same x))

  -- the other tables change, but not what they say of these rows
  pub map_agree : (f g : A → B) (xs : List A) → AllByRecursion (λ x. f x ≡ g x) xs → map f xs ≡ map g xs
  map_agree f g [] all = refl
  map_agree f g (x ∷ xs) all = λ i. all.0 i ∷ map_agree f g xs all.1 i

-- what changes no row
pub map_itself : {A : Type 0} (f : A → A) (xs : List A) → AllByRecursion (λ x. f x ≡ x) xs → map f xs ≡ xs
map_itself f xs all = map_agree f (λ x. x) xs all ∙ map-id xs
