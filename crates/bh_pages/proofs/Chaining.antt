-- Pages of a list, each of which begins after the last entry of the one before.
use Rattle.std.proofs.Common.{◌≡◌, ℕ, zero, suc, ◌+◌, ◌<◌, ◌≤◌, nat_lt, Bool, true, false, cond, List, [], ◌∷◌, ◌++◌, length, take, drop, Option, Some, None, refl, sym, ap, subst, ◌∙◌, arith}
use Rattle.std.specs.Option.{option_map_or}
use Rattle.std.specs.List.{AllByRecursion}
use Rattle.std.proofs.lemmas.Bool.{ltb-true, ltb-false}
use Rattle.std.proofs.lemmas.List.{take_all, drop-drop, append-nil}
use Rattle.std.proofs.Math.Seq.{take-add}
use Rattle.bh_model.specs.Pages.{last_of, Paged, paged}
use Rattle.bh_pages.specs.Laws.{total, chained}
use Rattle.bh_pages.proofs.Bytes.{none_some, some_same}

module _ {E : Type 0} where
  -- one that stands among the first has what all have
  pub all_last : (P : E → Type 0) (m : ℕ) (l : List E) (e : E) → AllByRecursion P l → last_of (take m l) ≡ Some e → P e
  all_last P zero [] e all h = absurd (none_some h)
  all_last P zero (x ∷ l) e all h = absurd (none_some h)
  all_last P (suc m) [] e all h = absurd (none_some h)
  all_last P (suc zero) (x ∷ l) e all h = subst P (some_same h) all.0
  all_last P (suc (suc m)) (x ∷ []) e all h = subst P (some_same h) all.0
  all_last P (suc (suc m)) (x ∷ y ∷ l) e all h = all_last P (suc m) (y ∷ l) e all.1 h

  last_append : (xs ys : List E) (e : E) → last_of ys ≡ Some e → last_of (xs ++ ys) ≡ Some e
  last_append [] ys e h = h
  last_append (x ∷ []) [] e h = absurd (none_some h)
  last_append (x ∷ []) (y ∷ ys) e h = h
  last_append (x ∷ z ∷ xs) ys e h = last_append (z ∷ xs) ys e h

  some_last : (m : ℕ) (l : List E) → 1 ≤ m → m < length l → last_of (take m l) ≡ None → ⊥
  some_last zero l low h none = absurd (omega (arith, low))
  some_last (suc m) [] low h none = absurd (omega (arith, h))
  some_last (suc zero) (x ∷ l) low h none = absurd (none_some (sym none))
  some_last (suc (suc m)) (x ∷ []) low h none = absurd (none_some (sym none))
  some_last (suc (suc m)) (x ∷ y ∷ l) low h none = some_last (suc m) (y ∷ l) (omega arith) (omega (arith, h)) none

-- what comes at a marker, where at that of the last of the first entries come all others
module _ {E M : Type 0} (marked : E → M) (rest : M → List E) (all : List E) (on : (d : ℕ) (e : E) → last_of (take d all) ≡ Some e → rest (marked e) ≡ drop d all) where
  abbrev page : ℕ → M → Paged E
  page m marker = paged m (rest marker)

  pub chain : (sizes : List ℕ) → AllByRecursion (λ m. 1 ≤ m) sizes → (d : ℕ) (marker : M) → rest marker ≡ drop d all → chained marked page sizes marker ≡ take (total sizes) (drop d all)
  chain [] some d marker is = refl
  chain (m ∷ sizes) some d marker is =
      ap (λ l. (paged m l).shown ++ option_map_or (λ (e : E). chained marked page sizes (marked e)) (paged m l).next []) is
      ∙ go (nat_lt m (length left)) refl (last_of (take m left)) refl (λ e. chain sizes some.1 (d + m) (marked e))
    where
      left : List E
      left = drop d all

      go : (more : Bool) → nat_lt m (length left) ≡ more → (last : Option E) → last_of (take m left) ≡ last
          → ((e : E) → rest (marked e) ≡ drop (d + m) all → chained marked page sizes (marked e) ≡ take (total sizes) (drop (d + m) all))
          → take m left ++ option_map_or (λ (e : E). chained marked page sizes (marked e)) (cond more last None) [] ≡ take (m + total sizes) left
      go true is None none next = absurd (some_last m left some.0 (ltb-true m (length left) is) none)
      go true is (Some e) there next =
          ap (λ l. take m left ++ l) (next e (on (d + m) e (ap last_of (take-add d m all) ∙ last_append (take d all) (take m left) e there)) ∙ ap (take (total sizes)) (sym (drop-drop m d all)))
          ∙ sym (take-add m (total sizes) left)
      go false is last there next =
          let short : length left ≤ m = ltb-false m (length left) is in
          append-nil (take m left) ∙ take_all m left short ∙ sym (take_all (m + total sizes) left (omega (arith, short)))
