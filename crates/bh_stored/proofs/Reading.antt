-- A walk over the rows of a tree.
use Rattle.std.proofs.Common.{arith, ◌≡◌, ℕ, ◌≤◌, true, false, List, [], ◌∷◌, ◌++◌, append_assoc, append-nil, Some, refl, sym, ap, ◌∙◌}
use Rattle.sqlite.specs.Order.{Row}
use Rattle.sqlite_trees.specs.Tree.{from_key}
use Rattle.sqlite_trees.specs.View.{View, IsClean, doubt, with_cursor, Advances}
use Rattle.sqlite_value.specs.declared.keys.Order.{Order}
use Rattle.bh_stored.specs.Stores.{KeepsTrees, HasRead}

from_start : (o : Order) (rows : List Row) → from_key o [] rows ≡ rows
from_start o [] = refl
from_start o (r ∷ rows) = refl

pub clean_before : (old new : View) → doubt old.is_clean ≤ doubt new.is_clean → IsClean new → IsClean old
clean_before old new less clean = omega (arith, less, clean)

pub begun : (old new : View) (tree : ℕ) (o : Order) → (IsClean new → IsClean old) → (IsClean new → old.is_broken ≡ false) → (IsClean new → new ≡ with_cursor old 0 (from_key o [] (old.trees tree))) → HasRead old new 0 tree []
begun old new tree o was whole is = record {
  keeps = record { clean = was; whole = whole; opened = λ clean. ap (λ (v : View). v.is_open) (is clean); trees = λ clean. ap (λ (v : View). v.trees) (is clean) };
  rest = λ clean. (from_key o [] (old.trees tree), ap (λ (v : View). v.cursors 0) (is clean), from_start o (old.trees tree));
}

pub kept_twice : (old mid new : View) → KeepsTrees old mid → KeepsTrees mid new → KeepsTrees old new
kept_twice old mid new a b = record {
  clean = λ clean. a.clean (b.clean clean);
  whole = λ clean. a.whole (b.clean clean);
  opened = λ clean. b.opened clean ∙ a.opened (b.clean clean);
  trees = λ clean. b.trees clean ∙ a.trees (b.clean clean);
}

module _ (first old new : View) (tree : ℕ) (rows : List Row) (read : HasRead first old 0 tree rows) (was : IsClean new → IsClean old) (row : Row) where
  some_is : {X : Type 0} {a b : X} → Some a ≡ Some b → a ≡ b
  some_is e = cc

  pub stepped : (IsClean new → Advances old new 0 row true) → HasRead first new 0 tree (rows ++ row ∷ [])
  stepped goes = record {
    keeps = record {
      clean = λ clean. read.keeps.clean (was clean);
      whole = λ clean. read.keeps.whole (was clean);
      opened = λ clean. ap (λ (v : View). v.is_open) (goes clean).2 ∙ read.keeps.opened (was clean);
      trees = λ clean. ap (λ (v : View). v.trees) (goes clean).2 ∙ read.keeps.trees (was clean);
    };
    rest = λ clean.
        let it = goes clean in
        let rest = read.rest (was clean) in
        let same : rest.0 ≡ row ∷ it.0 = some_is (sym rest.1 ∙ it.1) in
        (it.0, ap (λ (v : View). v.cursors 0) it.2, append_assoc rows (row ∷ []) it.0 ∙ ap (λ l. rows ++ l) (sym same) ∙ rest.2);
  }

  pub ended : (IsClean new → Advances old new 0 row false) → KeepsTrees first new × (IsClean new → rows ≡ first.trees tree)
  ended goes = (
    record {
      clean = λ clean. read.keeps.clean (was clean);
      whole = λ clean. read.keeps.whole (was clean);
      opened = λ clean. ap (λ (v : View). v.is_open) (goes clean).1 ∙ read.keeps.opened (was clean);
      trees = λ clean. ap (λ (v : View). v.trees) (goes clean).1 ∙ read.keeps.trees (was clean);
    },
    λ clean.
        let rest = read.rest (was clean) in
        let none : rest.0 ≡ [] = some_is (sym rest.1 ∙ (goes clean).0) in
        sym (append-nil rows) ∙ ap (λ l. rows ++ l) (sym none) ∙ rest.2,
  )
