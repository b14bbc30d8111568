-- Loops over the rows that a text shows of typed rows, and the least ordinal that no row has.
use Rattle.std.proofs.Common.{◌≡◌, ◌≢◌, ℕ, zero, suc, ◌+◌, ◌<◌, ◌≤◌, pos, cond, List, [], ◌∷◌, map, length, get_or, slice_get, Some, drop, refl, sym, ap, ◌∙◌, subst, arith}
use Rattle.std.specs.List.{All, AllByRecursion}
use Rattle.sqlite.specs.Order.{Row, column}
use Rattle.sqlite.specs.declared.types.Value.TheVariants.{Int}
use Rattle.sqlite_typed.specs.Columns.{int_of}
use Rattle.bh_tables.specs.Typed.{UseRow}
use Rattle.bh_tables.specs.Garbage.{shown_uses}
use Rattle.std.proofs.lemmas.Bool.{eq-eqb, ne_eqb}
use Rattle.bh_tables.specs.Typed.{BlockRow}
use Rattle.bh_view.specs.Blocks.{least}

-- the typed row behind the row at a place, and those after it
pub at_row : {T X : Type 0} (shown : T → X) (ts : List T) (rows : List X) (i : ℕ) (row : X) → i < length rows → row ≡ get_or rows i row → rows ≡ map shown ts → (t : T) × (row ≡ shown t) × (drop i ts ≡ t ∷ drop (i + 1) ts)
at_row {T} {X} shown ts rows i row low here is = let it = go ts i (subst (λ l. i < length l) is low) (here ∙ ap (λ l. get_or l i row) is) in (it.0, it.1, it.2 ∙ ap (λ n. it.0 ∷ drop n ts) (one i))
  where
    one : (n : ℕ) → suc n ≡ n + 1
    one n = omega arith

    go : (ts : List T) (i : ℕ) → i < length (map shown ts) → row ≡ get_or (map shown ts) i row → (t : T) × (row ≡ shown t) × (drop i ts ≡ t ∷ drop (suc i) ts)
    go [] i low here = absurd (omega (arith, low))
    go (t ∷ ts) zero low here = (t, here, refl)
    go (t ∷ ts) (suc i) low here = let it = go ts i (omega (arith, low)) here in (it.0, it.1, it.2)

-- no typed row is behind the last
pub drop_end : {T X : Type 0} (shown : T → X) (ts : List T) (rows : List X) (i : ℕ) → (i < length rows → ⊥) → rows ≡ map shown ts → drop i ts ≡ []
drop_end {T} {X} shown ts rows i high is = go ts i (λ low. high (subst (λ l. i < length l) (sym is) low))
  where
    go : (ts : List T) (i : ℕ) → (i < length (map shown ts) → ⊥) → drop i ts ≡ []
    go [] zero high = refl
    go [] (suc i) high = refl
    go (t ∷ ts) zero high = absurd (high (omega arith))
    go (t ∷ ts) (suc i) high = go ts i (λ low. high (omega (arith, low)))

module _ (free i : ℕ) (bs : List BlockRow) (b : BlockRow) (left : drop i bs ≡ b ∷ drop (i + 1) bs) where
  -- the number is free
  pub least_stops : b.ord ≢ free → least free (drop i bs) ≡ free
  least_stops other = ap (least free) left ∙ ap (λ t. cond t (least (suc free) (drop (i + 1) bs)) free) (ne_eqb b.ord free other)

  -- it is taken
  pub least_goes : (next : ℕ) → b.ord ≡ free → next ≡ free + 1 → least free (drop i bs) ≡ least next (drop (i + 1) bs)
  least_goes next same is = ap (least free) left ∙ ap (λ t. cond t (least (suc free) (drop (i + 1) bs)) free) (eq-eqb b.ord free same) ∙ ap (λ n. least n (drop (i + 1) bs)) (one free ∙ sym is)
    where
      one : (n : ℕ) → suc n ≡ n + 1
      one n = omega arith

-- what each typed row has, the row that is shown of it has
pub all_shown : {T X : Type 0} (shown : T → X) (P : T → Type 0) (ts : List T) → AllByRecursion P ts → All (λ x. (t : T) × ((x ≡ shown t) × P t)) (map shown ts)
all_shown shown P [] all i d low = absurd (omega (arith, low))
all_shown shown P (t ∷ ts) all zero d low = (t, (refl, all.0))
all_shown shown P (t ∷ ts) all (suc i) d low = all_shown shown P ts all.1 i d (omega (arith, low))

-- the first element of one is it
pub only_is : {X : Type 0} (xs : List X) (x : X) → slice_get xs 0 ≡ Some x → length xs ≤ 1 → xs ≡ x ∷ []
only_is [] x is one = absurd (cc)
only_is (y ∷ []) x is one = let same : y ≡ x = cc in ap (λ z. z ∷ []) same
only_is (y ∷ z ∷ xs) x is one = absurd (omega (arith, one))

-- the one row of counts
pub one_use : (us : List UseRow) (row : Row) (n : ℕ) → map shown_uses us ≡ row ∷ [] → column row 0 ≡ Int (pos n) → map (λ (u : UseRow). u.uses) us ≡ pos n ∷ []
one_use [] row n is told = absurd (cc)
one_use (u ∷ []) row n is told = let same : shown_uses u ≡ row = cc in ap (λ v. int_of v ∷ []) (ap (λ r. column r 0) same ∙ told)
one_use (u ∷ v ∷ us) row n is told = absurd (cc)
