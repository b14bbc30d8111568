-- The last of a list, and the place past the last row of some.
use Rattle.std.proofs.Common.{◌≡◌, ◌≢◌, ℕ, suc, ◌-◌, ◌≤◌, true, false, true≢false, ◌==◌, List, [], ◌∷◌, length, slice_index_or, Some, Result, Ok, Err, IfOk, sym, ap, subst, ◌∙◌, arith}
use Rattle.std.specs.declared.alloc.AllocError.{AllocError}
use Rattle.bh_model.specs.Pages.{begins, last_of, rolled}
use Rattle.bh_pages.specs.Places.{Spot, past_row}
use Rattle.bh_pages.specs.Taken.{seen_place, PastLast}
use Rattle.bh_pages.specs.declared.gathering.PageAsked.{PageAsked}
use Rattle.bh_pages.specs.declared.places.Place as program

last_index : {X : Type 0} (l : List X) (y x : X) → x ≡ slice_index_or (y ∷ l) (length l) x → last_of (y ∷ l) ≡ Some x
last_index [] y x is = ap Some (sym is)
last_index (z ∷ l) y x is = last_index l z x is

pub last_is : {X : Type 0} (l : List X) (x : X) → 1 ≤ length l → x ≡ slice_index_or l (length l - 1) x → last_of l ≡ Some x
last_is [] x some is = absurd (omega (arith, some))
last_is (y ∷ l) x some is = last_index l y x (is ∙ ap (λ k. slice_index_or (y ∷ l) k x) (less (length l)))
  where
    less : (n : ℕ) → suc n - 1 ≡ n
    less n = omega arith

pub some_rows : {X : Type 0} (l : List X) → false ≡ (length l == 0) → 1 ≤ length l
some_rows l h = least (length l) (λ e. true≢false (sym (ap (λ n. n == 0) e) ∙ sym h))
  where
    least : (n : ℕ) → n ≢ 0 → 1 ≤ n
    least n h = grind (arith, h)

pub past_made : {R : Type 0} (spot : R → Spot) (asked : PageAsked) (rows : List R) (row : R) (at : Spot) (result : Result program.Place AllocError) → at ≡ spot row → last_of rows ≡ Some row
    → (begins asked.prefix.now at.0 ≡ true → IfOk result (λ place. seen_place place ≡ past_row at.0 at.1 (rolled asked.prefix.now asked.delimiter.now at.0)))
    → IfOk result (λ place. PastLast spot asked rows (seen_place place))
past_made spot asked rows row at (Ok place) there last h = record {
  row = row;
  last = last;
  is = subst (λ (s : Spot). begins asked.prefix.now s.0 ≡ true → seen_place place ≡ past_row s.0 s.1 (rolled asked.prefix.now asked.delimiter.now s.0)) there h;
}
past_made spot asked rows row at (Err e) there last h = tt
