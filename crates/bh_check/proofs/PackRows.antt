-- The rows of places and of packs that were found by hints.
use Rattle.std.proofs.Common.{arith, ◌≡◌, ℕ, zero, suc, ◌<◌, true, ◌||◌, nat_le, pos, List, [], ◌∷◌, length, get_or, map, filter, Some, None, ap, ◌∙◌, subst}
use Rattle.std.specs.List.{list_any}
use Rattle.std.specs.Cmp.Derive.{both_true}
use Rattle.std.proofs.lemmas.Bool.{or_right}
use Rattle.std.proofs.lemmas.Int.{ints}
use Rattle.std.specs.Ordering.{int_eq}
use Rattle.sqlite.specs.Order.{Row, column}
use Rattle.sqlite_keyed.proofs.ListLemmas.{filter-map}
use Rattle.bh_rows.specs.Form.{typed}
use Rattle.bh_tables.specs.Bodies.{Name, same_name, first}
use Rattle.bh_tables.specs.Packs.{place_name, place_at, reaches, is_reached}
use Rattle.bh_tables.specs.Rows.{PlaceRow, place_of, place_form, pack_of, pack_form, column_number}
use Rattle.bh_check.specs.Blocks.{AreNamed}
use Rattle.bh_check.specs.Holds.{first_two, one}
use Rattle.bh_check.specs.Sums.{total}
use Rattle.bh_check.proofs.Counted.{none_has, filter_of_none}
use Rattle.bh_check.proofs.NamedLemmas.{sole}

same : (n : ℕ) → int_eq (pos n) (pos n) ≡ true
same n = grind (arith, ints)

-- a pack has so many bytes, if a row says it
pub reached : (rows : List Row) (i : ℕ) (row : Row) (pack end : ℕ) → i < length rows → row ≡ get_or rows i row → column_number (column row 1) ≡ pack → nat_le end (column_number (column row 2)) ≡ true → is_reached (typed pack_form rows) pack end ≡ true
reached [] i row pack end low is its long = absurd (omega (arith, low))
reached (r ∷ rows) zero row pack end low is its long =
    let here : reaches pack end (pack_of row) ≡ true = both_true (ap (λ n. int_eq (pos n) (pos pack)) its ∙ same pack) long in
    ap (λ b. b || list_any (reaches pack end) (typed pack_form rows)) (subst (λ x. reaches pack end (pack_of x) ≡ true) is here)
reached (r ∷ rows) (suc i) row pack end low is its long = or_right (reaches pack end (pack_of r)) (list_any (reaches pack end) (typed pack_form rows)) (reached rows i row pack end (omega (arith, low)) is its long)

module _ (rows : List Row) (q : Name) where
  places_by : filter (λ (p : PlaceRow). same_name (place_name p) q) (typed place_form rows) ≡ map place_of (filter (λ r. same_name (first_two r) q) rows)
  places_by = filter-map (λ (p : PlaceRow). same_name (place_name p) q) place_of rows

  -- the only place of a block is its place
  pub place_found : (i : ℕ) (row : Row) → i < length rows → row ≡ get_or rows i row → same_name (first_two row) q ≡ true → AreNamed rows → place_at (typed place_form rows) q ≡ Some (place_of row)
  place_found i row low is on named = ap first places_by ∙ mapped (filter (λ r. same_name (first_two r) q) rows) (sole (λ r. same_name (first_two r) q) rows i row low is on (named q))
    where
      mapped : (xs : List Row) → first xs ≡ Some row → first (map place_of xs) ≡ Some (place_of row)
      mapped [] e = absurd (cc)
      mapped (x ∷ xs) e = let its : x ≡ row = cc in ap (λ y. Some (place_of y)) its

  -- and a block of which none is counted has none
  pub place_none : total first_two one rows q ≡ 0 → place_at (typed place_form rows) q ≡ None
  place_none none = ap first (places_by ∙ ap (map place_of) (filter_of_none (λ r. same_name (first_two r) q) rows (none_has first_two rows q none)))
