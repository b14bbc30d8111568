-- References that stand in the order of their places: those of a body are at 0, 1, .., and so are they once they are sorted.
use Rattle.std.proofs.Common.{arith, ◌≡◌, ℕ, ◌+◌, Bool, true, false, cond, if◌then◌else◌, List, [], ◌∷◌, length, map, pos, refl, ap, ap₂, ◌∙◌, int_cmp, Less}
use Rattle.std.specs.List.{range_with_len}
use Rattle.std.specs.Ordering.{is_gt}
use Rattle.std.proofs.lemmas.Int.{ints}
use Rattle.sqlite.specs.Order.{Row}
use Rattle.sqlite_keyed.specs.Lists.{sort_by, insert_sorted}
use Rattle.bh_tables.specs.Bodies.{Name, same_name, body_name, by_place, matching, placed}
use Rattle.bh_tables.specs.Typed.{RefRow, ref_of}
use Rattle.bh_tables.proofs.TotalLemmas.{name_Decides}
use Rattle.bh_check.specs.Holds.{first_two}
use Rattle.bh_check.specs.Placed.{IsPlaced}

abbrev of_body : Name → List RefRow → List RefRow
of_body q refs = matching same_name body_name q refs

one : (n : ℕ) (b : Bool) → b ≡ true → n + (if b then 1 else 0) ≡ n + 1
one n b is = ap (λ x. n + (if x then 1 else 0)) is

none : (n : ℕ) (b : Bool) → b ≡ false → n + (if b then 1 else 0) ≡ n
none n b is = ap (λ x. n + (if x then 1 else 0)) is ∙ zero n
  where
    zero : (n : ℕ) → n + 0 ≡ n
    zero n = omega arith

pub places_are : (of : Name → ℕ) (rows : List Row) → IsPlaced of rows → (q : Name) → map (λ (r : RefRow). r.place) (of_body q (map ref_of rows)) ≡ range_with_len (of q) (length (of_body q (map ref_of rows)))
places_are of [] p q = refl
places_are of (r ∷ rows) p q = go (same_name (first_two r) q) refl (places_are (λ z. of z + (if same_name (first_two r) z then 1 else 0)) rows p.1 q)
  where
    rest : List RefRow
    rest = of_body q (map ref_of rows)

    go : (b : Bool) → same_name (first_two r) q ≡ b → map (λ (r : RefRow). r.place) rest ≡ range_with_len (of q + (if same_name (first_two r) q then 1 else 0)) (length rest)
        → map (λ (r : RefRow). r.place) (cond b (ref_of r ∷ rest) rest) ≡ range_with_len (of q) (length (cond b (ref_of r ∷ rest) rest))
    go true is those = ap₂ ◌∷◌ (p.0 ∙ ap of ((name_Decides (first_two r) q).0 is)) (those ∙ ap (λ n. range_with_len n (length rest)) (one (of q) (same_name (first_two r) q) is))
    go false is those = those ∙ ap (λ n. range_with_len n (length rest)) (none (of q) (same_name (first_two r) q) is)

-- rows whose places go up one by one are sorted
later : (n : ℕ) (a b : RefRow) → a.place ≡ n → b.place ≡ n + 1 → is_gt (by_place a b) ≡ false
later n a b at next = ap is_gt ((λ i. int_cmp (pos (at i)) (pos (next i))) ∙ less n)
  where
    less : (n : ℕ) → int_cmp (pos n) (pos (n + 1)) ≡ Less
    less n = grind (arith, ints)

pub sorted_is : (n : ℕ) (xs : List RefRow) → map (λ (r : RefRow). r.place) xs ≡ range_with_len n (length xs) → sort_by by_place xs ≡ xs
sorted_is n [] h = refl
sorted_is n (x ∷ []) h = refl
sorted_is n (x ∷ y ∷ ys) h =
    let heads : x.place ≡ n = cc in
    let rest : map (λ (r : RefRow). r.place) (y ∷ ys) ≡ range_with_len (n + 1) (length (y ∷ ys)) = cc in
    let second : y.place ≡ n + 1 = cc in
    ap (insert_sorted by_place x) (sorted_is (n + 1) (y ∷ ys) rest) ∙ ap (λ b. cond b (y ∷ insert_sorted by_place x ys) (x ∷ y ∷ ys)) (later n x y heads second)

pub placed_are : (rows : List Row) → IsPlaced (λ _. 0) rows → (q : Name) → placed (map ref_of rows) q ≡ of_body q (map ref_of rows)
placed_are rows p q = sorted_is 0 (of_body q (map ref_of rows)) (places_are (λ _. 0) rows p q)

-- as a sound host's are
pub bodies_placed : (rows : List Row) → IsPlaced (λ _. 0) rows → (q : Name) → map (λ (r : RefRow). r.place) (placed (map ref_of rows) q) ≡ range_with_len 0 (length (of_body q (map ref_of rows)))
bodies_placed rows p q = ap (map (λ (r : RefRow). r.place)) (placed_are rows p q) ∙ places_are (λ _. 0) rows p q
