-- The numbers of packs in rows.
use Rattle.std.proofs.Common.{◌≡◌, ◌≢◌, ℕ, zero, suc, ◌+◌, ◌<◌, ◌==◌, ◌||◌, false, List, [], ◌∷◌, length, map, take, get_or, IsTrue, inl, inr, refl, sym, ◌∙◌, ap, subst, arith, eq-eqb, length-take}
use Rattle.std.proofs.lemmas.Bool.{cases_Bool, cases_lt, false≢true}
use Rattle.std.proofs.lemmas.List.{get_or-map, get_or-take, length-map}
use Rattle.std.specs.List.{list_any}
use Rattle.bh_pack_shelf.specs.Rows.{pack_of, no_row, row_at}
use Rattle.bh_shelf.specs.declared.closed.Listed.{Listed}

-- a number at some index is one of the list
any_at : (numbers : List ℕ) (i d pack : ℕ) → i < length numbers → get_or numbers i d ≡ pack → IsTrue (list_any (λ x. x == pack) numbers)
any_at [] i d pack low is = absurd (omega (arith, low))
any_at (x ∷ numbers) zero d pack low is = rw (eq-eqb x pack is) refl
any_at (x ∷ numbers) (suc i) d pack low is = elim (cases_Bool (x == pack)) [
  | inl here ↦ rw here refl
  | inr not ↦ rw not (any_at numbers i d pack (omega (arith, low)) is)
]

-- a pack that isn't one of the first rows' is none of theirs
pub others : (rows : List Listed) (n pack : ℕ) → list_any (λ x. x == pack) (map pack_of (take n rows)) ≡ false
    → (i : ℕ) → i < n → i < length rows → (row_at rows i).pack ≢ pack
others rows n pack none i low within same =
    let long : i < length (take n rows) = omega (arith, low, within, length-take n rows) in
    let short : i < length (map pack_of (take n rows)) = omega (arith, long, length-map (take n rows) pack_of) in
    let is : get_or (map pack_of (take n rows)) i 0 ≡ pack =
    get_or-map pack_of (take n rows) i no_row 0 long ∙ ap pack_of (get_or-take n rows i no_row low) ∙ same in
    false≢true (sym none ∙ any_at (map pack_of (take n rows)) i 0 pack short is)

-- one more row names a pack that those before it don't
pub once_more : (rows : List Listed) (n : ℕ) → ((i j : ℕ) → i < j → j < n → (row_at rows i).pack ≢ (row_at rows j).pack)
    → ((i : ℕ) → i < n → (row_at rows i).pack ≢ (row_at rows n).pack)
    → (i j : ℕ) → i < j → j < n + 1 → (row_at rows i).pack ≢ (row_at rows j).pack
once_more rows n before last i j low within = elim (cases_lt j n) [
  | inl earlier ↦ before i j low earlier
  | inr here ↦
      let same : n ≡ j = omega (arith, here, within) in
      let P : ℕ → Type 0 = λ k. (row_at rows i).pack ≢ (row_at rows k).pack in
      subst P same (last i (omega (arith, low, same)))
]

-- whether rows name a pack
pub any_row : (rows : List Listed) (pack : ℕ) → list_any (λ x. x == pack) (map pack_of rows) ≡ list_any (λ row. row.pack == pack) rows
any_row [] pack = refl
any_row (row ∷ rows) pack = ap (λ b. row.pack == pack || b) (any_row rows pack)
