-- What packs have within the lengths of their rows, and that they have nothing without a row.
use Rattle.std.proofs.Common.{◌≡◌, ◌≢◌, ℕ, zero, suc, ◌+◌, ◌<◌, ◌≤◌, ◌==◌, ◌||◌, false, List, [], ◌∷◌, length, Some}
use Rattle.std.proofs.Common.{inl, inr, refl, sym, ◌∙◌, ap, arith, eq-eqb, ne_eqb}
use Rattle.std.proofs.lemmas.Bool.{cases_Bool, false≢true}
use Rattle.std.specs.List.{list_any}
use Rattle.bh_shelf.specs.Contents.{Contents, HasNothing}
use Rattle.bh_shelf.specs.Laws.{length_part, range_is, range_none}
use Rattle.bh_shelf.specs.Ranges.{part_of, range_of}
use Rattle.bh_pack_shelf.specs.Opened.{AreOpened, HaveRows}
use Rattle.bh_pack_shelf.specs.Rows.{AreOnce, length_in, row_at}
use Rattle.bh_shelf.specs.declared.closed.Listed.{Listed}

-- the length of a pack is that of its row, if no other row names it
pub row_length : (rows : List Listed) → AreOnce rows → (i : ℕ) → i < length rows
    → length_in rows (row_at rows i).pack ≡ (row_at rows i).length
row_length [] once i low = absurd (omega (arith, low))
row_length (row ∷ rows) once zero low = rw (eq-eqb row.pack row.pack refl) refl
row_length (row ∷ rows) once (suc i) low =
    let other : row.pack ≢ (row_at rows i).pack = once 0 (suc i) (omega arith) (omega (arith, low)) in
    rw (ne_eqb row.pack (row_at rows i).pack other)
    (row_length rows (λ a b lower within. once (suc a) (suc b) (omega (arith, lower)) (omega (arith, within))) i (omega (arith, low)))

module _ (held : ℕ → List ℕ) (rows : List Listed) (has : Contents) (opened : AreOpened held rows has) where
  -- so many bytes are at each offset within a pack's length
  pub held_within : (pack offset size : ℕ) → 0 < size → offset + size ≤ length_in rows pack
      → (has pack offset size ≡ Some (part_of (held pack) offset size)) × (length (part_of (held pack) offset size) ≡ size)
  held_within pack offset size some within = (
    opened.bytes pack offset size ∙ range_is (held pack) (length_in rows pack) offset size some within,
    let whole = opened.whole pack in length_part (held pack) offset size (omega (arith, within, whole)),
  )

  pub rows_held : AreOnce rows → HaveRows held rows has
  rows_held once i offset size low some within =
      let same = row_length rows once i low in held_within (row_at rows i).pack offset size some (omega (arith, within, same))

  -- a pack without a length has nothing
  pub unlisted : (pack : ℕ) → length_in rows pack ≡ 0 → HasNothing has pack
  unlisted pack none offset size =
      opened.bytes pack offset size ∙ ap (λ end. range_of (held pack) end offset size) none ∙ range_none (held pack) offset size

-- no row names a pack
pub length_none : (rows : List Listed) (pack : ℕ) → list_any (λ row. row.pack == pack) rows ≡ false → length_in rows pack ≡ 0
length_none [] pack none = refl
length_none (row ∷ rows) pack none = elim (cases_Bool (row.pack == pack)) [
  | inl here ↦ absurd (false≢true (sym none ∙ ap (λ b. b || list_any (λ row. row.pack == pack) rows) here))
  | inr not ↦ rw not (length_none rows pack (ap (λ b. b || list_any (λ row. row.pack == pack) rows) (sym not) ∙ none))
]
