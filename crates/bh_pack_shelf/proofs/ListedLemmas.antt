-- What rows list is within the lengths of their packs.
use Rattle.std.proofs.Common.{◌≡◌, ◌∙◌, ℕ, zero, suc, ◌+◌, ◌<◌, ◌≤◌, ◌==◌, ◌||◌, nat_le, true, List, [], ◌∷◌, length, inl, inr, sym, ap, subst, arith}
use Rattle.std.proofs.lemmas.Bool.{and_parts, cases_Bool, cases_lt, eqb-true, false≢true, leb-true}
use Rattle.bh_shelf.specs.Contents.{Contents}
use Rattle.bh_shelf.specs.Laws.{range_is}
use Rattle.bh_shelf.specs.Listed.{HasListed, is_listed, lists}
use Rattle.bh_shelf.specs.Ranges.{part_of, range_of}
use Rattle.bh_shelf.specs.declared.closed.Listed.{Listed}
use Rattle.bh_pack_shelf.specs.Opened.{AreOpened, in_files}
use Rattle.bh_pack_shelf.specs.Places.{held_within, row_length}
use Rattle.bh_pack_shelf.specs.Rows.{AreOnce, length_in, row_at}

-- the row that lists a pack up to an end
listing : (rows : List Listed) (pack end : ℕ) → is_listed rows pack end ≡ true
    → (i : ℕ) × (i < length rows) × ((row_at rows i).pack ≡ pack) × (end ≤ (row_at rows i).length)
listing [] pack end is = absurd (false≢true is)
listing (row ∷ rows) pack end is = elim (cases_Bool (lists pack end row)) [
  | inl here ↦
      let both = and_parts (row.pack == pack) (nat_le end row.length) here in
      (zero, omega arith, eqb-true row.pack pack both.0, leb-true end row.length both.1)
  | inr not ↦
      let (i, low, same, long) = listing rows pack end (ap (λ b. b || is_listed rows pack end) (sym not) ∙ is) in
      (suc i, omega (arith, low), same, long)
]

-- if each pack has one row, an end that is listed is within the length
listed_within : (rows : List Listed) → AreOnce rows → (pack end : ℕ) → is_listed rows pack end ≡ true → end ≤ length_in rows pack
listed_within rows once pack end is =
    let (i, low, same, long) = listing rows pack end is in
    omega (arith, long, row_length rows once i low, ap (length_in rows) same)

-- packs that were opened have what is listed
pub has_listed : (held : ℕ → List ℕ) (rows : List Listed) (has : Contents) → AreOpened held rows has → AreOnce rows → HasListed rows (in_files held) has
has_listed held rows has opened once = record {
  same = λ pack offset size is.
      let within = listed_within rows once pack (offset + size) is in
      let whole = opened.whole pack in
      elim (cases_lt 0 size) [
        | inl some ↦
            (held_within held rows has opened pack offset size some within).0
            ∙ sym (range_is (held pack) (length (held pack)) offset size some (omega (arith, within, whole)))
        | inr none ↦
            let empty : 0 ≡ size = omega (arith, none) in
            let P : ℕ → Type 0 = λ n. has pack offset n ≡ range_of (held pack) (length (held pack)) offset n in
            subst P empty (opened.bytes pack offset 0)
      ];
  whole = λ pack offset size some is.
      let found = held_within held rows has opened pack offset size some (listed_within rows once pack (offset + size) is) in
      (part_of (held pack) offset size, found.0, sym found.1);
}
