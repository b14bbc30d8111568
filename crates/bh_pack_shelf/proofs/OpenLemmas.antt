-- What packs have as they are opened one after another.
use Rattle.std.proofs.Common.{◌≡◌, ◌≢◌, ℕ, ◌≤◌, List, [], ◌∷◌, length, drop, Option, Some, None, IsTrue, inl, inr, refl, sym, subst, ◌∙◌, ap, arith, eq-eqb, ne_eqb, length-take, length-drop}
use Rattle.std.proofs.lemmas.Bool.{cases_eq, cases_lt}
use Rattle.sqlite_disk.specs.Disk.{Holds}
use Rattle.sqlite_disk.specs.declared.Disk.{Ghosts}
use Rattle.bh_packs.specs.Stands.{Stands}
use Rattle.bh_packs.specs.declared.packs.Packs.{Packs}
use Rattle.bh_packs.specs.declared.place.Place.{Place}
use Rattle.bh_shelf.specs.Contents.{Contents, Within, HasNothing, AreSameBut}
use Rattle.bh_shelf.specs.Laws.{clean_at, kept_seen, range_is, range_none}
use Rattle.bh_shelf.specs.Marks.{kept_of, seen_of}
use Rattle.bh_shelf.specs.Ranges.{part_of, range_of, clean_of, contents_of}
use Rattle.bh_shelf.specs.Sound.{IsSound}
use Rattle.bh_shelf.specs.declared.marks.Marks.{Marks}
use Rattle.bh_shelf.proofs.SoundLemmas.{seen_written}
use Rattle.bh_pack_shelf.specs.Opened.{AreOpened}
use Rattle.bh_pack_shelf.specs.Rows.{length_in}
use Rattle.bh_shelf.specs.declared.closed.Listed.{Listed}

-- all that is had of a size is as long
abbrev pub AreSized : Contents → Type 0
AreSized has = (pack offset size : ℕ) (bytes : List ℕ) → has pack offset size ≡ Some bytes → length bytes ≡ size

none_if : (o : Option (List ℕ)) → ((bytes : List ℕ) → o ≡ Some bytes → ⊥) → o ≡ None
none_if None not = refl
none_if (Some bytes) not = absurd (not bytes refl)

-- who has no more than nothing has nothing
pub none_within : (a b : Contents) → Within a b → ((pack : ℕ) → HasNothing b pack) → (pack : ℕ) → HasNothing a pack
none_within a b within none pack offset size = none_if (a pack offset size) (λ bytes has.
    let one = within pack offset size bytes has in let other = none pack offset size in absurd (cc))

pub opened_none : (held : ℕ → List ℕ) (has : Contents) → ((pack : ℕ) → HasNothing has pack) → AreOpened held [] has
opened_none held has none = record {
  bytes = λ pack offset size. none pack offset size ∙ sym (range_none (held pack) offset size);
  whole = λ pack. omega arith;
}

-- a file of which all up to an end is had, each part as long as its size, is as long
long_enough : (file : List ℕ) (end : ℕ) (at : ℕ → ℕ → Option (List ℕ)) → ((offset size : ℕ) → at offset size ≡ range_of file end offset size)
    → ((offset size : ℕ) (bytes : List ℕ) → at offset size ≡ Some bytes → length bytes ≡ size) → end ≤ length file
long_enough file end at is sized = elim (cases_lt 0 end) [
  | inl some ↦
      let part = part_of file 0 end in
      let long = sized 0 end part (is 0 end ∙ range_is file end 0 end some (omega arith)) in
      omega (arith, long, length-take end (drop 0 file), length-drop 0 file)
  | inr none ↦ omega (arith, none)
]

-- one more pack is opened, and the others stay
pub opened_next : (held : ℕ → List ℕ) (row : Listed) (rows : List Listed) (before after : Contents) → AreSized after
    → ((offset size : ℕ) → after row.pack offset size ≡ range_of (held row.pack) row.length offset size)
    → AreSameBut row.pack after before → AreOpened held rows before → AreOpened held (row ∷ rows) after
opened_next held row rows before after sized here others opened =
    let mine : (pack : ℕ) → row.pack ≡ pack → length_in (row ∷ rows) pack ≡ row.length = λ pack same. rw (eq-eqb row.pack pack same) refl in
    let rest : (pack : ℕ) → row.pack ≢ pack → length_in (row ∷ rows) pack ≡ length_in rows pack = λ pack other. rw (ne_eqb row.pack pack other) refl in
    let long = long_enough (held row.pack) row.length (after row.pack) here (sized row.pack) in
    record {
      bytes = λ pack offset size. elim (cases_eq row.pack pack) [
        | inl same ↦
            let P : ℕ → Type 0 = λ n. after n offset size ≡ range_of (held n) row.length offset size in
            subst P same (here offset size) ∙ ap (λ n. range_of (held pack) n offset size) (sym (mine pack same))
        | inr other ↦
            others pack (λ same. other (sym same)) offset size ∙ opened.bytes pack offset size
            ∙ ap (λ n. range_of (held pack) n offset size) (sym (rest pack other))
      ];
      whole = λ pack. elim (cases_eq row.pack pack) [
        | inl same ↦
            let P : ℕ → Type 0 = λ n. row.length ≤ length (held n) in
            let enough = subst P same long in
            omega (arith, enough, mine pack same)
        | inr other ↦ let enough = opened.whole pack in omega (arith, enough, rest pack other)
      ];
    }

module _ {D : Type 0} (g : Ghosts D) where
  -- what a crash leaves of a file that was just synced is all that it held
  pub synced_stands : (file : D) → ((c : List ℕ) → g.may_leave file c → c ≡ g.seen file) → (offset : ℕ) (bytes : List ℕ)
      → Holds (g.seen file) offset bytes → Stands g file offset bytes
  synced_stands file only offset bytes held = record {
    seen = held;
    left = λ c may. let P : List ℕ → Type 0 = λ f. Holds f offset bytes in subst P (sym (only c may)) held;
  }

  module _ (packs : Packs D) (marks : Marks) (sound : IsSound g packs marks) where
    pub kept_sized : IsTrue (clean_of g packs) → AreSized (contents_of g packs (kept_of marks))
    kept_sized clean pack offset size bytes has =
        let place : Place = record { pack = pack; offset = offset; size = size; sum = 0 } in
        (seen_written g packs marks sound place bytes (clean_at g packs clean pack) (kept_seen g packs marks sound pack offset size bytes has)).1

    pub kept_none : ((pack : ℕ) → HasNothing (contents_of g packs (seen_of marks)) pack) → (pack : ℕ) → HasNothing (contents_of g packs (kept_of marks)) pack
    kept_none = none_within (contents_of g packs (kept_of marks)) (contents_of g packs (seen_of marks)) (kept_seen g packs marks sound)
