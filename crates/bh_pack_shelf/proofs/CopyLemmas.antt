-- Bytes of packs that are copied to files.
use Rattle.std.proofs.Common.{◌≡◌, ℕ, ◌+◌, ◌-◌, ◌<◌, ◌≤◌, List, [], length, slice_index, Some, IsTrue, inl, inr, sym, ◌∙◌, ap, arith, zero-add, drop, length-take, length-drop}
use Rattle.std.proofs.lemmas.Bool.{cases_lt}
use Rattle.sqlite_disk.specs.Disk.{Holds, Torn}
use Rattle.sqlite_disk.specs.declared.Disk.{Ghosts}
use Rattle.bh_packs.proofs.Standing.{held_apart}
use Rattle.bh_packs.specs.declared.packs.Packs.{Packs}
use Rattle.bh_shelf.specs.Contents.{Contents, EndsBy}
use Rattle.bh_shelf.specs.Laws.{front, front_held, kept_seen, length_part, part_holds, part_index, part_same, range_is, range_some}
use Rattle.bh_shelf.specs.Marks.{kept_of, seen_of}
use Rattle.bh_shelf.specs.Ranges.{part_of, range_of, clean_of, contents_of, file_of}
use Rattle.bh_shelf.specs.Sound.{IsSound}
use Rattle.bh_shelf.specs.declared.marks.Marks.{Marks}
use Rattle.bh_pack_shelf.specs.Copied.{HaveOf}
use Rattle.bh_pack_shelf.proofs.OpenLemmas.{kept_sized}

-- each file begins with no bytes
pub holds_none : (file : List ℕ) → Holds file 0 []
holds_none file = record { within = omega arith; each = λ i low. absurd (omega (arith, low)) }

-- a file begins with as many bytes more as were written next to those that it began with
pub holds_more : (old new all : List ℕ) (at n : ℕ) → at + n ≤ length all → Torn at n old new → Holds old 0 (part_of all 0 at)
    → Holds new at (part_of all at n) → Holds new 0 (part_of all 0 (at + n))
holds_more old new all at n long torn before next =
    let whole : length (part_of all 0 (at + n)) ≡ at + n = length_part all 0 (at + n) (omega (arith, long)) in
    let first : length (part_of all 0 at) ≡ at = length_part all 0 at (omega (arith, long)) in
    let second : length (part_of all at n) ≡ n = length_part all at n long in
    let stays : Holds new 0 (part_of all 0 at) = held_apart at n 0 (part_of all 0 at) old new torn (inl (omega (arith, first))) before in
    record {
      within = omega (arith, whole, second, next.within);
      each = λ i h.
          let low : i < at + n = omega (arith, h, whole) in
          ap (slice_index new) (zero-add i)
          ∙ elim (cases_lt i at) [
            | inl inside ↦ front new (part_of all 0 at) i stays (omega (arith, inside, first)) ∙ part_index all 0 at i inside
            | inr past ↦
                let back : at + (i - at) ≡ i = omega (arith, past) in
                let short : i - at < n = omega (arith, low, past) in
                ap (slice_index new) (sym back) ∙ next.each (i - at) (omega (arith, short, second)) ∙ part_index all at n (i - at) short
                ∙ ap (slice_index all) (back ∙ sym (zero-add i))
          ]
          ∙ sym (part_index all 0 (at + n) i low);
    }

-- all bytes are those up to their end
pub all_of : (all : List ℕ) (end : ℕ) → length all ≡ end → part_of all 0 end ≡ all
all_of all end long =
    let held : Holds all 0 all = record { within = omega arith; each = λ i h. ap (slice_index all) (zero-add i) } in
    ap (part_of all 0) (sym long) ∙ part_holds all 0 all held

-- who has all up to a mark has each part of it
pub range_part : (file all : List ℕ) (end mark at n : ℕ) → range_of file end 0 mark ≡ Some all → length all ≡ mark → 0 < n → at + n ≤ mark
    → range_of file end at n ≡ Some (part_of all at n)
range_part file all end mark at n has long some within =
    let found = range_some file end 0 mark all has in
    let same : part_of file 0 mark ≡ all = found.2 in
    let enough : mark ≤ length file = omega (arith, ap length same, long, length-take mark (drop 0 file), length-drop 0 file) in
    let part : part_of file at n ≡ part_of (part_of file 0 mark) at n =
    part_same file (part_of file 0 mark) at n (front_held file mark enough) (omega (arith, within, ap length same, long)) in
    range_is file end at n some (omega (arith, within, found.1)) ∙ ap (λ (l : List ℕ). Some l) (part ∙ ap (λ (l : List ℕ). part_of l at n) same)

module _ {D : Type 0} (g : Ghosts D) (packs : Packs D) (marks : Marks) (sound : IsSound g packs marks) (clean : IsTrue (clean_of g packs))
    (pack mark : ℕ) (all : List ℕ) (has : contents_of g packs (kept_of marks) pack 0 mark ≡ Some all) where
  pub all_long : length all ≡ mark
  all_long = kept_sized g packs marks sound clean pack 0 mark all has

  -- each part of what is kept is seen
  pub part_seen : (at n : ℕ) → 0 < n → at + n ≤ mark → contents_of g packs (seen_of marks) pack at n ≡ Some (part_of all at n)
  part_seen at n some within =
      range_part (file_of g packs pack) all (seen_of marks pack) mark at n (kept_seen g packs marks sound pack 0 mark all has) all_long some within

  -- what a copied file has is kept
  pub part_copied : (file : List ℕ) → Holds file 0 all → (after : Contents) → ((offset size : ℕ) → after pack offset size ≡ range_of file mark offset size)
      → EndsBy (contents_of g packs (kept_of marks)) pack mark → HaveOf pack (contents_of g packs (kept_of marks)) after
  part_copied file held after is ends offset size bytes found =
      let some : 0 < size = (range_some (file_of g packs pack) (kept_of marks pack) offset size bytes found).0 in
      let low : offset + size ≤ mark = ends offset size bytes found in
      is offset size ∙ range_is file mark offset size some low
      ∙ ap (λ (l : List ℕ). Some l) (part_same file all offset size held (omega (arith, low, all_long)))
      ∙ sym (range_part (file_of g packs pack) all (kept_of marks pack) mark offset size has all_long some low) ∙ found
