-- Parts of files, and why a shelf of `Packs` keeps the laws of a shelf.
use Rattle.std.proofs.Common.{◌≡◌, ℕ, drop, ◌+◌, ◌<◌, ◌≤◌, ◌&&◌, nat_le, nat_lt, List, [], ◌∷◌, zero, suc}
use Rattle.std.proofs.Common.{slice_index, slice_index_or, length, Option, Some, None, IsTrue, refl, sym, ◌∙◌, ap, inl, inr, arith}
use Rattle.std.proofs.Common.{zero-add, ext_get_or, length-take, length-drop, get_or-take, get_or-drop}
use Rattle.std.proofs.lemmas.Bool.{cases_Bool, and_parts, and_from, leb-true, le-leb}
use Rattle.std.specs.List.{list_all}
use Rattle.sqlite_disk.specs.Disk.{Holds}
use Rattle.sqlite_disk.specs.declared.Disk.{Ghosts}
use Rattle.bh_packs.specs.Packs.{pack_at, IsCleanIn}
use Rattle.bh_packs.specs.declared.pack.Pack.{Pack}
use Rattle.bh_packs.specs.declared.packs.Packs.{Packs}
use Rattle.bh_shelf.specs.declared.marks.Marks.{Marks}
use Rattle.bh_shelf.specs.Contents.{Contents, nothing, Within, EndsBy}
use Rattle.bh_shelf.specs.Marks.{kept_of, seen_of, stood_of, written_of}
use Rattle.bh_shelf.specs.Ranges.{part_of, range_of, file_in, file_of, clean_in, clean_of, contents_of, LeavesIn, Leaves}
use Rattle.bh_shelf.specs.Sound.{StandsTo, IsSound}

pub length_part : (file : List ℕ) (offset size : ℕ) → offset + size ≤ length file → length (part_of file offset size) ≡ size
length_part file offset size within = omega (arith, within, length-take size (drop offset file), length-drop offset file)

-- a byte of a part
pub part_index : (file : List ℕ) (offset size i : ℕ) → i < size → slice_index (part_of file offset size) i ≡ slice_index file (offset + i)
part_index file offset size i low = get_or-take size (drop offset file) i 0 low ∙ get_or-drop offset file i 0

-- bytes that a file begins with
pub front : (file bytes : List ℕ) (i : ℕ) → Holds file 0 bytes → i < length bytes → slice_index file i ≡ slice_index bytes i
front file bytes i held low = ap (slice_index file) (sym (zero-add i)) ∙ held.each i low

-- a part of what a file begins with is that part of the file
pub part_same : (file bytes : List ℕ) (offset size : ℕ) → Holds file 0 bytes → offset + size ≤ length bytes
    → part_of file offset size ≡ part_of bytes offset size
part_same file bytes offset size held within =
    let here = length_part bytes offset size within in
    let there = length_part file offset size (omega (arith, within, held.within)) in
    ext_get_or 0 (part_of file offset size) (part_of bytes offset size) (there ∙ sym here) (λ i h.
    let low : i < size = omega (arith, h, there) in
    part_index file offset size i low ∙ front file bytes (offset + i) held (omega (arith, low, within))
    ∙ sym (part_index bytes offset size i low))

-- a file has each part of what it begins with
pub part_held : (file bytes : List ℕ) (offset size : ℕ) → Holds file 0 bytes → offset + size ≤ length bytes
    → Holds file offset (part_of bytes offset size)
part_held file bytes offset size held within =
    let here = length_part bytes offset size within in
    record {
      within = omega (arith, here, within, held.within);
      each = λ i h.
          let low : i < size = omega (arith, h, here) in
          front file bytes (offset + i) held (omega (arith, low, within)) ∙ sym (part_index bytes offset size i low);
    }

-- bytes that a file has at an offset are that part of it
pub part_holds : (file : List ℕ) (at : ℕ) (bytes : List ℕ) → Holds file at bytes → part_of file at (length bytes) ≡ bytes
part_holds file at bytes held =
    let size = length bytes in
    let here = length_part file at size held.within in
    ext_get_or 0 (part_of file at size) bytes here (λ i h.
    let low : i < size = omega (arith, h, here) in part_index file at size i low ∙ held.each i low)

-- a file begins with its first bytes
pub front_held : (file : List ℕ) (end : ℕ) → end ≤ length file → Holds file 0 (part_of file 0 end)
front_held file end within =
    let here = length_part file 0 end (omega (arith, within)) in
    record {
      within = omega (arith, here, within);
      each = λ i h. sym (part_index file 0 end i (omega (arith, h, here)));
    }

-- what a range has
pub range_some : (file : List ℕ) (end offset size : ℕ) (bytes : List ℕ) → range_of file end offset size ≡ Some bytes
    → (0 < size) × (offset + size ≤ end) × (part_of file offset size ≡ bytes)
range_some file end offset size bytes has = elim (cases_Bool (nat_lt 0 size && nat_le (offset + size) end)) [
  | inl inside ↦
      let both = and_parts _ _ inside in
      let same : Some (part_of file offset size) ≡ Some bytes = rw inside at has in
      (leb-true _ _ both.0, leb-true _ _ both.1, cc)
  | inr outside ↦ let none : range_of file end offset size ≡ None = rw outside refl in absurd (cc)
]

-- a range inside has its part
pub range_is : (file : List ℕ) (end offset size : ℕ) → 0 < size → offset + size ≤ end
    → range_of file end offset size ≡ Some (part_of file offset size)
range_is file end offset size some within =
    let inside : IsTrue (nat_lt 0 size && nat_le (offset + size) end) = and_from _ _ (le-leb _ _ some) (le-leb _ _ within) in rw inside refl

-- two files that begin with the same bytes have the same ranges in them
pub ranges_same : (a b bytes : List ℕ) (end : ℕ) → end ≤ length bytes → Holds a 0 bytes → Holds b 0 bytes
    → (offset size : ℕ) → range_of a end offset size ≡ range_of b end offset size
ranges_same a b bytes end short one other offset size = elim (cases_Bool (nat_lt 0 size && nat_le (offset + size) end)) [
  | inl inside ↦
      let within : offset + size ≤ end = leb-true (offset + size) end (and_parts (nat_lt 0 size) (nat_le (offset + size) end) inside).1 in
      let low : offset + size ≤ length bytes = omega (arith, within, short) in
      let same : part_of a offset size ≡ part_of b offset size =
      part_same a bytes offset size one low ∙ sym (part_same b bytes offset size other low) in
      rw (inside, same) refl
  | inr outside ↦ rw outside refl
]

-- a range before one end is one before a later end
pub range_longer : (file : List ℕ) (end later : ℕ) → end ≤ later → (offset size : ℕ) (bytes : List ℕ)
    → range_of file end offset size ≡ Some bytes → range_of file later offset size ≡ Some bytes
range_longer file end later short offset size bytes has =
    let found = range_some file end offset size bytes has in
    range_is file later offset size found.0 (omega (arith, found.1, short)) ∙ ap (λ (part : List ℕ). Some part) found.2

-- no range before the beginning
pub range_none : (file : List ℕ) (offset size : ℕ) → range_of file 0 offset size ≡ None
range_none file offset size = elim (cases_Bool (nat_lt 0 size && nat_le (offset + size) 0)) [
  | inl inside ↦
      let both = and_parts _ _ inside in
      let some : 0 < size = leb-true _ _ both.0 in
      let none : offset + size ≤ 0 = leb-true _ _ both.1 in absurd (omega (arith, some, none))
  | inr outside ↦ rw outside refl
]

-- where nothing is, all ends anywhere
pub nothing_ends : (pack : ℕ) → EndsBy nothing pack 0
nothing_ends pack offset size bytes none = absurd (cc)

module _ {D : Type 0} (g : Ghosts D) where
  each_clean : (slots : List (Option (Pack D))) → IsTrue (list_all (clean_in g) slots) → (n : ℕ)
      → IsTrue (clean_in g (slice_index_or slots n None))
  each_clean [] all n = refl
  each_clean (slot ∷ slots) all zero = (and_parts _ _ all).0
  each_clean (slot ∷ slots) all (suc n) = each_clean slots (and_parts _ _ all).1 n

  all_clean : (slots : List (Option (Pack D))) → ((n : ℕ) → IsTrue (clean_in g (slice_index_or slots n None)))
      → IsTrue (list_all (clean_in g) slots)
  all_clean [] each = refl
  all_clean (slot ∷ slots) each = and_from _ _ (each 0) (all_clean slots (λ n. each (suc n)))

  clean_fact : (slot : Option (Pack D)) → IsTrue (clean_in g slot) → IsCleanIn g slot
  clean_fact None clean = tt
  clean_fact (Some pack) clean = clean

  clean_test : (slot : Option (Pack D)) → IsCleanIn g slot → IsTrue (clean_in g slot)
  clean_test None clean = refl
  clean_test (Some pack) clean = clean

  -- if all are clean, each is
  pub clean_at : (packs : Packs D) → IsTrue (clean_of g packs) → (pack : ℕ) → IsCleanIn g (pack_at packs pack)
  clean_at packs clean pack =
      let both = and_parts (list_all (clean_in g) packs.slots.items) (list_all g.is_clean packs.removed.files) clean in
      clean_fact (pack_at packs pack) (each_clean packs.slots.items both.0 pack)

  -- and so is the file of each that was removed
  pub removed_clean : (packs : Packs D) → IsTrue (clean_of g packs) → IsTrue (list_all g.is_clean packs.removed.files)
  removed_clean packs clean = (and_parts (list_all (clean_in g) packs.slots.items) (list_all g.is_clean packs.removed.files) clean).1

  -- and the other way
  pub clean_each : (packs : Packs D) → ((pack : ℕ) → IsCleanIn g (pack_at packs pack)) → IsTrue (list_all g.is_clean packs.removed.files)
      → IsTrue (clean_of g packs)
  clean_each packs each = and_from (list_all (clean_in g) packs.slots.items) (list_all g.is_clean packs.removed.files)
      (all_clean packs.slots.items (λ n. clean_test (pack_at packs n) (each n)))

  -- later ends have more
  pub longer : (packs : Packs D) (ends later : ℕ → ℕ) → ((n : ℕ) → ends n ≤ later n)
      → Within (contents_of g packs ends) (contents_of g packs later)
  longer packs ends later short pack = range_longer (file_of g packs pack) (ends pack) (later pack) (short pack)

  -- a crash leaves what stands
  left_in : (slot : Option (Pack D)) (file : List ℕ) → LeavesIn g slot file → (end : ℕ) → end ≤ length (file_in g slot)
      → StandsTo g slot end → 0 < end → Holds file 0 (part_of (file_in g slot) 0 end)
  left_in None file leaves end long stands some = absurd (stands some)
  left_in (Some pack) file leaves end long stands some = (stands some).stands.left file leaves

  leaves_to : (slot : Option (Pack D)) (file : List ℕ) → LeavesIn g slot file → (end : ℕ) → end ≤ length (file_in g slot)
      → StandsTo g slot end → (offset size : ℕ) (bytes : List ℕ) → range_of (file_in g slot) end offset size ≡ Some bytes
      → range_of file (length file) offset size ≡ Some bytes
  leaves_to slot file leaves end long stands offset size bytes has =
      let seen = file_in g slot in
      let found = range_some seen end offset size bytes has in
      let held = left_in slot file leaves end long stands (omega (arith, found.0, found.1)) in
      let here = length_part seen 0 end (omega (arith, long)) in
      range_is file (length file) offset size found.0 (omega (arith, found.1, held.within, here))
      ∙ ap (λ (part : List ℕ). Some part) (part_same file (part_of seen 0 end) offset size held (omega (arith, found.1, here))
      ∙ sym (part_same seen (part_of seen 0 end) offset size (front_held seen end long) (omega (arith, found.1, here))) ∙ found.2)

  -- all that is seen of a pack ends where it is written to
  pub seen_ends : (packs : Packs D) (marks : Marks) → IsSound g packs marks → (pack : ℕ)
      → EndsBy (contents_of g packs (seen_of marks)) pack (written_of marks pack)
  seen_ends packs marks sound pack offset size bytes has =
      let found = range_some (file_of g packs pack) (seen_of marks pack) offset size bytes has in
      omega (arith, found.1, (sound pack).seen_written)

  pub kept_seen : (packs : Packs D) (marks : Marks) → IsSound g packs marks
      → Within (contents_of g packs (kept_of marks)) (contents_of g packs (seen_of marks))
  kept_seen packs marks sound = longer packs (kept_of marks) (seen_of marks) (λ n. (sound n).kept_seen)

  pub kept_stands : (packs : Packs D) (marks : Marks) → IsSound g packs marks
      → Within (contents_of g packs (kept_of marks)) (contents_of g packs (stood_of marks))
  kept_stands packs marks sound = longer packs (kept_of marks) (stood_of marks) (λ n. (sound n).kept_stood)

  pub leaves_standing : (packs : Packs D) (marks : Marks) → IsSound g packs marks → (left : Contents) → IsTrue (clean_of g packs)
      → Leaves g packs left → Within (contents_of g packs (stood_of marks)) left
  leaves_standing packs marks sound left clean leaves pack offset size bytes has =
      let (file, may, is) = leaves pack in
      let at = sound pack in
      let here = clean_at packs clean pack in
      let w = at.written here in
      let long : stood_of marks pack ≤ length (file_of g packs pack) = omega (arith, w.long, at.stood_written) in
      is offset size ∙ leaves_to (pack_at packs pack) file may (stood_of marks pack) long (at.stands here) offset size bytes has

  stays_in : ((file : D) → g.may_leave file (g.seen file)) → (slot : Option (Pack D)) → LeavesIn g slot (file_in g slot)
  stays_in stay None = refl
  stays_in stay (Some pack) = stay pack.disk

  pub may_stay : (packs : Packs D) (marks : Marks) → IsSound g packs marks → ((file : D) → g.may_leave file (g.seen file))
      → IsTrue (clean_of g packs) → (left : Contents) × Leaves g packs left × Within (contents_of g packs (seen_of marks)) left
  may_stay packs marks sound stay clean = (
    contents_of g packs (λ pack. length (file_of g packs pack)),
    λ pack. (file_of g packs pack, stays_in stay (pack_at packs pack), λ offset size. refl),
    longer packs (seen_of marks) (λ pack. length (file_of g packs pack)) (λ n.
        let w = (sound n).written (clean_at packs clean n) in omega (arith, w.long, (sound n).seen_written)),
  )
