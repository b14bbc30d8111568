-- What calls on packs and changes of marks keep of a shelf.
use Rattle.std.proofs.Common.{◌≡◌, ◌≢◌, ℕ, ◌+◌, ◌-◌, ◌<◌, ◌≤◌, List, ◌∷◌, length, slice_index, Option, Some, None, Result, Ok, Err, OnOk, OnErr, IsTrue, inl, inr, refl, sym, subst, ◌∙◌, ap, arith, zero-add}
use Rattle.std.proofs.lemmas.Bool.{cases_Bool, cases_lt, and_parts, false≢true}
use Rattle.std.specs.List.{list_all}
use Rattle.sqlite_disk.specs.Disk.{Holds}
use Rattle.sqlite_disk.specs.declared.Disk.{Ghosts}
use Rattle.bh_packs.specs.Packs.{pack_at, end_in, IsFileIn, IsSettled, IsSettledIn, IsWrittenIn, IsCleanIn, IsGiven, IsKept, KeepsPack, Keeps}
use Rattle.bh_packs.specs.Stands.{Stands}
use Rattle.bh_packs.specs.Sums.{sum_of}
use Rattle.bh_packs.specs.declared.pack.Pack.{Pack}
use Rattle.bh_packs.specs.declared.packs.Packs.{Packs}
use Rattle.bh_packs.specs.declared.place.Place.{Place}
use Rattle.bh_packs.specs.declared.removed.Removed.{Removed}
use Rattle.bh_shelf.specs.declared.marks.Ends.{Ends}
use Rattle.bh_shelf.specs.declared.marks.Marks.{Marks}
use Rattle.bh_shelf.specs.Contents.{Contents, Within, AreSameBut, HasNothing}
use Rattle.bh_shelf.specs.Laws.{length_part, part_index, front, part_same, part_held, front_held, part_holds, range_some, range_is, ranges_same, range_none, clean_at, removed_clean, clean_each, longer}
use Rattle.bh_shelf.specs.Marks.{no_ends, ends_of, all_kept, all_stood, kept_alone, written_to, ends_at, kept_of, seen_of, stood_of, written_of}
use Rattle.bh_shelf.specs.Ranges.{part_of, range_of, file_in, file_of, clean_of, contents_of}
use Rattle.bh_shelf.specs.Sound.{StandsTo, WrittenTo, IsSoundAt, IsSound}
use Rattle.bh_shelf.proofs.MarkLemmas.{one_and_others}

-- a file that begins with one part and has bytes next begins with both
front_next : (left file : List ℕ) (at : ℕ) (bytes : List ℕ) → (0 < at → Holds left 0 (part_of file 0 at)) → at ≤ length file → Holds left at bytes → Holds file at bytes
    → Holds left 0 (part_of file 0 (at + length bytes))
front_next left file at bytes before long next held =
    let end = at + length bytes in
    let whole = length_part file 0 end (omega (arith, held.within)) in
    let first = length_part file 0 at (omega (arith, long)) in
    record {
      within = omega (arith, whole, next.within);
      each = λ i h.
          let low : i < end = omega (arith, h, whole) in
          ap (slice_index left) (zero-add i)
          ∙ elim (cases_lt i at) [
            | inl inside ↦ front left (part_of file 0 at) i (before (omega (arith, inside))) (omega (arith, inside, first)) ∙ part_index file 0 at i inside
            | inr past ↦
                let back : at + (i - at) ≡ i = omega (arith, past) in
                let short : i - at < length bytes = omega (arith, low, past) in
                ap (slice_index left) (sym back) ∙ next.each (i - at) short ∙ sym (held.each (i - at) short) ∙ ap (slice_index file) (back ∙ sym (zero-add i))
          ]
          ∙ sym (part_index file 0 end i low);
    }

-- a fact at an error
pub at_err : {T E P : Type 0} (result : Result T E) → P → OnErr result P
at_err (Ok value) fact = tt
at_err (Err error) fact = fact

-- what follows of either outcome
pub outcome : {T E A B C R : Type 0} (result : Result T E) → OnOk result A → OnOk result B → OnErr result C → (A → B → R) → (C → R) → R
outcome (Ok value) a b c done failed = done a b
outcome (Err error) a b c done failed = failed c

pub within_same : (a b : Contents) → a ≡ b → Within a b
within_same a b same pack offset size bytes has = ap (λ (c : Contents). c pack offset size) (sym same) ∙ has

module _ {D : Type 0} (g : Ghosts D) where
  pub written_held : (slot : Option (Pack D)) (at : ℕ) (bytes : List ℕ) → IsWrittenIn g slot at bytes → Holds (file_in g slot) at bytes
  written_held None at bytes none = absurd none
  written_held (Some pack) at bytes w = w.seen

  settled_held : (slot : Option (Pack D)) (at : ℕ) (bytes : List ℕ) → IsSettledIn g slot at bytes → Holds (file_in g slot) at bytes
  settled_held None at bytes none = absurd none
  settled_held (Some pack) at bytes s = s.stands.seen

  -- what is written up to an end has each of its parts
  pub parts_written : (slot : Option (Pack D)) (end at size : ℕ) → 0 < end → at + size ≤ end → WrittenTo g slot end → IsWrittenIn g slot at (part_of (file_in g slot) at size)
  parts_written None end at size some inside w = absurd (omega (arith, some, w.below))
  parts_written (Some pack) end at size some inside w =
      let file = g.seen pack.disk in
      let first = part_of file 0 end in
      let whole = length_part file 0 end (omega (arith, w.long)) in
      let here = length_part file at size (omega (arith, inside, w.long)) in
      let held = front_held file end w.long in
      let same = part_same file first at size held (omega (arith, whole, inside)) in
      record {
        below = omega (arith, here, inside, w.below);
        seen = rw same (part_held file first at size held (omega (arith, whole, inside)));
        safe = elim (cases_Bool pack.dirty) [
          | inl dirty ↦ inl dirty
          | inr not ↦
              let s = w.safe not some in
              inr (record {
                marked = omega (arith, here, inside, whole, s.marked);
                below = omega (arith, here, inside, w.below);
                stands = record {
                  seen = rw same (part_held file first at size held (omega (arith, whole, inside)));
                  left = λ c leaves. rw same (part_held c first at size (s.stands.left c leaves) (omega (arith, whole, inside)));
                };
              })
        ];
      }

  -- a file that has all before an end
  written_to_end : (slot : Option (Pack D)) (end : ℕ) (bytes : List ℕ) → length bytes ≡ end → IsWrittenIn g slot 0 bytes → WrittenTo g slot end
  written_to_end None end bytes is none = absurd none
  written_to_end (Some pack) end bytes is w =
      let P : List ℕ → Type 0 = λ b. IsSettled g pack 0 b in
      record {
        below = omega (arith, is, w.below);
        long = omega (arith, is, w.seen.within);
        safe = λ clean some. elim w.safe [
          | inl dirty ↦ absurd (false≢true (sym clean ∙ dirty))
          | inr s ↦ subst P (sym (ap (part_of (g.seen pack.disk) 0) (sym is) ∙ part_holds (g.seen pack.disk) 0 bytes w.seen)) s
        ];
      }

  nothing_written : (slot : Option (Pack D)) → WrittenTo g slot 0
  nothing_written slot = record { below = omega arith; long = omega arith; safe = λ _ some. absurd (omega (arith, some)) }

  written_keeps : (old new : Option (Pack D)) (end : ℕ) → KeepsPack g old new → WrittenTo g old end → WrittenTo g new end
  written_keeps old new end keeps w = elim (cases_lt 0 end) [
    | inl some ↦
        let here = length_part (file_in g old) 0 end (omega (arith, w.long)) in
        written_to_end new end (part_of (file_in g old) 0 end) here (keeps.written 0 (part_of (file_in g old) 0 end) (parts_written old end 0 end some (omega arith) w))
    | inr none ↦
        let zero : 0 ≡ end = omega (arith, none) in
        let P : ℕ → Type 0 = λ n. WrittenTo g new n in subst P zero (nothing_written new)
  ]

  -- the same bytes before an end
  front_keeps : (old new : Option (Pack D)) (end : ℕ) → 0 < end → KeepsPack g old new → WrittenTo g old end → Holds (file_in g new) 0 (part_of (file_in g old) 0 end)
  front_keeps old new end some keeps w =
      let bytes = part_of (file_in g old) 0 end in written_held new 0 bytes (keeps.written 0 bytes (parts_written old end 0 end some (omega arith) w))

  stands_keeps : (old new : Option (Pack D)) (end : ℕ) → end ≤ length (file_in g old) → KeepsPack g old new → StandsTo g old end → StandsTo g new end
  stands_keeps old new end long keeps stands some =
      let bytes = part_of (file_in g old) 0 end in
      let here = length_part (file_in g old) 0 end (omega (arith, long)) in
      let s = keeps.settled 0 bytes (stands some) in
      let P : List ℕ → Type 0 = λ b. IsSettledIn g new 0 b in
      subst P (sym (ap (part_of (file_in g new) 0) (sym here) ∙ part_holds (file_in g new) 0 bytes (settled_held new 0 bytes s))) s

  ranges_keep : (old new : Option (Pack D)) (written end : ℕ) → end ≤ written → KeepsPack g old new → WrittenTo g old written
      → (offset size : ℕ) → range_of (file_in g old) end offset size ≡ range_of (file_in g new) end offset size
  ranges_keep old new written end short keeps w offset size = elim (cases_lt 0 written) [
    | inl some ↦
        let bytes = part_of (file_in g old) 0 written in
        let here = length_part (file_in g old) 0 written (omega (arith, w.long)) in
        ranges_same (file_in g old) (file_in g new) bytes end (omega (arith, here, short)) (front_held (file_in g old) written w.long)
        (front_keeps old new written some keeps w) offset size
    | inr none ↦
        let zero : end ≡ 0 = omega (arith, none, short) in
        rw zero (range_none (file_in g old) offset size ∙ sym (range_none (file_in g new) offset size))
  ]

  sound_at_keeps : (old new : Option (Pack D)) (ends : Ends) → KeepsPack g old new → IsSoundAt g old ends → IsSoundAt g new ends
  sound_at_keeps old new ends keeps sound = record {
    kept_seen = sound.kept_seen;
    kept_stood = sound.kept_stood;
    seen_written = sound.seen_written;
    stood_written = sound.stood_written;
    written = λ clean. written_keeps old new ends.written keeps (sound.written (keeps.clean clean));
    stands = λ clean.
        let w = sound.written (keeps.clean clean) in
        stands_keeps old new ends.stood (omega (arith, w.long, sound.stood_written)) keeps (sound.stands (keeps.clean clean));
  }

  -- bytes that are written where all before is
  written_next : (slot : Option (Pack D)) (at : ℕ) (bytes : List ℕ) → WrittenTo g slot at → IsWrittenIn g slot at bytes → WrittenTo g slot (at + length bytes)
  written_next None at bytes before none = absurd none
  written_next (Some pack) at bytes before w =
      let file = g.seen pack.disk in
      let end = at + length bytes in
      let whole = length_part file 0 end (omega (arith, w.seen.within)) in
      record {
        below = w.below;
        long = w.seen.within;
        safe = λ clean some. elim w.safe [
          | inl dirty ↦ absurd (false≢true (sym clean ∙ dirty))
          | inr s ↦ record {
            marked = omega (arith, whole, s.marked);
            below = omega (arith, whole, s.below);
            stands = record {
              seen = front_held file end w.seen.within;
              left = λ c leaves. front_next c file at bytes (λ more. (before.safe clean more).stands.left c leaves) before.long (s.stands.left c leaves) w.seen;
            };
          }
        ];
      }

  -- no pack was removed
  clean_forever : (old new : Packs D) → new.removed ≡ old.removed → IsTrue (clean_of g new) → IsTrue (list_all g.is_clean old.removed.files)
  clean_forever old new same clean =
      let P : Removed D → Type 0 = λ removed. IsTrue (list_all g.is_clean removed.files) in subst P same (removed_clean g new clean)

  module _ (old new : Packs D) (keeps : Keeps g old new) where
    pub sound_keeps : (marks : Marks) → IsSound g old marks → IsSound g new marks
    sound_keeps marks sound pack = sound_at_keeps (pack_at old pack) (pack_at new pack) (ends_of marks pack) (keeps pack) (sound pack)

    pub clean_keeps : new.removed ≡ old.removed → IsTrue (clean_of g new) → IsTrue (clean_of g old)
    clean_keeps same clean = clean_each g old (λ pack. (keeps pack).clean (clean_at g new clean pack)) (clean_forever old new same clean)

    module _ (marks : Marks) (sound : IsSound g old marks) (clean : IsTrue (clean_of g new)) where
      -- the same before any ends that are written
      pub ends_keep : (ends : ℕ → ℕ) → ((n : ℕ) → ends n ≤ written_of marks n) → contents_of g new ends ≡ contents_of g old ends
      ends_keep ends short =
          let here = clean_at g new clean in
          let same : (pack offset size : ℕ) → contents_of g new ends pack offset size ≡ contents_of g old ends pack offset size =
          λ pack offset size. sym (ranges_keep (pack_at old pack) (pack_at new pack) (written_of marks pack) (ends pack) (short pack) (keeps pack)
          ((sound pack).written ((keeps pack).clean (here pack))) offset size) in
          λ i pack offset size. same pack offset size i

      pub seen_keeps : contents_of g new (seen_of marks) ≡ contents_of g old (seen_of marks)
      seen_keeps = ends_keep (seen_of marks) (λ n. (sound n).seen_written)

      pub kept_keeps : contents_of g new (kept_of marks) ≡ contents_of g old (kept_of marks)
      kept_keeps = ends_keep (kept_of marks) (λ n. let at = sound n in omega (arith, at.kept_seen, at.seen_written))

      pub stood_keeps : Within (contents_of g old (stood_of marks)) (contents_of g new (stood_of marks))
      stood_keeps = within_same _ _ (sym (ends_keep (stood_of marks) (λ n. (sound n).stood_written)))

  -- a sync makes what is written stand
  pub written_stands : (old new : Packs D) (marks : Marks) → IsSound g old marks → Keeps g old new
      → ((place : Place) (bytes : List ℕ) → IsGiven g old place bytes → IsKept g new place bytes)
      → (pack : ℕ) → IsCleanIn g (pack_at new pack) → StandsTo g (pack_at new pack) (written_of marks pack)
  written_stands old new marks sound keeps kept pack clean some =
      let end = written_of marks pack in
      let w = (sound pack).written ((keeps pack).clean clean) in
      let bytes = part_of (file_of g old pack) 0 end in
      let here = length_part (file_of g old pack) 0 end (omega (arith, w.long)) in
      let place : Place = record { pack = pack; offset = 0; size = length bytes; sum = sum_of bytes } in
      let given : IsGiven g old place bytes = record {
        written = parts_written (pack_at old pack) end 0 end some (omega arith) w;
        size = refl;
        sum = refl;
      } in
      let s = (kept place bytes given).settled in
      let P : List ℕ → Type 0 = λ b. IsSettledIn g (pack_at new pack) 0 b in
      subst P (sym (ap (part_of (file_of g new pack) 0) (sym here) ∙ part_holds (file_of g new pack) 0 bytes (settled_held (pack_at new pack) 0 bytes s))) s

  -- what is seen stands in the packs of after a sync
  pub seen_stands : (old new : Packs D) (keeps : Keeps g old new) (before after : Marks) → IsSound g old before
      → ((n : ℕ) → ends_of after n ≡ all_stood (ends_of before n)) → IsTrue (clean_of g new)
      → Within (contents_of g old (seen_of before)) (contents_of g new (stood_of after))
  seen_stands old new keeps before after sound changed clean pack offset size bytes has =
      let same = seen_keeps old new keeps before sound clean in
      longer g new (seen_of before) (stood_of after) (λ n. let to = ap (λ (ends : Ends). ends.stood) (changed n) in let at = sound n in omega (arith, to, at.seen_written))
      pack offset size bytes (within_same _ _ (sym same) pack offset size bytes has)

  -- what is seen at a place is written there, and is as long
  pub seen_written : (packs : Packs D) (marks : Marks) → IsSound g packs marks → (place : Place) (bytes : List ℕ) → IsCleanIn g (pack_at packs place.pack)
      → contents_of g packs (seen_of marks) place.pack place.offset place.size ≡ Some bytes → IsWrittenIn g (pack_at packs place.pack) place.offset bytes × (length bytes ≡ place.size)
  seen_written packs marks sound place bytes clean there =
      let at = sound place.pack in
      let w = at.written clean in
      let file = file_of g packs place.pack in
      let found = range_some file (ends_of marks place.pack).seen place.offset place.size bytes there in
      let P : List ℕ → Type 0 = λ b. IsWrittenIn g (pack_at packs place.pack) place.offset b in (
        subst P found.2 (parts_written (pack_at packs place.pack) (ends_of marks place.pack).written place.offset place.size
            (omega (arith, found.0, found.1, at.seen_written)) (omega (arith, found.1, at.seen_written)) w),
        sym (sym (length_part file place.offset place.size (omega (arith, found.1, at.seen_written, w.long))) ∙ ap length found.2),
      )

  -- the same before the same ends
  pub contents_same : (packs : Packs D) (ends others : ℕ → ℕ) → ((n : ℕ) → ends n ≡ others n) → contents_of g packs ends ≡ contents_of g packs others
  contents_same packs ends others same = λ i pack offset size. range_of (file_of g packs pack) (same pack i) offset size

  -- ends within others end before them
  pub ends_within : (packs : Packs D) (ends others : ℕ → ℕ) → Within (contents_of g packs ends) (contents_of g packs others) → (n : ℕ) → ends n ≤ others n
  ends_within packs ends others within n = elim (cases_lt 0 (ends n)) [
    | inl some ↦
        let file = file_of g packs n in
        let has = within n 0 (ends n) (part_of file 0 (ends n)) (range_is file (ends n) 0 (ends n) some (omega arith)) in
        let found = range_some file (others n) 0 (ends n) (part_of file 0 (ends n)) has in omega (arith, found.1)
    | inr none ↦ omega (arith, none)
  ]

  module _ (packs : Packs D) (before after : Marks) (sound : IsSound g packs before) where
    pub sound_same : ((n : ℕ) → ends_of after n ≡ ends_of before n) → IsSound g packs after
    sound_same same pack = let P : Ends → Type 0 = λ ends. IsSoundAt g (pack_at packs pack) ends in subst P (sym (same pack)) (sound pack)

    pub sound_kept : ((n : ℕ) → ends_of after n ≡ all_kept (ends_of before n)) → IsSound g packs after
    sound_kept changed pack =
        let P : Ends → Type 0 = λ ends. IsSoundAt g (pack_at packs pack) ends in
        let at = sound pack in
        subst P (sym (changed pack)) (record {
          kept_seen = omega arith;
          kept_stood = omega arith;
          seen_written = at.seen_written;
          stood_written = at.stood_written;
          written = at.written;
          stands = at.stands;
        })

    pub sound_stood : ((n : ℕ) → IsCleanIn g (pack_at packs n) → StandsTo g (pack_at packs n) (written_of before n))
        → ((n : ℕ) → ends_of after n ≡ all_stood (ends_of before n)) → IsSound g packs after
    sound_stood stands changed pack =
        let P : Ends → Type 0 = λ ends. IsSoundAt g (pack_at packs pack) ends in
        let at = sound pack in
        subst P (sym (changed pack)) (record {
          kept_seen = at.kept_seen;
          kept_stood = omega (arith, at.kept_stood, at.stood_written);
          seen_written = at.seen_written;
          stood_written = omega arith;
          written = at.written;
          stands = stands pack;
        })

    pub sound_forgot : ((n : ℕ) → ends_of after n ≡ kept_alone (ends_of before n)) → IsSound g packs after
    sound_forgot changed pack =
        let P : Ends → Type 0 = λ ends. IsSoundAt g (pack_at packs pack) ends in
        let at = sound pack in
        subst P (sym (changed pack)) (record {
          kept_seen = omega arith;
          kept_stood = at.kept_stood;
          seen_written = omega (arith, at.kept_seen, at.seen_written);
          stood_written = at.stood_written;
          written = at.written;
          stands = at.stands;
        })

    -- all that is seen is kept, if it stands
    pub kept_all : ((n : ℕ) → ends_of after n ≡ all_kept (ends_of before n)) → Within (contents_of g packs (seen_of before)) (contents_of g packs (stood_of before))
        → contents_of g packs (kept_of after) ≡ contents_of g packs (seen_of before)
    kept_all changed within = contents_same packs (kept_of after) (seen_of before) (λ n.
        let short = ends_within packs (seen_of before) (stood_of before) within n in
        let to = ap (λ (ends : Ends). ends.kept) (changed n) in omega (arith, to, short))

    -- bytes were written where all before is, and are seen
    module _ (pack at : ℕ) (bytes : List ℕ) (from : (ends_of before pack).written ≡ at) (to : ends_of after pack ≡ written_to (at + length bytes) (ends_of before pack))
        (others : (n : ℕ) → n ≢ pack → ends_of after n ≡ ends_of before n) where
      pub sound_writes : IsWrittenIn g (pack_at packs pack) at bytes → IsSound g packs after
      sound_writes w =
          let P : ℕ → Type 0 = λ n. IsSoundAt g (pack_at packs n) (ends_of after n) in
          let here = sound pack in
          let Q : Ends → Type 0 = λ ends. IsSoundAt g (pack_at packs pack) ends in
          let R : ℕ → Type 0 = λ n. WrittenTo g (pack_at packs pack) n in
          let grown : IsSoundAt g (pack_at packs pack) (written_to (at + length bytes) (ends_of before pack)) = record {
            kept_seen = omega (arith, here.kept_seen, here.seen_written, from);
            kept_stood = here.kept_stood;
            seen_written = omega arith;
            stood_written = omega (arith, here.stood_written, from);
            written = λ clean. written_next (pack_at packs pack) at bytes (subst R from (here.written clean)) w;
            stands = here.stands;
          } in
          one_and_others P pack (subst Q (sym to) grown)
          (λ n other. let S : Ends → Type 0 = λ ends. IsSoundAt g (pack_at packs n) ends in subst S (sym (others n other)) (sound n))

      -- no less is seen
      pub seen_rises : (n : ℕ) → seen_of before n ≤ seen_of after n
      seen_rises =
          let P : ℕ → Type 0 = λ n. seen_of before n ≤ seen_of after n in
          let here = ap (λ (ends : Ends). ends.seen) to in
          let at_pack = sound pack in
          one_and_others P pack (omega (arith, here, at_pack.seen_written, from)) (λ n other. let same = ap (λ (ends : Ends). ends.seen) (others n other) in omega (arith, same))

      -- no less is written
      pub written_rises : (n : ℕ) → written_of before n ≤ written_of after n
      written_rises =
          let P : ℕ → Type 0 = λ n. written_of before n ≤ written_of after n in
          let here = ap (λ (ends : Ends). ends.written) to in
          one_and_others P pack (omega (arith, here, from)) (λ n other. let same = ap (λ (ends : Ends). ends.written) (others n other) in omega (arith, same))

      -- the same is kept
      pub kept_stays : (n : ℕ) → kept_of after n ≡ kept_of before n
      kept_stays =
          let P : ℕ → Type 0 = λ n. kept_of after n ≡ kept_of before n in
          one_and_others P pack (ap (λ (ends : Ends). ends.kept) to) (λ n other. ap (λ (ends : Ends). ends.kept) (others n other))

      -- and stands
      pub stood_stays : (n : ℕ) → stood_of after n ≡ stood_of before n
      stood_stays =
          let P : ℕ → Type 0 = λ n. stood_of after n ≡ stood_of before n in
          one_and_others P pack (ap (λ (ends : Ends). ends.stood) to) (λ n other. ap (λ (ends : Ends). ends.stood) (others n other))

      -- the place has its bytes
      pub place_seen : 0 < length bytes → IsWrittenIn g (pack_at packs pack) at bytes → contents_of g packs (seen_of after) pack at (length bytes) ≡ Some bytes
      place_seen some w =
          let file = file_of g packs pack in
          let here = ap (λ (ends : Ends). ends.seen) to in
          range_is file (seen_of after pack) at (length bytes) some (omega (arith, here))
          ∙ ap (λ (part : List ℕ). Some part) (part_holds file at bytes (written_held (pack_at packs pack) at bytes w))

    -- a pack is gone, and so are its marks
    pub sound_removed : (new : Packs D) (pack : ℕ) → ends_of after pack ≡ no_ends → ((n : ℕ) → n ≢ pack → ends_of after n ≡ ends_of before n)
        → ((n : ℕ) → n ≢ pack → pack_at new n ≡ pack_at packs n) → IsSound g new after
    sound_removed new pack gone marks_stay packs_stay =
        let P : ℕ → Type 0 = λ n. IsSoundAt g (pack_at new n) (ends_of after n) in
        let Q : Ends → Type 0 = λ ends. IsSoundAt g (pack_at new pack) ends in
        let none : IsSoundAt g (pack_at new pack) no_ends = record {
          kept_seen = omega arith;
          kept_stood = omega arith;
          seen_written = omega arith;
          stood_written = omega arith;
          written = λ _. nothing_written (pack_at new pack);
          stands = λ _ some. absurd (omega (arith, some));
        } in
        one_and_others P pack (subst Q (sym gone) none) (λ n other.
        let S : Ends → Type 0 = λ ends. IsSoundAt g (pack_at new n) ends in
        let T : Option (Pack D) → Type 0 = λ slot. IsSoundAt g slot (ends_of before n) in
        subst S (sym (marks_stay n other)) (subst T (sym (packs_stay n other)) (sound n)))

  -- a pack is gone, and its file is noted
  clean_file : (slot : Option (Pack D)) (file : D) → IsFileIn slot file → IsTrue (g.is_clean file) → IsCleanIn g slot
  clean_file None file none clean = absurd none
  clean_file (Some pack) file is clean = let P : D → Type 0 = λ disk. IsTrue (g.is_clean disk) in subst P (sym is) clean

  pub clean_removed : (old new : Packs D) (pack : ℕ) (file : D) → IsFileIn (pack_at old pack) file → new.removed.files ≡ file ∷ old.removed.files
      → ((n : ℕ) → n ≢ pack → pack_at new n ≡ pack_at old n) → IsTrue (clean_of g new) → IsTrue (clean_of g old)
  clean_removed old new pack file is noted others clean =
      let P : List D → Type 0 = λ files. IsTrue (list_all g.is_clean files) in
      let Q : ℕ → Type 0 = λ n. IsCleanIn g (pack_at old n) in
      let R : Option (Pack D) → Type 0 = λ slot. IsCleanIn g slot in
      let both = and_parts (g.is_clean file) (list_all g.is_clean old.removed.files) (subst P noted (removed_clean g new clean)) in
      clean_each g old (one_and_others Q pack (clean_file (pack_at old pack) file is both.0) (λ n other. subst R (others n other) (clean_at g new clean n))) both.1

  -- packs that are all the same
  pub clean_stays : (old new : Packs D) → ((n : ℕ) → pack_at new n ≡ pack_at old n) → new.removed ≡ old.removed → IsTrue (clean_of g new) → IsTrue (clean_of g old)
  clean_stays old new same none clean =
      let R : Option (Pack D) → Type 0 = λ slot. IsCleanIn g slot in
      clean_each g old (λ n. subst R (same n) (clean_at g new clean n)) (clean_forever old new none clean)

  pub contents_stay : (old new : Packs D) (ends : ℕ → ℕ) → ((n : ℕ) → pack_at new n ≡ pack_at old n) → contents_of g new ends ≡ contents_of g old ends
  contents_stay old new ends same = λ i pack offset size. range_of (file_in g (same pack i)) (ends pack) offset size

  pub sound_stays : (old new : Packs D) (marks : Marks) → ((n : ℕ) → pack_at new n ≡ pack_at old n) → IsSound g old marks → IsSound g new marks
  sound_stays old new marks same sound pack =
      let P : Option (Pack D) → Type 0 = λ slot. IsSoundAt g slot (ends_of marks pack) in subst P (sym (same pack)) (sound pack)

  -- a pack of which nothing is seen
  pub none_seen : (packs : Packs D) (marks : Marks) (pack : ℕ) → ends_of marks pack ≡ no_ends → HasNothing (contents_of g packs (seen_of marks)) pack
  none_seen packs marks pack gone offset size =
      ap (λ (ends : Ends). range_of (file_of g packs pack) ends.seen offset size) gone ∙ range_none (file_of g packs pack) offset size

  -- all packs but one are the same, and so are their ends
  pub others_stay : (old new : Packs D) (ends after : ℕ → ℕ) (pack : ℕ) → ((n : ℕ) → n ≢ pack → pack_at new n ≡ pack_at old n)
      → ((n : ℕ) → n ≢ pack → after n ≡ ends n) → AreSameBut pack (contents_of g new after) (contents_of g old ends)
  others_stay old new ends after pack packs_stay ends_stay n other offset size =
      ap (λ (slot : Option (Pack D)). range_of (file_in g slot) (after n) offset size) (packs_stay n other)
      ∙ ap (λ (end : ℕ). range_of (file_of g old n) end offset size) (ends_stay n other)

  pub sound_none : (packs : Packs D) (marks : Marks) → ((n : ℕ) → ends_of marks n ≡ no_ends) → IsSound g packs marks
  sound_none packs marks none pack =
      let P : Ends → Type 0 = λ ends. IsSoundAt g (pack_at packs pack) ends in
      subst P (sym (none pack)) (record {
        kept_seen = omega arith;
        kept_stood = omega arith;
        seen_written = omega arith;
        stood_written = omega arith;
        written = λ _. nothing_written (pack_at packs pack);
        stands = λ _ some. absurd (omega (arith, some));
      })

  -- a call that keeps the packs, and after it these ends
  module _ (old new : Packs D) (keeps : Keeps g old new) (before after : Marks) (sound : IsSound g old before) (clean : IsTrue (clean_of g new)) where
    pub seen_turns : ((n : ℕ) → seen_of after n ≡ seen_of before n) → contents_of g new (seen_of after) ≡ contents_of g old (seen_of before)
    seen_turns same = contents_same new (seen_of after) (seen_of before) same ∙ seen_keeps old new keeps before sound clean

    pub kept_turns : ((n : ℕ) → kept_of after n ≡ kept_of before n) → contents_of g new (kept_of after) ≡ contents_of g old (kept_of before)
    kept_turns same = contents_same new (kept_of after) (kept_of before) same ∙ kept_keeps old new keeps before sound clean

    pub seen_adds : ((n : ℕ) → seen_of before n ≤ seen_of after n) → Within (contents_of g old (seen_of before)) (contents_of g new (seen_of after))
    seen_adds rises pack offset size bytes has =
        longer g new (seen_of before) (seen_of after) rises pack offset size bytes
        (within_same _ _ (sym (seen_keeps old new keeps before sound clean)) pack offset size bytes has)

    pub stood_adds : ((n : ℕ) → stood_of before n ≤ stood_of after n) → Within (contents_of g old (stood_of before)) (contents_of g new (stood_of after))
    stood_adds rises pack offset size bytes has =
        longer g new (stood_of before) (stood_of after) rises pack offset size bytes (stood_keeps old new keeps before sound clean pack offset size bytes has)

  -- a file that was synced, opened as a pack up to a mark
  module _ (slot : Option (Pack D)) (file : D) (mark : ℕ) (synced : (offset : ℕ) (bytes : List ℕ) → Holds (g.seen file) offset bytes → Stands g file offset bytes)
      (settled : (offset : ℕ) (bytes : List ℕ) → offset + length bytes ≤ mark → Stands g file offset bytes → IsSettledIn g slot offset bytes)
      (end : end_in slot ≡ mark) (long : mark ≤ length (g.seen file)) where
    first_settled : IsSettledIn g slot 0 (part_of (g.seen file) 0 mark)
    first_settled =
        let here = length_part (g.seen file) 0 mark (omega (arith, long)) in
        settled 0 (part_of (g.seen file) 0 mark) (omega (arith, here)) (synced 0 (part_of (g.seen file) 0 mark) (front_held (g.seen file) mark long))

    opened_stands : StandsTo g slot mark
    opened_stands some =
        let bytes = part_of (g.seen file) 0 mark in
        let here = length_part (g.seen file) 0 mark (omega (arith, long)) in
        let s = first_settled in
        let P : List ℕ → Type 0 = λ b. IsSettledIn g slot 0 b in
        subst P (sym (ap (part_of (file_in g slot) 0) (sym here) ∙ part_holds (file_in g slot) 0 bytes (settled_held slot 0 bytes s))) s

    opened_written : WrittenTo g slot mark
    opened_written =
        let bytes = part_of (g.seen file) 0 mark in
        let here = length_part (g.seen file) 0 mark (omega (arith, long)) in
        let held = settled_held slot 0 bytes first_settled in
        record { below = omega (arith, end); long = omega (arith, here, held.within); safe = λ _. opened_stands }

    -- it has what the file had before the mark
    pub opened_ranges : (offset size : ℕ) → range_of (file_in g slot) mark offset size ≡ range_of (g.seen file) mark offset size
    opened_ranges =
        let bytes = part_of (g.seen file) 0 mark in
        let here = length_part (g.seen file) 0 mark (omega (arith, long)) in
        ranges_same (file_in g slot) (g.seen file) bytes mark (omega (arith, here)) (settled_held slot 0 bytes first_settled) (front_held (g.seen file) mark long)

  pub sound_opens : (packs : Packs D) (before after : Marks) → IsSound g packs before → (pack : ℕ) (file : D) (mark : ℕ)
      → ((offset : ℕ) (bytes : List ℕ) → Holds (g.seen file) offset bytes → Stands g file offset bytes)
      → ((offset : ℕ) (bytes : List ℕ) → offset + length bytes ≤ mark → Stands g file offset bytes → IsSettledIn g (pack_at packs pack) offset bytes)
      → end_in (pack_at packs pack) ≡ mark → (IsCleanIn g (pack_at packs pack) → mark ≤ length (g.seen file))
      → ends_of after pack ≡ ends_at mark → ((n : ℕ) → n ≢ pack → ends_of after n ≡ ends_of before n) → IsSound g packs after
  sound_opens packs before after sound pack file mark synced settled end long to others =
      let P : ℕ → Type 0 = λ n. IsSoundAt g (pack_at packs n) (ends_of after n) in
      let Q : Ends → Type 0 = λ ends. IsSoundAt g (pack_at packs pack) ends in
      let opened : IsSoundAt g (pack_at packs pack) (ends_at mark) = record {
        kept_seen = omega arith;
        kept_stood = omega arith;
        seen_written = omega arith;
        stood_written = omega arith;
        written = λ clean. opened_written (pack_at packs pack) file mark synced settled end (long clean);
        stands = λ clean. opened_stands (pack_at packs pack) file mark synced settled end (long clean);
      } in
      one_and_others P pack (subst Q (sym to) opened)
      (λ n other. let S : Ends → Type 0 = λ ends. IsSoundAt g (pack_at packs n) ends in subst S (sym (others n other)) (sound n))

  -- packs that are kept, and the ends of all but one
  pub others_keep : (old new : Packs D) (keeps : Keeps g old new) (marks : Marks) → IsSound g old marks → IsTrue (clean_of g new) → (ends after : ℕ → ℕ)
      → ((n : ℕ) → ends n ≤ written_of marks n) → (pack : ℕ) → ((n : ℕ) → n ≢ pack → after n ≡ ends n)
      → AreSameBut pack (contents_of g new after) (contents_of g old ends)
  others_keep old new keeps marks sound clean ends after short pack same n other offset size =
      ap (λ (end : ℕ). range_of (file_of g new n) end offset size) (same n other)
      ∙ ap (λ (c : Contents). c n offset size) (ends_keep old new keeps marks sound clean ends short)
