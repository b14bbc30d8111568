-- What a call on one pack's file keeps of the pack.
use Rattle.std.proofs.Common.{◌≡◌, ℕ, zero, suc, ◌+◌, ◌≤◌, ◌<◌, List, [], ◌∷◌, ◌++◌, length, slice_index_or, slice_set, Option, Some, None, IsTrue, inl, inr, sym, subst, arith, ◌∙◌}
use Rattle.sqlite_disk.specs.Disk.{Holds}
use Rattle.sqlite_disk.specs.declared.Disk.{Ghosts}
use Rattle.bh_packs.specs.declared.pack.Pack.{Pack}
use Rattle.bh_packs.specs.declared.packs.Packs.{Packs}
use Rattle.bh_packs.specs.Stands.{Stands, KeepsOthers, KeepsAll}
use Rattle.bh_packs.specs.Packs.{IsSettled, IsWritten, IsSettledIn, IsWrittenIn, KeepsPack, Keeps}

module _ {D : Type 0} (g : Ghosts D) where
  -- what stands is written
  pub settled_written : (p : Pack D) (at : ℕ) (bytes : List ℕ) → IsSettled g p at bytes → IsWritten g p at bytes
  settled_written p at bytes settled = record { below = settled.below; seen = settled.stands.seen; safe = inr settled }

  pub settled_written_in : (slot : Option (Pack D)) (at : ℕ) (bytes : List ℕ) → IsSettledIn g slot at bytes → IsWrittenIn g slot at bytes
  settled_written_in None at bytes none = none
  settled_written_in (Some p) at bytes settled = settled_written p at bytes settled

  -- a new pack in an empty slot
  pub none_keeps : (p : Pack D) → KeepsPack g None (Some p)
  none_keeps p = record { written = λ at bytes none. absurd none; settled = λ at bytes none. absurd none; ends = omega arith; lane = λ lane none. absurd none; clean = λ _. tt }

  -- a write at the end
  pub put_keeps : (old new : Pack D) (n : ℕ) → new.lane ≡ old.lane → old.end ≤ new.end → new.synced ≡ old.synced → (IsTrue old.dirty → IsTrue new.dirty)
      → ((a : ℕ) (others : List ℕ) → a + length others ≤ old.end → Holds (g.seen old.disk) a others → Holds (g.seen new.disk) a others)
      → KeepsOthers g old.disk new.disk old.end n → g.is_clean new.disk ≡ g.is_clean old.disk → KeepsPack g (Some old) (Some new)
  put_keeps old new n lane on mark dirty elsewhere others clean =
      let settled : (at : ℕ) (bytes : List ℕ) → IsSettled g old at bytes → IsSettled g new at bytes = λ at bytes s. record {
        marked = omega (arith, s.marked, mark);
        below = omega (arith, s.below, on);
        stands = others at bytes (inl s.below) s.stands;
      } in
      record {
        written = λ at bytes w. record {
          below = omega (arith, w.below, on);
          seen = elsewhere at bytes w.below w.seen;
          safe = elim w.safe [ inl was ↦ inl (dirty was) | inr s ↦ inr (settled at bytes s) ];
        };
        settled = settled;
        ends = on;
        lane = λ _ was. lane ∙ was;
        clean = λ is. subst IsTrue clean is;
      }

  -- a call that changes nothing that is seen
  pub all_keep : (old new : Pack D) → new.lane ≡ old.lane → new.end ≡ old.end → new.synced ≡ old.synced → (IsTrue old.dirty → IsTrue new.dirty)
      → g.seen new.disk ≡ g.seen old.disk → KeepsAll g old.disk new.disk → (IsTrue (g.is_clean new.disk) → IsTrue (g.is_clean old.disk))
      → KeepsPack g (Some old) (Some new)
  all_keep old new lane end mark dirty same all clean =
      let settled : (at : ℕ) (bytes : List ℕ) → IsSettled g old at bytes → IsSettled g new at bytes = λ at bytes s. record {
        marked = omega (arith, s.marked, mark);
        below = omega (arith, s.below, end);
        stands = all at bytes s.stands;
      } in
      record {
        written = λ at bytes w. record {
          below = omega (arith, w.below, end);
          seen = let P : List ℕ → Type 0 = λ file. Holds file at bytes in subst P (sym same) w.seen;
          safe = elim w.safe [ inl was ↦ inl (dirty was) | inr s ↦ inr (settled at bytes s) ];
        };
        settled = settled;
        ends = omega (arith, end);
        lane = λ _ was. lane ∙ was;
        clean = clean;
      }

  -- a sync
  pub sync_settles : (old new : Pack D) → new.end ≡ old.end → new.synced ≡ old.end
      → ((at : ℕ) (bytes : List ℕ) → Holds (g.seen old.disk) at bytes → Stands g new.disk at bytes)
      → (at : ℕ) (bytes : List ℕ) → IsWritten g old at bytes → IsSettled g new at bytes
  sync_settles old new end mark stands at bytes w = record {
    marked = omega (arith, w.below, mark);
    below = omega (arith, w.below, end);
    stands = stands at bytes w.seen;
  }

  pub sync_keeps : (old new : Pack D) → new.lane ≡ old.lane → new.end ≡ old.end → new.synced ≡ old.end
      → ((at : ℕ) (bytes : List ℕ) → Holds (g.seen old.disk) at bytes → Stands g new.disk at bytes)
      → g.is_clean new.disk ≡ g.is_clean old.disk → KeepsPack g (Some old) (Some new)
  sync_keeps old new lane end mark stands clean =
      let settles = sync_settles old new end mark stands in
      record {
        written = λ at bytes w. settled_written new at bytes (settles at bytes w);
        settled = λ at bytes s. settles at bytes (settled_written old at bytes s);
        ends = omega (arith, end);
        lane = λ _ was. lane ∙ was;
        clean = λ is. subst IsTrue clean is;
      }

  -- one call after another
  pub keeps_then : (a b c : Packs D) → Keeps g a b → Keeps g b c → Keeps g a c
  keeps_then a b c first second n = record {
    written = λ at bytes w. (second n).written at bytes ((first n).written at bytes w);
    settled = λ at bytes s. (second n).settled at bytes ((first n).settled at bytes s);
    ends = omega (arith, (first n).ends, (second n).ends);
    lane = λ lane was. (second n).lane lane ((first n).lane lane was);
    clean = λ is. (first n).clean ((second n).clean is);
  }

  same_keeps : (slot : Option (Pack D)) → KeepsPack g slot slot
  same_keeps slot = record { written = λ at bytes w. w; settled = λ at bytes s. s; ends = omega arith; lane = λ lane was. was; clean = λ is. is }

  -- another pack in one slot
  pub set_keeps : (slots : List (Option (Pack D))) (number : ℕ) (was new : Option (Pack D)) → number < length slots
      → was ≡ slice_index_or slots number was → KeepsPack g was new
      → (n : ℕ) → KeepsPack g (slice_index_or slots n None) (slice_index_or (slice_set slots number new) n None)
  set_keeps [] number was new below is keeps n = absurd (omega (arith, below))
  set_keeps (slot ∷ slots) zero was new below is keeps zero = subst (λ (it : Option (Pack D)). KeepsPack g it new) is keeps
  set_keeps (slot ∷ slots) zero was new below is keeps (suc n) = same_keeps (slice_index_or slots n None)
  set_keeps (slot ∷ slots) (suc number) was new below is keeps zero = same_keeps slot
  set_keeps (slot ∷ slots) (suc number) was new below is keeps (suc n) = set_keeps slots number was new (omega (arith, below)) is keeps n

  -- one more slot
  pub more_keep : (slots : List (Option (Pack D))) (new : Option (Pack D)) → KeepsPack g None new
      → (n : ℕ) → KeepsPack g (slice_index_or slots n None) (slice_index_or (slots ++ new ∷ []) n None)
  more_keep [] new keeps zero = keeps
  more_keep [] new keeps (suc n) = same_keeps None
  more_keep (slot ∷ slots) new keeps zero = same_keeps slot
  more_keep (slot ∷ slots) new keeps (suc n) = more_keep slots new keeps n
