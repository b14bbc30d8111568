-- What becomes of bytes that stand when others are written, the file is synced, or ends earlier.
use Rattle.std.proofs.Common.{◌≡◌, ℕ, ◌+◌, ◌≤◌, List, length, inl, inr, sym, subst, ◌∙◌, arith, ext_get_or}
use Rattle.sqlite_disk.specs.Disk.{Holds, Torn, Cut, Follows, Only}
use Rattle.sqlite_disk.specs.declared.Disk.{Ghosts}
use Rattle.bh_packs.specs.Stands.{AreApart, Stands, KeepsOthers, KeepsAll}

-- a write elsewhere leaves the bytes at an offset
pub held_apart : (at n a : ℕ) (bytes old new : List ℕ) → Torn at n old new → AreApart a (length bytes) at n → Holds old a bytes → Holds new a bytes
held_apart at n a bytes old new torn apart held = record {
  within = omega (arith, held.within, torn.no_shorter);
  each = λ i h. elim apart [
    | inl before ↦ torn.below (a + i) (omega (arith, held.within, h)) (omega (arith, before, h)) ∙ held.each i h
    | inr after ↦ torn.above (a + i) (omega (arith, held.within, h)) (omega (arith, after, h)) ∙ held.each i h
  ];
}

-- a file that ends earlier has what was below its end
pub held_below : (n a : ℕ) (bytes old new : List ℕ) → Cut n old new → a + length bytes ≤ n → Holds old a bytes → Holds new a bytes
held_below n a bytes old new cut below held = record {
  within = omega (arith, held.within, below, cut.no_shorter);
  each = λ i h. cut.below (a + i) (omega (arith, held.within, h)) (omega (arith, below, h)) ∙ held.each i h;
}

-- two readings of the same bytes are equal
pub one_reading : (file : List ℕ) (at : ℕ) (a b : List ℕ) → length a ≡ length b → Holds file at a → Holds file at b → a ≡ b
one_reading file at a b same one other = ext_get_or 0 a b same (λ i h. sym (one.each i h) ∙ other.each i (omega (arith, h, same)))

module _ {D : Type 0} (g : Ghosts D) where
  pub others_stand : (old new : D) (at n : ℕ) → Torn at n (g.seen old) (g.seen new) → Follows (Torn at n) (g.may_leave old) (g.may_leave new) → KeepsOthers g old new at n
  others_stand old new at n torn follows a bytes apart stands = record {
    seen = held_apart at n a bytes (g.seen old) (g.seen new) torn apart stands.seen;
    left = λ c leaves. let (d, was, step) = follows c leaves in held_apart at n a bytes d c step apart (stands.left d was);
  }

  pub below_stand : (old new : D) (n : ℕ) → Cut n (g.seen old) (g.seen new) → Follows (Cut n) (g.may_leave old) (g.may_leave new)
      → (a : ℕ) (bytes : List ℕ) → a + length bytes ≤ n → Stands g old a bytes → Stands g new a bytes
  below_stand old new n cut follows a bytes below stands = record {
    seen = held_below n a bytes (g.seen old) (g.seen new) cut below stands.seen;
    left = λ c leaves. let (d, was, step) = follows c leaves in held_below n a bytes d c step below (stands.left d was);
  }

  -- a call that changes nothing that is seen, and after which a crash leaves no more
  pub all_stand : (old new : D) → g.seen new ≡ g.seen old → ((c : List ℕ) → g.may_leave new c → g.may_leave old c) → KeepsAll g old new
  all_stand old new same fewer a bytes stands = record {
    seen = let P : List ℕ → Type 0 = λ file. Holds file a bytes in subst P (sym same) stands.seen;
    left = λ c leaves. stands.left c (fewer c leaves);
  }

  -- what is seen stands after a sync
  pub seen_stand : (old new : D) → g.seen new ≡ g.seen old → Only (g.seen old) (g.may_leave new)
      → (a : ℕ) (bytes : List ℕ) → Holds (g.seen old) a bytes → Stands g new a bytes
  seen_stand old new same only a bytes held =
      let P : List ℕ → Type 0 = λ file. Holds file a bytes in
      record {
        seen = subst P (sym same) held;
        left = λ c leaves. subst P (sym (only c leaves)) held;
      }

  -- what stands is all that a crash leaves of it
  pub crash_stand : (old new : D) → g.may_leave old (g.seen new) → ((c : List ℕ) → g.may_leave new c → g.may_leave old c) → KeepsAll g old new
  crash_stand old new left fewer a bytes stands = record {
    seen = stands.left (g.seen new) left;
    left = λ c leaves. stands.left c (fewer c leaves);
  }
