-- How a call on a database ends, as one on that with the bytes of packs.
use Rattle.std.proofs.Common.{◌≤◌, inl, inr, Bool, true, false, ◌&&◌, IsTrue, Result, ap, ap₂, ◌∙◌, arith}
use Rattle.std.proofs.lemmas.Result.{on_ok_weaker}
use Rattle.sqlite.specs.Tree.{Trees}
use Rattle.sqlite.specs.State.{State, HasCleanDisk, IsUnchanged, IsRolledBack, Survives}
use Rattle.sqlite.specs.declared.error.Error.{Error}
use Rattle.sqlite_trees.specs.View.{doubt}
use Rattle.bh_rows.specs.Means.{IsUndone, Asks, StaysInside, Changes}
use Rattle.bh_base.specs.Placed.{filled}
use Rattle.bh_base.specs.Shown.{Backing, named, shown}
use Rattle.bh_base.proofs.Lifting.{no_doubt, on_err}

less_doubt : (a b c : Bool) → doubt a ≤ doubt b → doubt (a && c) ≤ doubt (b && c)
unfolding doubt
less_doubt true true c h = omega arith
less_doubt true false true h = omega arith
less_doubt true false false h = omega arith
less_doubt false true c h = absurd (omega (arith, h))
less_doubt false false c h = omega arith

module _ (a : Backing) (old new : State) where
  -- the disk is clean, and so are the packs
  pub disk_clean : (s : State) → HasCleanDisk (shown a s) → HasCleanDisk s × IsTrue a.is_clean
  disk_clean s h = no_doubt s.is_clean a.is_clean h

  -- what stands now is what stood
  unchanged_shown : IsUnchanged old new → IsUnchanged (shown a old) (shown a new)
  unchanged_shown h = (
    record {
      was_open = h.0.was_open;
      is_open = h.0.is_open;
      now_is = ap₂ (λ inside db. filled (named a inside) db) h.0.mode h.0.now_is;
      committed_is = ap (filled a.kept) h.0.committed_is;
      mode = h.0.mode;
    },
    record { changes = h.1.changes; last_rowid = h.1.last_rowid },
    h.2,
  )

  -- or what was committed
  back_shown : IsRolledBack old new → IsRolledBack (shown a old) (shown a new)
  back_shown h = record {
    was_open = h.was_open;
    undone = λ up. (ap (λ inside. filled (named a inside) new.now) h.autocommit ∙ ap (filled a.kept) (h.undone up).0, ap (filled a.kept) (h.undone up).1);
    autocommit = h.autocommit;
    unmarked = h.unmarked;
    counts = record { changes = h.counts.changes; last_rowid = h.counts.last_rowid };
  }

  undone_shown : IsUndone old new → IsUndone (shown a old) (shown a new)
  undone_shown (inl same) = inl (unchanged_shown same)
  undone_shown (inr back) = inr (back_shown back)

  stays_shown : StaysInside old new → StaysInside (shown a old) (shown a new)
  stays_shown h = record {
    is_open = h.is_open;
    inside = h.inside;
    committed = λ inside. ap (filled a.kept) (h.committed inside);
    marks = h.marks;
    limit = h.limit;
  }

  -- a crash leaves no more, where a call commits nothing that it leaves
  pub survives_shown : {P : Trees → Type 0} {Q : Type 0} → Survives old new P → (IsTrue a.is_clean → Survives old new (λ _. Q)) → Survives (shown a old) (shown a new) (λ _. Q)
  survives_shown s quiet = record {
    clean = less_doubt old.is_clean new.is_clean a.is_clean s.clean;
    shield = s.shield;
    counts = s.counts;
    limit = s.limit;
    closes = λ h up. s.closes (disk_clean new h).0 up;
    crash = λ h db it. let clean = disk_clean new h in elim ((quiet clean.1).crash clean.0 it.0 it.2) [
      | inl was ↦ inl (it.0, it.1, was, it.3, it.4)
      | inr commits ↦ inr commits
    ];
  }

  module _ {X : Type 0} (result : Result X Error) {P : Trees → Type 0} (survives : Survives old new P) where
    -- a write
    pub changes_shown : (IsTrue a.is_clean → Changes old new result) → Changes (shown a old) (shown a new) result
    changes_shown it = record {
      inside = λ h up. let clean = disk_clean new h in on_ok_weaker result stays_shown ((it clean.1).inside clean.0 up);
      undone = λ h. let clean = disk_clean new h in on_err result undone_shown ((it clean.1).undone clean.0);
      up = λ h up. let clean = disk_clean new h in (it clean.1).up clean.0 up;
      survives = survives_shown survives (λ clean. (it clean).survives);
    }

    -- a question
    pub asks_shown : (IsTrue a.is_clean → Asks old new result) → Asks (shown a old) (shown a new) result
    asks_shown it = record {
      same = λ h. let clean = disk_clean new h in on_ok_weaker result unchanged_shown ((it clean.1).same clean.0);
      undone = λ h. let clean = disk_clean new h in on_err result undone_shown ((it clean.1).undone clean.0);
      trouble = λ h unlimited. let clean = disk_clean new h in (it clean.1).trouble clean.0 unlimited;
      up = λ h up. let clean = disk_clean new h in (it clean.1).up clean.0 up;
      survives = survives_shown survives (λ clean. (it clean).survives);
    }
