-- BEGIN, COMMIT and ROLLBACK, in the words of the layer.
use Rattle.std.proofs.Common.{◌≡◌, ◌⊎◌, inl, inr, ℕ, List, [], Bool, true, false, IsTrue, Ok, Err, Result, OnOk, OnErr, IfErr, refl, sym, ap, ◌∙◌, true≢false, subst, not}
use Rattle.std.proofs.lemmas.Bool.{cases_Bool}
use Rattle.sqlite.specs.Tree.{Trees}
use Rattle.sqlite.specs.Effect.{Database, IsDatabase}
use Rattle.sqlite.specs.Command.{Command}
use Rattle.sqlite.specs.Command.TheVariants.{Begin, Commit, Rollback}
use Rattle.sqlite.specs.State.{State, HasCleanDisk, IsLive, IsUnchanged, IsRolledBack, Survives, Executes, CommitsBy, Shows}
use Rattle.sqlite.specs.declared.error.Error.{Error}
use Rattle.sqlite.proofs.Callers.{runs_as}
use Rattle.bh_rows.specs.Means.{Means, is_trouble, IsUndone}
use Rattle.bh_rows.proofs.CallLemmas.{clean_before, executes_undone}
use Rattle.bh_rows.proofs.CrashLemmas.{turn_leaves as commits_nothing}
use Rattle.bh_rows.proofs.TransactionLemmas.{turn_undone, turn_up, begin_trouble, commit_trouble, rollback_fails, commits_now}
use Rattle.bh_base.specs.Layer.{Standing, standing, IsIntact, IsOpen, IsStateClean, Leaves, begun, committed, taken_back, KeepsDisk, LeavesNothingNew, IsStandingSettled, StateWithin, Unwinds}

-- ---- an open connection

-- what stands lists its own schema
pub stood : (s : State) → IsLive s → IsOpen s → IsDatabase (standing s).now
unfolding standing IsOpen
stood s live up = (live up).0

-- ---- any call

module _ (old new : State) {P : Trees → Type 0} (s : Survives old new P) where
  pub follows : (HasCleanDisk new → IsTrue new.is_open → IsTrue old.is_open) → KeepsDisk old new
  unfolding standing IsIntact IsOpen
  follows up = record {
    clean = λ c. record { intact = clean_before old new _ s c.intact; is_open = up c.intact c.is_open };
    intact = λ clean. clean_before old new _ s clean;
    limit = s.limit;
  }

  unchanged_seen : IsUnchanged old new → standing new ≡ standing old
  unfolding standing
  unchanged_seen same = λ i. record { now = same.0.now_is i; kept = same.0.committed_is i; inside = same.0.mode i; limit = s.limit i }

  undone_seen : IsTrue new.is_open → IsRolledBack old new → standing new ≡ taken_back (standing old)
  unfolding standing
  undone_seen up back = λ i. record { now = (back.undone up).0 i; kept = (back.undone up).1 i; inside = back.autocommit i; limit = s.limit i }

  pub unwinds : IsTrue new.is_open → IsUndone old new → Unwinds (standing old) (standing new)
  unwinds up (inl same) = inl (unchanged_seen same)
  unwinds up (inr back) = inr (undone_seen up back)

  pub shown_seen : (now kept : Database) (inside : Bool) → Shows old new now kept inside → standing new ≡ record { now = now; kept = kept; inside = inside; limit = old.step_limit }
  unfolding standing
  shown_seen now kept inside h = λ i. record { now = h.now_is i; kept = h.committed_is i; inside = h.mode i; limit = s.limit i }

-- ---- a text of the three

module _ (sql : List ℕ) (old new : State) (result : Result ℕ Error) (runs : HasCleanDisk new → Executes sql [] old new result) (s : Survives old new (CommitsBy sql [] old)) where
  abbrev always : HasCleanDisk old → IsTrue old.is_open → old.now.schema ≡ old.now.schema
  always clean up = refl

  pub turn_follows : KeepsDisk old new
  turn_follows = follows old new s (turn_up sql old new old.now.schema always result runs s)

  -- a text that is no commit leaves nothing new
  pub turn_leaves : (command : Command) → Means old.now.schema sql command 0 → (command ≡ Begin) ⊎ (command ≡ Rollback) → LeavesNothingNew old new
  unfolding IsIntact Leaves
  turn_leaves command means which clean db h = elim ((commits_nothing sql old new command means which s).crash clean db h) [ inl was ↦ was | inr never ↦ absurd never ]

  pub turn_fails : OnErr result (IsStateClean new → Unwinds (standing old) (standing new))
  unfolding IsIntact IsOpen
  turn_fails = go result (turn_undone sql old new old.now.schema always result runs s)
    where
      go : (r : Result ℕ Error) → (HasCleanDisk new → OnErr r (IsUndone old new)) → OnErr r (IsStateClean new → Unwinds (standing old) (standing new))
      go (Ok count) h = tt
      go (Err e) h = λ c. unwinds old new s c.is_open (h c.intact)

  -- ---- BEGIN

  ran_begin : Means old.now.schema sql Begin 0 → HasCleanDisk new → OnOk result (Shows old new old.now old.committed true)
  ran_begin means clean = go result (runs clean)
    where
      go : (r : Result ℕ Error) → Executes sql [] old new r → OnOk r (Shows old new old.now old.committed true)
      go (Err e) h = tt
      go (Ok count) h = (runs_as sql [] old new old.now.schema refl Begin means.is means.plain count h).1

  pub begin_outside : Means old.now.schema sql Begin 0 → OnOk result (IsIntact new → (standing old).inside ≡ false)
  unfolding IsIntact standing
  begin_outside means = go result runs
    where
      go : (r : Result ℕ Error) → (HasCleanDisk new → Executes sql [] old new r) → OnOk r (HasCleanDisk new → old.in_transaction ≡ false)
      go (Err e) h = tt
      go (Ok count) h = λ clean. (runs_as sql [] old new old.now.schema refl Begin means.is means.plain count (h clean)).0

  pub begin_opens : Means old.now.schema sql Begin 0 → OnOk result (IsIntact new → IsOpen old × IsOpen new)
  unfolding IsIntact IsOpen
  begin_opens means = go result (ran_begin means)
    where
      go : (r : Result ℕ Error) → (HasCleanDisk new → OnOk r (Shows old new old.now old.committed true)) → OnOk r (HasCleanDisk new → IsTrue old.is_open × IsTrue new.is_open)
      go (Err e) h = tt
      go (Ok count) h = λ clean. ((h clean).was_open, (h clean).is_open)

  pub begin_begins : Means old.now.schema sql Begin 0 → OnOk result (IsIntact new → standing new ≡ begun (standing old))
  unfolding IsIntact standing
  begin_begins means = go result (ran_begin means)
    where
      go : (r : Result ℕ Error) → (HasCleanDisk new → OnOk r (Shows old new old.now old.committed true)) → OnOk r (HasCleanDisk new → standing new ≡ begun (standing old))
      go (Err e) h = tt
      go (Ok count) h = λ clean. shown_seen old new s old.now old.committed true (h clean)

  pub begin_within : Means old.now.schema sql Begin 0 → (IsOpen old → IsStandingSettled (standing old)) → StateWithin old new
  begin_within means before = record {
    follows = turn_follows;
    kept = λ c. (go result (begin_begins means) turn_fails c).0;
    settled = λ c. (go result (begin_begins means) turn_fails c).1;
    survives = λ up. turn_leaves Begin means (inl refl);
  }
    where
      unwound : IsStateClean new → Unwinds (standing old) (standing new) → ((standing new).kept ≡ (standing old).kept) × IsStandingSettled (standing new)
      unwound c (inl same) = (ap (λ (x : Standing). x.kept) same, subst IsStandingSettled (sym same) (before (turn_follows.clean c).is_open))
      unwound c (inr back) = (ap (λ (x : Standing). x.kept) back, subst IsStandingSettled (sym back) (inr refl))

      go : (r : Result ℕ Error) → OnOk r (IsIntact new → standing new ≡ begun (standing old)) → OnErr r (IsStateClean new → Unwinds (standing old) (standing new)) → IsStateClean new → ((standing new).kept ≡ (standing old).kept) × IsStandingSettled (standing new)
      go (Ok count) ok err c = let is = ok c.intact in (ap (λ (x : Standing). x.kept) is, inl (ap (λ (x : Standing). x.inside) is))
      go (Err e) ok err c = unwound c (err c)

  -- outside a transaction it fails in trouble alone
  pub begin_fails : Means old.now.schema sql Begin 0 → IfErr result (λ e. IsIntact new → (IsStateClean old → (standing old).inside ≡ false) → is_trouble e ≡ true)
  unfolding IsIntact IsOpen standing
  begin_fails means = go result (λ outside. begin_trouble sql old new old.now.schema always result runs s means (λ clean up. outside (record { intact = clean; is_open = up })))
    where
      go : (r : Result ℕ Error) → ((IsStateClean old → old.in_transaction ≡ false) → HasCleanDisk new → IfErr r (λ e. is_trouble e ≡ true)) → IfErr r (λ e. HasCleanDisk new → (IsStateClean old → old.in_transaction ≡ false) → is_trouble e ≡ true)
      go (Ok count) h = tt
      go (Err e) h = λ clean outside. h outside clean

  -- ---- COMMIT

  ran_commit : Means old.now.schema sql Commit 0 → HasCleanDisk new → OnOk result (Shows old new old.now old.now false)
  ran_commit means clean = go result (runs clean)
    where
      go : (r : Result ℕ Error) → Executes sql [] old new r → OnOk r (Shows old new old.now old.now false)
      go (Err e) h = tt
      go (Ok count) h = (runs_as sql [] old new old.now.schema refl Commit means.is means.plain count h).1

  pub commit_inside : Means old.now.schema sql Commit 0 → OnOk result (IsIntact new → (standing old).inside ≡ true)
  unfolding IsIntact standing
  commit_inside means = go result runs
    where
      go : (r : Result ℕ Error) → (HasCleanDisk new → Executes sql [] old new r) → OnOk r (HasCleanDisk new → old.in_transaction ≡ true)
      go (Err e) h = tt
      go (Ok count) h = λ clean. (runs_as sql [] old new old.now.schema refl Commit means.is means.plain count (h clean)).0

  pub commit_opens : Means old.now.schema sql Commit 0 → OnOk result (IsIntact new → IsOpen old × IsOpen new)
  unfolding IsIntact IsOpen
  commit_opens means = go result (ran_commit means)
    where
      go : (r : Result ℕ Error) → (HasCleanDisk new → OnOk r (Shows old new old.now old.now false)) → OnOk r (HasCleanDisk new → IsTrue old.is_open × IsTrue new.is_open)
      go (Err e) h = tt
      go (Ok count) h = λ clean. ((h clean).was_open, (h clean).is_open)

  pub commit_commits : Means old.now.schema sql Commit 0 → OnOk result (IsIntact new → standing new ≡ committed (standing old))
  unfolding IsIntact standing
  commit_commits means = go result (ran_commit means)
    where
      go : (r : Result ℕ Error) → (HasCleanDisk new → OnOk r (Shows old new old.now old.now false)) → OnOk r (HasCleanDisk new → standing new ≡ committed (standing old))
      go (Err e) h = tt
      go (Ok count) h = λ clean. shown_seen old new s old.now old.now false (h clean)

  -- inside a transaction, a crash finds what it could find before, or what the commit makes
  pub commit_leaves : IsIntact new → (standing old).inside ≡ true → (db : Trees) → Leaves new db → Leaves old db ⊎ (db ≡ (standing old).now.trees)
  unfolding IsIntact Leaves standing
  commit_leaves clean inside db h = elim ((commits_now sql old new old.now.schema always result runs s).crash clean db h) [
    | inl was ↦ inl was
    | inr (inl is) ↦ inr is
    | inr (inr outside) ↦ absurd (true≢false (sym inside ∙ outside))
  ]

  -- and it fails in trouble alone
  pub commit_fails : Means old.now.schema sql Commit 0 → IfErr result (λ e. IsIntact new → (IsStateClean old → (standing old).inside ≡ true) → is_trouble e ≡ true)
  unfolding IsIntact IsOpen standing
  commit_fails means = go result (λ inside. commit_trouble sql old new old.now.schema always result runs s means (λ clean up. inside (record { intact = clean; is_open = up })))
    where
      go : (r : Result ℕ Error) → ((IsStateClean old → old.in_transaction ≡ true) → HasCleanDisk new → IfErr r (λ e. is_trouble e ≡ true)) → IfErr r (λ e. HasCleanDisk new → (IsStateClean old → old.in_transaction ≡ true) → is_trouble e ≡ true)
      go (Ok count) h = tt
      go (Err e) h = λ clean inside. h inside clean

  -- ---- ROLLBACK

  pub rollback_goes : Means old.now.schema sql Rollback 0 → (IsOpen old → IsStandingSettled (standing old)) → IsStateClean new → standing new ≡ taken_back (standing old)
  unfolding IsIntact IsOpen standing
  rollback_goes means before c = go result (runs c.intact) (rollback_fails sql old new old.now.schema always result runs s means c.intact (turn_follows.clean c).is_open)
    where
      stays : IsUndone old new → old.in_transaction ≡ false → standing new ≡ taken_back (standing old)
      stays undone outside = elim (unwinds old new s c.is_open undone) [
        | inr back ↦ back
        | inl same ↦ elim (before (turn_follows.clean c).is_open) [
          | inl inside ↦ absurd (true≢false (sym inside ∙ outside))
          | inr settled ↦ same ∙ (λ i. record (standing old) { now = settled i; inside = outside i })
        ]
      ]

      go : (r : Result ℕ Error) → Executes sql [] old new r → (IsTrue old.in_transaction → OnErr r (IsRolledBack old new)) → standing new ≡ taken_back (standing old)
      go (Ok count) h inside = undone_seen old new s c.is_open (runs_as sql [] old new old.now.schema refl Rollback means.is means.plain count h).1
      go (Err e) h inside = elim (cases_Bool old.in_transaction) [
        | inl is ↦ undone_seen old new s c.is_open (inside is)
        | inr outside ↦ stays (executes_undone sql [] old new e h) outside
      ]

-- outside a transaction, what an open connection sees was committed
pub settled_by : (s : State) (autocommit : Bool) → autocommit ≡ not s.in_transaction → (IsTrue autocommit → IsTrue s.is_open → s.now ≡ s.committed) → IsOpen s → IsStandingSettled (standing s)
unfolding IsOpen standing
settled_by s autocommit is h up = elim (cases_Bool s.in_transaction) [ inl inside ↦ inl inside | inr outside ↦ inr (h (is ∙ ap not outside) up) ]
