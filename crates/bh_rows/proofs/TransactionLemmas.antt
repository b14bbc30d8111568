-- BEGIN, COMMIT and ROLLBACK as texts.
use Rattle.std.proofs.Common.{◌≡◌, ◌⊎◌, ◌||◌, inl, inr, ℕ, List, [], Bool, true, false, IsTrue, Option, None, is_some, Ok, Err, Result, OnOk, OnErr, IfErr, refl, sym, ap, ◌∙◌, true≢false, subst}
use Rattle.std.proofs.lemmas.Bool.{cases_Bool}
use Rattle.sqlite.specs.Schema.{Schema}
use Rattle.sqlite.specs.Command.{Command}
use Rattle.sqlite.specs.Command.TheVariants.{Begin, Commit, Rollback}
use Rattle.sqlite.specs.State.{State, HasCleanDisk, IsRolledBack, Survives, Executes, ExecutesIn, IsNotRun, CommitsBy, Shows, Runs, RunsCommand, IsMisplaced, is_pragma, shows_rows}
use Rattle.sqlite.specs.Calls.{IsWrite}
use Rattle.sqlite.specs.Effect.{is_query}
use Rattle.sqlite_schema.specs.declared.command.Returning.{Returning}
use Rattle.sqlite.specs.declared.error.Error.{Error}
use Rattle.sqlite.proofs.Callers.{runs_as}
use Rattle.sqlite.proofs.StateLemmas.{survives_weaker}
use Rattle.bh_rows.specs.Means.{Means, is_trouble, IsUndone, IsOutside, StaysInside}
use Rattle.bh_rows.proofs.CallLemmas.{clean_before, compiled_command, compiled_plain, is_known, not_run, failed_is_trouble, write_open, executes_undone, executes_up}

-- the command is one of the three
abbrev is_turn : Command → Bool
is_turn Begin = true
is_turn Commit = true
is_turn Rollback = true
is_turn _ = false

quiet_turn : (k : Command) (r : Option Returning) → is_turn k ≡ true → r ≡ None → (is_query k || (is_pragma k || is_some r)) ≡ false
quiet_turn Begin r h none = rw none
quiet_turn Commit r h none = rw none
quiet_turn Rollback r h none = rw none
quiet_turn _ r h none = absurd (true≢false (sym h))

no_write : (k : Command) → is_turn k ≡ true → ¬ IsWrite k
no_write Begin h writes = writes
no_write Commit h writes = writes
no_write Rollback h writes = writes
no_write _ h writes = absurd (true≢false (sym h))

module _ (sql : List ℕ) (old new : State) (schema : Schema) (ready : HasCleanDisk old → IsTrue old.is_open → old.now.schema ≡ schema)
    (result : Result ℕ Error) (runs : HasCleanDisk new → Executes sql [] old new result) (s : Survives old new (CommitsBy sql [] old)) where
  -- one that fails leaves the tables, or ends the transaction
  pub turn_undone : HasCleanDisk new → OnErr result (IsUndone old new)
  turn_undone clean = go result (runs clean)
    where
      go : (r : Result ℕ Error) → Executes sql [] old new r → OnErr r (IsUndone old new)
      go (Ok count) h = tt
      go (Err e) h = executes_undone sql [] old new e h

  -- the connection was open, if it is afterwards
  pub turn_up : HasCleanDisk new → IsTrue new.is_open → IsTrue old.is_open
  turn_up clean up = executes_up sql [] old new result (runs clean) up

  ran : (command : Command) → Means schema sql command 0 → HasCleanDisk new → IsTrue old.is_open → {P : Type 0} → ((count : ℕ) (text : List ℕ) → Runs old new Rattle.std.proofs.Common.None command text [] count → P) → OnOk result P
  ran command means clean up {P} f = go result (runs clean)
    where
      go : (r : Result ℕ Error) → Executes sql [] old new r → OnOk r P
      go (Err e) h = tt
      go (Ok count) h = f count _ (runs_as sql [] old new schema (ready (clean_before old new _ s clean) up) command means.is means.plain count h)

  -- BEGIN opens a transaction over what stands
  pub begins : Means schema sql Begin 0 → HasCleanDisk new → IsTrue old.is_open → OnOk result ((old.in_transaction ≡ false) × Shows old new old.now old.committed true × (new.marks ≡ old.marks))
  begins means clean up = ran Begin means clean up (λ count text it. (it.0, it.1, it.4))

  -- COMMIT commits what stands
  pub commits : Means schema sql Commit 0 → HasCleanDisk new → IsTrue old.is_open → OnOk result (IsTrue old.in_transaction × Shows old new old.now old.now false × (new.marks ≡ []))
  commits means clean up = ran Commit means clean up (λ count text it. (it.0, it.1, it.4))

  -- ROLLBACK brings back what was committed
  pub rolls_back : Means schema sql Rollback 0 → HasCleanDisk new → IsTrue old.is_open → OnOk result (IsTrue old.in_transaction × IsRolledBack old new)
  rolls_back means clean up = ran Rollback means clean up (λ count text it. (it.0, it.1))

  -- inside a transaction, a crash finds what it could find before, or what the commit made
  pub commits_now : Survives old new (λ db. (db ≡ old.now.trees) ⊎ (old.in_transaction ≡ false))
  unfolding CommitsBy
  commits_now = survives_weaker old new _ _ (λ clean db h. elim h.2 [ inl ends ↦ inl ends.1 | inr outside ↦ inr outside.0 ]) s

  -- a text that is no commit leaves nothing new
  pub commits_none : (command : Command) → Means schema sql command 0 → (command ≡ Begin) ⊎ (command ≡ Rollback) → Survives old new (λ _. IsOutside old)
  unfolding CommitsBy
  commits_none command means which = survives_weaker old new _ _ (λ clean db h. elim h.2 [
    | inr outside ↦ inl outside.0
    | inl ends ↦ elim (cases_Bool old.is_open) [
      | inr down ↦ inr down
      | inl up ↦
          let is = compiled_command sql [] old new schema (ready (clean_before old new _ s clean) up) command 0 means h.0 h.1 in
          absurd (elim which [
            | inl begin ↦ elim ends.0 [ inl commit ↦ let e = sym commit ∙ is ∙ begin in cc | inr release ↦ let e = sym release.2 ∙ is ∙ begin in cc ]
            | inr back ↦ elim ends.0 [ inl commit ↦ let e = sym commit ∙ is ∙ back in cc | inr release ↦ let e = sym release.2 ∙ is ∙ back in cc ]
          ])
    ]
  ]) s

  -- inside a transaction, a ROLLBACK that fails has rolled it back too
  pub rollback_fails : Means schema sql Rollback 0 → HasCleanDisk new → IsTrue old.is_open → IsTrue old.in_transaction → OnErr result (IsRolledBack old new)
  unfolding ExecutesIn IsNotRun
  rollback_fails means clean up inside = go result (runs clean)
    where
      has : old.now.schema ≡ schema
      has = ready (clean_before old new _ s clean) up

      go : (r : Result ℕ Error) → Executes sql [] old new r → OnErr r (IsRolledBack old new)
      go (Ok count) h = tt
      go (Err e) (inl (inl refused)) = absurd (is_known sql [] old new schema has Rollback 0 means refl e refused.0)
      go (Err e) (inl (inr failed)) = failed.3
      go (Err e) (inr ran) =
          let bare = compiled_plain sql [] old new schema has Rollback 0 means ran.0 ran.1 in
          let is = compiled_command sql [] old new schema has Rollback 0 means ran.0 ran.1 in
          let quiet : shows_rows false ran.0 ≡ false = rw (is, bare.0) in
          let it : RunsCommand old new sql ran.0 [] (Err e) = rw bare.1 at (rw quiet at ran.2) in
          elim it [
            | inr failed ↦ failed.3
            | inl (inl misplaced, same) ↦ absurd (wrong e (subst (λ k. IsMisplaced old k e) is misplaced))
            | inl (inr (inl writes, _), same) ↦ absurd (subst IsWrite is writes)
            | inl (inr (inr shows, _), same) ↦ absurd (let some = rw bare.0 at shows in cc)
          ]
        where
          wrong : (e : Error) → ¬ IsMisplaced old Rollback e
          wrong e (inl (named, inl begin)) = absurd (let x = begin.0 in cc)
          wrong e (inl (named, inr (which, outside))) = true≢false (sym inside ∙ outside)
          wrong e (inr (named, name, inl release, _)) = absurd (let x = release in cc)
          wrong e (inr (named, name, inr back, _)) = absurd (let x = back in cc)

  -- a text of the three that fails stands in the wrong place, or is in trouble
  turn_fails : (command : Command) → Means schema sql command 0 → is_turn command ≡ true → (HasCleanDisk old → IsTrue old.is_open → (e : Error) → ¬ IsMisplaced old command e) → HasCleanDisk new → IfErr result (λ e. is_trouble e ≡ true)
  unfolding ExecutesIn
  turn_fails command means turns placed clean = go result (runs clean)
    where
      ran_on : (e : Error) → old.now.schema ≡ schema → ¬ IsMisplaced old command e → Executes sql [] old new (Err e) → is_trouble e ≡ true
      ran_on e has allowed (inl h) = not_run sql [] old new schema has command 0 means refl e h
      ran_on e has allowed (inr ran) =
          let bare = compiled_plain sql [] old new schema has command 0 means ran.0 ran.1 in
          let is = compiled_command sql [] old new schema has command 0 means ran.0 ran.1 in
          let quiet : shows_rows false ran.0 ≡ false = quiet_turn ran.0.command ran.0.returning (ap is_turn is ∙ turns) bare.0 in
          let it : RunsCommand old new sql ran.0 [] (Err e) = rw bare.1 at (rw quiet at ran.2) in
          elim it [
            | inr failed ↦ failed_is_trouble old new _ e failed
            | inl (inl misplaced, same) ↦ absurd (allowed (subst (λ k. IsMisplaced old k e) is misplaced))
            | inl (inr (inl writes, _), same) ↦ absurd (no_write ran.0.command (ap is_turn is ∙ turns) writes)
            | inl (inr (inr shows, _), same) ↦ absurd (let some = rw bare.0 at shows in cc)
          ]

      go : (r : Result ℕ Error) → Executes sql [] old new r → IfErr r (λ e. is_trouble e ≡ true)
      go (Ok count) h = tt
      go (Err e) h = elim (write_open sql [] old new e h) [ inr bad ↦ bad | inl up ↦ let was = clean_before old new _ s clean in ran_on e (ready was up) (placed was up e) h ]

  -- outside a transaction BEGIN is refused in trouble alone
  pub begin_trouble : Means schema sql Begin 0 → (HasCleanDisk old → IsTrue old.is_open → old.in_transaction ≡ false) → HasCleanDisk new → IfErr result (λ e. is_trouble e ≡ true)
  begin_trouble means outside = turn_fails Begin means refl (λ clean up e misplaced. placed e (outside clean up) misplaced)
    where
      placed : (e : Error) → old.in_transaction ≡ false → ¬ IsMisplaced old Begin e
      placed e out (inl (named, inl begin)) = true≢false (sym begin.1 ∙ out)
      placed e out (inl (named, inr (inl commit, _))) = absurd (let x = commit in cc)
      placed e out (inl (named, inr (inr back, _))) = absurd (let x = back in cc)
      placed e out (inr (named, name, inl release, _)) = absurd (let x = release in cc)
      placed e out (inr (named, name, inr back, _)) = absurd (let x = back in cc)

  -- and inside one COMMIT
  pub commit_trouble : Means schema sql Commit 0 → (HasCleanDisk old → IsTrue old.is_open → old.in_transaction ≡ true) → HasCleanDisk new → IfErr result (λ e. is_trouble e ≡ true)
  commit_trouble means inside = turn_fails Commit means refl (λ clean up e misplaced. placed e (inside clean up) misplaced)
    where
      placed : (e : Error) → old.in_transaction ≡ true → ¬ IsMisplaced old Commit e
      placed e in_one (inl (named, inl begin)) = absurd (let x = begin.0 in cc)
      placed e in_one (inl (named, inr (which, outside))) = true≢false (sym in_one ∙ outside)
      placed e in_one (inr (named, name, inl release, _)) = absurd (let x = release in cc)
      placed e in_one (inr (named, name, inr back, _)) = absurd (let x = back in cc)

-- after a BEGIN, a call that fails and a ROLLBACK, the database is as it was committed
pub taken_back : (a b c d : State) → Shows a b a.now a.committed true → IsUndone b c → (IsTrue c.is_open → IsTrue c.in_transaction → IsRolledBack c d) → IsUndone c d → IsTrue d.is_open → (d.now ≡ a.committed) × (d.committed ≡ a.committed)
taken_back a b c d begun failed back ended up = elim ended [
  | inr undone ↦
      let open_before = undone.was_open up in
      let it = undone.undone up in
      let kept : c.committed ≡ a.committed = elim failed [ inl same ↦ same.0.committed_is ∙ begun.committed_is | inr lost ↦ (lost.undone open_before).1 ∙ begun.committed_is ] in
      (it.0 ∙ kept, it.1 ∙ kept)
  | inl same ↦ elim failed [
    | inl still ↦
        let inside : IsTrue c.in_transaction = still.0.mode ∙ begun.mode in
        let it = (back same.0.was_open inside).undone up in
        let kept = still.0.committed_is ∙ begun.committed_is in
        (it.0 ∙ kept, it.1 ∙ kept)
    | inr lost ↦
        let it = lost.undone same.0.was_open in
        (same.0.now_is ∙ it.0 ∙ begun.committed_is, same.0.committed_is ∙ it.1 ∙ begun.committed_is)
  ]
]

-- a ROLLBACK inside a transaction has rolled back, whatever its result
pub rollback_back : (c d : State) (r : Result ℕ Error) → OnOk r (IsTrue c.in_transaction × IsRolledBack c d) → (IsTrue c.in_transaction → OnErr r (IsRolledBack c d)) → IsTrue c.in_transaction → IsRolledBack c d
rollback_back c d (Ok count) ok err inside = ok.1
rollback_back c d (Err e) ok err inside = err inside

-- and anywhere it has, or left all as it was
pub rollback_ended : (c d : State) (r : Result ℕ Error) → OnOk r (IsTrue c.in_transaction × IsRolledBack c d) → OnErr r (IsUndone c d) → IsUndone c d
rollback_ended c d (Ok count) ok err = inr ok.1
rollback_ended c d (Err e) ok err = err

-- a COMMIT that fails leaves what was committed
pub commit_failed : (a b c d : State) → Shows a b a.now a.committed true → StaysInside b c → (r : Result ℕ Error) → OnErr r (IsUndone c d) → IsTrue d.is_open → OnErr r (d.committed ≡ a.committed)
commit_failed a b c d begun stays (Ok count) h up = tt
commit_failed a b c d begun stays (Err e) h up =
    let kept : c.committed ≡ a.committed = stays.committed begun.mode ∙ begun.committed_is in
    elim h [ inl same ↦ same.0.committed_is ∙ kept | inr undone ↦ (undone.undone up).1 ∙ kept ]
