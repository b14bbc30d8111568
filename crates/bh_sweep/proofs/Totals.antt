-- Texts that count or sum all rows of a table. They see rows as they are stored; what they say of the tables that are shown follows where
-- a number is the same with the bytes of packs and without.
use Rattle.std.proofs.Common.{◌≡◌, inl, inr, ℕ, pos, List, [], ◌∷◌, length, filter, Bool, true, ◌<◌, ◌^◌, IsTrue, None, Result, Ok, Err, OnOk, IfOk, IfErr, refl, sum_by, sym, ap, ◌∙◌, subst}
use Rattle.std.proofs.lemmas.List.{length-map}
use Rattle.std.proofs.lemmas.Result.{IfErr-weaker}
use Rattle.sqlite.specs.Effect.{Database}
use Rattle.sqlite.specs.Order.{Row}
use Rattle.sqlite.specs.State.{State, HasCleanDisk, IsUnchanged, Survives, CommitsShowing, Shown, FailsToQuery}
use Rattle.sqlite.specs.declared.error.Error.{Error}
use Rattle.sqlite.specs.declared.error.Error.TheVariants.{SqliteFailure}
use Rattle.sqlite.specs.declared.error.ErrorCode.TheVariants.{OutOfMemory}
use Rattle.sqlite.specs.declared.types.Value.TheVariants.{Int}
use Rattle.bh_rows.specs.Form.{Form, AreRows, typed}
use Rattle.bh_rows.specs.Means.{is_trouble}
use Rattle.bh_rows.specs.Texts.{IsReadyAt, SumText}
use Rattle.bh_rows.proofs.CallLemmas.{clean_before, query_open}
use Rattle.bh_rows.proofs.TextLemmas as text
use Rattle.bh_rows.proofs.TotalLemmas.{summed_fails}
use Rattle.bh_tables.specs.Schema.{host_schema}
use Rattle.bh_tables.specs.Bodies.{Name, block_name}
use Rattle.bh_tables.specs.Rows.{block_form}
use Rattle.bh_tables.specs.Typed.{Totals, totals_of, IsHostBy, IsReadyBy, Tables, tables}
use Rattle.bh_tables.proofs.Statements.{Sums, told_as, sum_ends, if_narrow, ones}
use Rattle.bh_base.specs.Layer.{standing, IsIntact, IsOpen, IsInside, IsStateClean, StateWithin}
use Rattle.bh_base.specs.Shown.{Backing, named, shown}
use Rattle.bh_base.proofs.Calls.{Total, totalled, if_error, ready}
use Rattle.bh_base.proofs.Endings.{disk_clean, asks_shown}
use Rattle.bh_base.proofs.Lifting.{doubtless}
use Rattle.bh_base.proofs.Placed.{names_alike}
use Rattle.bh_base.proofs.Stored.{stored_host}

-- any error that is trouble
abbrev any_trouble : Error
any_trouble = SqliteFailure OutOfMemory

module _ {T : Type 0} (form : Form T) (tree : ℕ) (held : (sums : Totals) (db : Database) → IsHostBy sums db → AreRows form (db.trees tree))
    (a : Backing) (old new : State) (inside : IsStateClean (shown a old) → IsInside (standing (shown a old))) where
  abbrev sums : Totals
  sums = totals_of (tables (shown a old))

  abbrev stored : List T
  stored = typed form (old.now.trees tree)

  bare : IsTrue a.is_clean → IsReadyBy sums old
  bare clean was up = stored_host (named a old.in_transaction) old.now (ready (shown a old) inside (doubtless old.is_clean a.is_clean was clean) up)

  ready_at : IsTrue a.is_clean → IsReadyAt form host_schema tree old
  ready_at clean was up = let host = bare clean was up in (host.schema, held sums old.now host)

  module _ {X : Type 0} (rows_in : X → List Row) (result : Result X Error) (sql : List ℕ) (params : Row) (m : T → Bool) (size : T → ℕ) (it : SumText form host_schema tree sql params m size)
      (ok : HasCleanDisk new → IfOk result (λ x. Shown sql params old new (rows_in x))) (err : HasCleanDisk new → IfErr result (FailsToQuery sql params old new)) (survives : Survives old new (CommitsShowing sql params old)) where
    abbrev sum : ℕ
    sum = sum_by size (filter m stored)

    -- a question that ends well changes nothing
    changes_nothing : IsTrue a.is_clean → HasCleanDisk new → OnOk (told_as any_trouble result) (IsUnchanged old new)
    changes_nothing clean h = (sum_ends old new (bare clean) sql params it.means rows_in survives any_trouble refl result ok err).same h

    its_row : IsTrue a.is_clean → HasCleanDisk new → IfOk result (λ x. rows_in x ≡ (Int (pos sum) ∷ []) ∷ [])
    its_row clean h = text.sum_rows form host_schema tree old new (ready_at clean) sql params m size it rows_in result ok survives h

    -- its error is trouble, if the sum is small where the connection is open
    its_error : IsTrue a.is_clean → HasCleanDisk new → old.step_limit ≡ None → IfErr result (λ e. (IsTrue old.is_open → sum < 2 ^ 63) → is_trouble e ≡ true)
    its_error clean h unlimited = go result (err h) (if_narrow sum result (summed_fails form sql host_schema tree it.test it.argument it.names (length params) it.means it.low params m it.tests size it.reads old new (ready_at clean) refl it.accepts result err survives h unlimited))
      where
        go : (r : Result X Error) → IfErr r (FailsToQuery sql params old new) → IfErr r (λ e. sum < 2 ^ 63 → is_trouble e ≡ true) → IfErr r (λ e. (IsTrue old.is_open → sum < 2 ^ 63) → is_trouble e ≡ true)
        go (Ok x) fails bad = tt
        go (Err e) fails bad = λ small. elim (query_open sql params old new e fails) [ inl up ↦ bad (small up) | inr trouble ↦ trouble ]

    module _ (total : Tables → ℕ) (alike : IsHostBy sums (shown a old).now → sum ≡ total (tables (shown a old))) where
      same_total : HasCleanDisk old → IsTrue a.is_clean → IsTrue old.is_open → sum ≡ total (tables (shown a old))
      same_total was clean up = alike (ready (shown a old) inside (doubtless old.is_clean a.is_clean was clean) up)

      shown_row : (r : Result X Error) → HasCleanDisk old → IsTrue a.is_clean → OnOk (told_as any_trouble r) (IsUnchanged old new) → IfOk r (λ x. rows_in x ≡ (Int (pos sum) ∷ []) ∷ [])
          → IfOk r (λ x. rows_in x ≡ (Int (pos (total (tables (shown a old)))) ∷ []) ∷ [])
      shown_row (Err e) was clean same is = tt
      shown_row (Ok x) was clean same is = is ∙ ap (λ n. (Int (pos n) ∷ []) ∷ []) (same_total was clean same.0.was_open)

      lifted : Sums (shown a old) (shown a new) rows_in total result
      lifted = record {
        asks = λ other bad. asks_shown a old new (told_as other result) survives (λ clean. sum_ends old new (bare clean) sql params it.means rows_in survives other bad result ok err);
        rows = λ h. let clean = disk_clean a old new new h in shown_row result (clean_before old new _ survives clean.0) clean.1 (changes_nothing clean.1 clean.0) (its_row clean.1 clean.0);
        trouble = λ h unlimited. let clean = disk_clean a old new new h in
            IfErr-weaker result _ _ (λ e bad small. bad (λ up. subst (λ n. n < 2 ^ 63) (sym (same_total (clean_before old new _ survives clean.0) clean.1 up)) small)) (its_error clean.1 clean.0 unlimited);
      }

      -- the number is told of the tables that are shown
      pub told : Total (shown a old) (shown a new) rows_in total result
      told = totalled (shown a old) (shown a new) rows_in total result inside lifted

    -- and of rows as they are stored
    pub record IsSummed (n : ℕ) : Type 0 where
      pub within : StateWithin (shown a old) (shown a new)
      pub opens : OnOk result (IsIntact (shown a new) → IsOpen (shown a old) × IsOpen (shown a new))
      pub same : OnOk result (IsIntact (shown a new) → standing (shown a new) ≡ standing (shown a old))
      pub rows : IfOk result (λ x. IsStateClean (shown a new) → rows_in x ≡ (Int (pos n) ∷ []) ∷ [])
      pub still : OnOk result (IsStateClean (shown a new) → (new.now ≡ old.now) × (new.in_transaction ≡ old.in_transaction))
      pub trouble : IfErr result (λ e. IsIntact (shown a new) → (standing (shown a old)).limit ≡ None → (IsStateClean (shown a old) → n < 2 ^ 63) → is_trouble e ≡ true)

    as_stored : (r : Result X Error) → (IsTrue a.is_clean → HasCleanDisk new → OnOk (told_as any_trouble r) (IsUnchanged old new)) → OnOk r (IsStateClean (shown a new) → (new.now ≡ old.now) × (new.in_transaction ≡ old.in_transaction))
    unfolding IsIntact
    as_stored (Err e) same = tt
    as_stored (Ok x) same = λ c. let clean = disk_clean a old new new c.intact in let it = same clean.1 clean.0 in (it.0.now_is, it.0.mode)

    all_summed : IsSummed sum
    unfolding IsIntact IsOpen
    all_summed = let q = told (λ _. sum) (λ _. refl) in record {
      within = q.within;
      opens = q.opens;
      same = q.same;
      rows = q.rows;
      still = as_stored result changes_nothing;
      trouble = if_error (shown a old) (shown a new) result (λ e. (IsStateClean (shown a old) → sum < 2 ^ 63) → is_trouble e ≡ true) (λ h unlimited. let clean = disk_clean a old new new h in
          IfErr-weaker result _ _ (λ e bad small. bad (λ up. small (record { intact = doubtless old.is_clean a.is_clean (clean_before old new _ survives clean.0) clean.1; is_open = up }))) (its_error clean.1 clean.0 unlimited));
    }

    pub summed : (n : ℕ) → sum ≡ n → IsSummed n
    summed n same = subst IsSummed same all_summed

-- ---- how many blocks pass a test of their names

pub passing : (m : Name → Bool) (a : Backing) (old new : State) → (IsStateClean (shown a old) → IsInside (standing (shown a old))) → {X : Type 0} (rows_in : X → List Row) (result : Result X Error) {sql : List ℕ} {params : Row}
    → SumText block_form host_schema 10 sql params (λ b. m (block_name b)) (λ _. 1)
    → (HasCleanDisk new → IfOk result (λ x. Shown sql params old new (rows_in x))) → (HasCleanDisk new → IfErr result (FailsToQuery sql params old new)) → Survives old new (CommitsShowing sql params old)
    → Total (shown a old) (shown a new) rows_in (λ t. length (filter (λ b. m (block_name b)) t.blocks)) result
passing m a old new inside rows_in result it ok err survives =
    told block_form 10 (λ sums db h. h.held.blocks) a old new inside rows_in result _ _ _ _ it ok err survives (λ t. length (filter (λ b. m (block_name b)) t.blocks)) (λ host.
    ones (filter (λ b. m (block_name b)) (typed block_form (old.now.trees 10)))
    ∙ sym (length-map (filter (λ b. m (block_name b)) (tables old).blocks) block_name)
    ∙ ap length (names_alike (named a old.in_transaction) old.now host m (λ n. n))
    ∙ length-map (filter (λ b. m (block_name b)) (tables (shown a old)).blocks) block_name)
