use Rattle.std.proofs.Common.{◌≡◌, Ok, Err, Result, IfOk, IfErr, OnOk, true, None, ◌∙◌}
use Rattle.std.specs.Result.{IsErrAnd}
use Rattle.std.proofs.lemmas.Result.{IfOk-at_ok}
use Rattle.bh_base.specs.Connections.{state}
use Rattle.sqlite.specs.State.{State}
use Rattle.sqlite.specs.declared.error.Error.{Error}
use Rattle.bh_rows.specs.Means.{is_trouble}
use Rattle.bh_storage.specs.Calls.{Reports}
use Rattle.bh_storage.specs.declared.error.Trouble.{Trouble}
use Rattle.bh_storage.specs.declared.report.StoreReport.{StoreReport}
use Rattle.bh_base.specs.Layer.{standing, IsIntact, IsStateClean}
use Rattle.bh_schema.specs.Troubles.{trouble_of}
use Rattle.bh_schema.specs.Working.{tables_at, StillWorking}
use Rattle.bh_schema.proofs.Storing.{on_ok}
use Rattle.bh_objects.proofs.Working.{host_at, same_tables, asked_working}
use Rattle.bh_sweep.specs.Counted.{AreCountable}
use Rattle.bh_sweep.proofs.Measured.{counts_are}
use Rattle.bh_sweep.proofs.report.report.Goals as goal

pub returns-clause-reports : goal.returns-clause-reports
returns-clause-reports g c = go c.or_trouble.result c.or_trouble.ensures.ok
  where
    old : State
    old = state g.S.Store g.P.Shelf c.args.connection.now

    new : State
    new = state g.S.Store g.P.Shelf c.count_rows.new.connection

    go : (result : Result StoreReport Trouble) → IfOk result (λ x. c.count_rows.result ≡ Ok x) → IfOk result (λ report. IsStateClean new → Reports report (tables_at old) (tables_at new))
    go (Err e) is = tt
    go (Ok x) is = λ clean.
        let host = host_at old (c.requires (c.count_rows.ensures.within.follows.clean clean)) in
        record {
          counted = IfOk-at_ok _ is c.count_rows.ensures.counts clean ∙ counts_are (tables_at old) host.sound host.bodies host.resolved;
          same = same_tables old new (on_ok _ is c.count_rows.ensures.same clean.intact);
        }

pub returns-clause-working : goal.returns-clause-working
returns-clause-working g c = go c.or_trouble.result c.or_trouble.ensures.ok
  where
    old : State
    old = state g.S.Store g.P.Shelf c.args.connection.now

    new : State
    new = state g.S.Store g.P.Shelf c.count_rows.new.connection

    go : (result : Result StoreReport Trouble) → IfOk result (λ x. c.count_rows.result ≡ Ok x) → OnOk result (IsStateClean new → StillWorking old new)
    go (Err e) is = tt
    go (Ok x) is = asked_working old new c.requires c.count_rows.ensures.within (on_ok _ is c.count_rows.ensures.same)

-- the store's error, as it is told
abbrev Allowed : State → State → Error → Type 0
Allowed old new e = IsIntact new → (standing old).limit ≡ None → AreCountable (tables_at old) → is_trouble e ≡ true

told : (old new : State) (outcome : Result StoreReport Error) (t : Trouble) → IsErrAnd outcome (λ e. t ≡ trouble_of e) → IfErr outcome (Allowed old new) → (e : Error) × (t ≡ trouble_of e) × Allowed old new e
told old new (Ok x) t is allowed = absurd is
told old new (Err e) t is allowed = (e, is, allowed)

all_told : (old new : State) (outcome : Result StoreReport Error) (result : Result StoreReport Trouble) → IfErr result (λ t. IsErrAnd outcome (λ e. t ≡ trouble_of e)) → IfErr outcome (Allowed old new) → IfErr result (λ t. (e : Error) × (t ≡ trouble_of e) × Allowed old new e)
all_told old new outcome (Ok x) is allowed = tt
all_told old new outcome (Err t) is allowed = told old new outcome t is allowed

pub returns-clause-trouble : goal.returns-clause-trouble
returns-clause-trouble g c = all_told (state g.S.Store g.P.Shelf c.args.connection.now) (state g.S.Store g.P.Shelf c.count_rows.new.connection) c.count_rows.result c.or_trouble.result c.or_trouble.ensures.err c.count_rows.ensures.trouble
