use Rattle.std.proofs.Common.{ap, ◌∙◌, sym}
use Rattle.std.proofs.lemmas.Result.{IfOk-at_ok, err_from_is_err_and}
use Rattle.bh_base.specs.Connections.{state}
use Rattle.bh_docs.specs.Documents.{usage_view}
use Rattle.bh_tables.specs.Typed.{tables_in}
use Rattle.bh_base.specs.Layer.{Standing}
use Rattle.bh_schema.specs.Working.{tables_at}
use Rattle.bh_schema.proofs.Storing.{on_ok}
use Rattle.bh_usage.specs.Counted.{used_in}
use Rattle.bh_usage.proofs.Asked.{asked_inside, asked_working, asked_twice, unless_then}
use Rattle.bh_usage.proofs.Telling.{tells}
use Rattle.bh_usage.proofs.tell.usage.Goals as goal

pub returns-in_err-account-clause-working : goal.returns-in_err-account-clause-working
returns-in_err-account-clause-working g c =
    let old = state g.S.Store g.P.Shelf c.args.connection.now in
    let one = state g.S.Store g.P.Shelf c.account_of.new.connection in
    let p = err_from_is_err_and c.from_residual.result c.from_residual.ensures.1 in
    rw (p.1, p.2) (unless_then _ _ c.in_err-account.field-0.0 (λ same. asked_working old one c.account_of.ensures.within c.requires.working same) c.in_err-account.ensures.same)

pub row_counts-requires-clause-inside : goal.row_counts-requires-clause-inside
row_counts-requires-clause-inside g c =
    let old = state g.S.Store g.P.Shelf c.args.connection.now in
    let one = state g.S.Store g.P.Shelf c.account_of.new.connection in
    asked_inside old one c.account_of.ensures.within (λ clean. (c.requires.working clean).inside) c.in_ok-account.ensures.same

pub row_counts-requires-clause-held : goal.row_counts-requires-clause-held
row_counts-requires-clause-held g c clean =
    let same = ap (λ (x : Standing). tables_in x.now) (c.in_ok-account.ensures.same clean.intact) in
    rw c.as_str.ensures.value (c.in_ok-account.ensures.used clean ∙ ap (used_in c.args.tenant.now) (sym same))

pub returns-clause-working : goal.returns-clause-working
returns-clause-working g c =
    let old = state g.S.Store g.P.Shelf c.args.connection.now in
    let one = state g.S.Store g.P.Shelf c.account_of.new.connection in
    let two = state g.S.Store g.P.Shelf c.row_counts.new.connection in
    asked_twice old one c.account_of.ensures.within c.requires.working c.in_ok-account.ensures.same two c.row_counts.ensures.reads.within (on_ok _ c.in_ok-rows.ensures.ok c.row_counts.ensures.reads.same)

pub returns-clause-carries : goal.returns-clause-carries
returns-clause-carries g c clean =
    let between = c.row_counts.ensures.reads.within.follows.clean clean in
    let counted = rw c.as_str.ensures.value at (IfOk-at_ok _ c.in_ok-rows.ensures.ok c.row_counts.ensures.counts clean) in
    let same = ap (λ (x : Standing). tables_in x.now) (on_ok _ c.in_ok-rows.ensures.ok c.row_counts.ensures.reads.same clean.intact) in
    tells (tables_at (state g.S.Store g.P.Shelf c.args.connection.now)) c.args.tenant.now (c.requires.working (c.account_of.ensures.within.follows.clean between)).sound
    (tables_at (state g.S.Store g.P.Shelf c.account_of.new.connection)) (tables_at (state g.S.Store g.P.Shelf c.row_counts.new.connection)) c.in_ok-account.account.numbers.quota c.in_ok-rows.rows (usage_view c.in_ok-told.field-0)
    (c.in_ok-account.ensures.decides between) counted same c.in_ok-told.ensures
