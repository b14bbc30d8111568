use Rattle.std.proofs.Common.{ap, map}
use Rattle.std.specs.String.{string_bytes}
use Rattle.std.proofs.lemmas.Result.{IfOk-at_ok, err_from_is_err_and}
use Rattle.bh_base.specs.Connections.{state}
use Rattle.bh_tables.specs.Typed.{tables_in}
use Rattle.bh_base.specs.Layer.{Standing}
use Rattle.bh_schema.specs.Working.{tables_at}
use Rattle.bh_schema.proofs.Storing.{on_ok}
use Rattle.bh_usage.proofs.Asked.{asked_inside, asked_working, asked_twice, unless_then}
use Rattle.bh_usage.proofs.KeyNames.{names}
use Rattle.bh_usage.proofs.naming.keys.Goals as goal

pub returns-in_err-account_of-clause-working : goal.returns-in_err-account_of-clause-working
returns-in_err-account_of-clause-working g c =
    let old = state g.S.Store g.P.Shelf c.args.connection.now in
    let one = state g.S.Store g.P.Shelf c.account_of.new.connection in
    let p = err_from_is_err_and c.from_residual.result c.from_residual.ensures.1 in
    rw (p.1, p.2) (unless_then _ _ c.in_err-account_of.field-0.0 (λ same. asked_working old one c.account_of.ensures.within c.requires.working same) c.in_err-account_of.ensures.same)

pub key_names-requires : goal.key_names-requires
key_names-requires g c =
    let old = state g.S.Store g.P.Shelf c.args.connection.now in
    let one = state g.S.Store g.P.Shelf c.account_of.new.connection in
    record { inside = asked_inside old one c.account_of.ensures.within (λ clean. (c.requires.working clean).inside) c.in_ok-account_of.ensures.same }

pub returns-clause-working : goal.returns-clause-working
returns-clause-working g c =
    let old = state g.S.Store g.P.Shelf c.args.connection.now in
    let one = state g.S.Store g.P.Shelf c.account_of.new.connection in
    let two = state g.S.Store g.P.Shelf c.key_names.new.connection in
    asked_twice old one c.account_of.ensures.within c.requires.working c.in_ok-account_of.ensures.same two c.key_names.ensures.reads.within (on_ok _ c.in_ok-or_trouble.ensures.ok c.key_names.ensures.reads.same)

pub returns-clause-carries : goal.returns-clause-carries
returns-clause-carries g c clean =
    let between = c.key_names.ensures.reads.within.follows.clean clean in
    let read = rw c.as_str.ensures.value at (IfOk-at_ok _ c.in_ok-or_trouble.ensures.ok c.key_names.ensures.names clean) in
    let same = ap (λ (x : Standing). tables_in x.now) (on_ok _ c.in_ok-or_trouble.ensures.ok c.key_names.ensures.reads.same clean.intact) in
    names (tables_at (state g.S.Store g.P.Shelf c.args.connection.now)) c.args.tenant.now (c.requires.working (c.account_of.ensures.within.follows.clean between)).sound
    (tables_at (state g.S.Store g.P.Shelf c.account_of.new.connection)) (tables_at (state g.S.Store g.P.Shelf c.key_names.new.connection)) (map string_bytes c.in_ok-or_trouble.field-0.items)
    (c.in_ok-account_of.ensures.decides between) read same
