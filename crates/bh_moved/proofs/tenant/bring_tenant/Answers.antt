use Rattle.std.proofs.Common.{rules, ◌≡◌, true, false, None, Some, find, is_some, refl, sym, ap, ◌∙◌, subst}
use Rattle.sqlite_keyed.proofs.SliceLemmas.{is_some-map}
use Rattle.bh_base.specs.Connections.{state}
use Rattle.bh_tables.specs.Typed.{Tables, tables_in}
use Rattle.bh_base.specs.Layer.{Standing}
use Rattle.bh_schema.specs.Working.{tables_at}
use Rattle.bh_tables.specs.Shown.{is_tenant}
use Rattle.bh_view.specs.Bodies.{IsSoundHost}
use Rattle.bh_view.specs.View.{view}
use Rattle.bh_view.proofs.FilterLemmas.{none_mapped}
use Rattle.bh_schema.specs.Rows.{tenant_numbers}
use Rattle.bh_schema.proofs.TenantSteps.{none_of, view_found}
use Rattle.bh_blocks.proofs.Keeping.{still_inside}
use Rattle.bh_tenant_rows.specs.Brought.{IsBrought}
use Rattle.bh_moved.specs.Rows.{tenant_row}
use Rattle.bh_moved.proofs.Chains.{numbers_found}
use Rattle.bh_moved.proofs.Settling.{refused_missing, refused_there, refused_not}
use Rattle.bh_moved.proofs.tenant.bring_tenant.Goals as goal

pub returns-in_default-clause-missing : goal.returns-in_default-clause-missing
returns-in_default-clause-missing g c is reading =
    let none : c.in_ok-numbers.field-0 ≡ None = search rules in
    view_found (tables_at (state g.S.Store g.P.Shelf c.args.from.now)) c.args.tenant.now ∙ ap is_some (none_mapped tenant_numbers _ (sym (c.in_ok-numbers.ensures.found reading) ∙ none))

pub returns-then-is_some-clause-inside : goal.returns-then-is_some-clause-inside
returns-then-is_some-clause-inside g c = still_inside _ _ c.in_ok-find_tenant.ensures.reads.within c.in_ok-find_tenant.ensures.reads.same c.requires.inside

pub returns-then-is_some-clause-exists : goal.returns-then-is_some-clause-exists
returns-then-is_some-clause-exists g c is clean =
    let some : is_some c.in_ok-find_tenant.field-0 ≡ true = search rules in
    view_found (tables_at (state g.T.Store g.Q.Shelf c.args.to.now)) c.args.tenant.now ∙ sym (is_some-map tenant_numbers _) ∙ ap is_some (sym (c.in_ok-find_tenant.ensures.found clean)) ∙ some

pub bring_all-requires-clause-reading : goal.bring_all-requires-clause-reading
bring_all-requires-clause-reading g c = still_inside _ _ c.in_ok-numbers.ensures.reads.within c.in_ok-numbers.ensures.reads.same c.requires.reading

pub bring_all-requires-clause-inside : goal.bring_all-requires-clause-inside
bring_all-requires-clause-inside g c = still_inside _ _ c.in_ok-find_tenant.ensures.reads.within c.in_ok-find_tenant.ensures.reads.same c.requires.inside

pub returns-clause-moved : goal.returns-clause-moved
returns-clause-moved g c same reading clean other given host =
    let all = c.in_ok-bring_all.ensures in
    let reading_n = all.reads.within.follows.clean reading in
    let clean_f = all.writes.within.follows.clean clean in
    let t = c.args.tenant.now in
    let digest = g.D.Digester.digest_of in
    let from : Tables = tables_at (state g.S.Store g.P.Shelf c.args.from.now) in
    let old : Tables = tables_at (state g.T.Store g.Q.Shelf c.args.to.now) in
    let new : Tables = tables_at (state g.T.Store g.Q.Shelf c.bring_all.new.to) in
    let from_n : Tables = tables_at (state g.S.Store g.P.Shelf c.find_tenant.new.connection) in
    let old_f : Tables = tables_at (state g.T.Store g.Q.Shelf c.find_tenant-2.new.connection) in
    let two : from_n ≡ from = ap (λ (x : Standing). tables_in x.now) (c.in_ok-numbers.ensures.reads.same reading_n.intact) in
    let three : old_f ≡ old = ap (λ (x : Standing). tables_in x.now) (c.in_ok-find_tenant.ensures.reads.same clean_f.intact) in
    let absent : is_some c.in_ok-find_tenant.field-0 ≡ false = search rules in
    let found : find (is_tenant t) from.tenants ≡ Some (tenant_row t c.in-Some.numbers) = numbers_found t c.in-Some.numbers from.tenants (sym c.in-Some.is ∙ c.in_ok-numbers.ensures.found reading_n) in
    let vacant : find (is_tenant t) old.tenants ≡ None = none_mapped tenant_numbers _ (sym (c.in_ok-find_tenant.ensures.found clean_f) ∙ none_of _ absent) in
    let it = all.brought reading clean (subst (λ (x : Tables). find (is_tenant t) x.tenants ≡ Some (tenant_row t c.in-Some.numbers)) (sym two) found) (subst (λ (x : Tables). find (is_tenant t) x.tenants ≡ None) (sym three) vacant)
    other (subst (IsSoundHost other) (sym two) given) (subst (IsSoundHost digest) (sym three) host) in
    subst (λ (o : Tables). IsBrought digest t from o new) three (subst (λ (f : Tables). IsBrought digest t f old_f new) two it)

-- ---- how it is answered

pub returns-in_default-clause-answered : goal.returns-in_default-clause-answered
returns-in_default-clause-answered g c reading clean =
    let t = c.args.tenant.now in
    refused_missing (view (tables_at (state g.S.Store g.P.Shelf c.args.from.now)) t) (view (tables_at (state g.T.Store g.Q.Shelf c.args.to.now)) t) (returns-in_default-clause-missing g c refl reading)

pub returns-then-is_some-clause-answered : goal.returns-then-is_some-clause-answered
returns-then-is_some-clause-answered g c reading clean =
    let t = c.args.tenant.now in
    let from : Tables = tables_at (state g.S.Store g.P.Shelf c.args.from.now) in
    let found : find (is_tenant t) from.tenants ≡ Some (tenant_row t c.in-Some.numbers) = numbers_found t c.in-Some.numbers from.tenants (sym c.in-Some.is ∙ c.in_ok-numbers.ensures.found reading) in
    refused_there (view from t) (view (tables_at (state g.T.Store g.Q.Shelf c.args.to.now)) t) (view_found from t ∙ ap is_some found) (returns-then-is_some-clause-exists g c refl clean)

pub returns-clause-answered : goal.returns-clause-answered
returns-clause-answered g c reading clean =
    let all = c.in_ok-bring_all.ensures in
    let t = c.args.tenant.now in
    let from : Tables = tables_at (state g.S.Store g.P.Shelf c.args.from.now) in
    let old : Tables = tables_at (state g.T.Store g.Q.Shelf c.args.to.now) in
    let found : find (is_tenant t) from.tenants ≡ Some (tenant_row t c.in-Some.numbers) = numbers_found t c.in-Some.numbers from.tenants (sym c.in-Some.is ∙ c.in_ok-numbers.ensures.found (all.reads.within.follows.clean reading)) in
    let absent : is_some c.in_ok-find_tenant.field-0 ≡ false = search rules in
    let vacant : find (is_tenant t) old.tenants ≡ None = none_mapped tenant_numbers _ (sym (c.in_ok-find_tenant.ensures.found (all.writes.within.follows.clean clean)) ∙ none_of _ absent) in
    refused_not (view from t) (view old t) (view_found from t ∙ ap is_some found) (view_found old t ∙ ap is_some vacant)
