use Rattle.std.proofs.Common.{◌≡◌, Some, None, ap, sym, subst, ◌∙◌}
use Rattle.std.proofs.lemmas.Result.{on_ok_weaker}
use Rattle.bh_tables.specs.Typed.{Tables}
use Rattle.bh_base.specs.Connections.{tables}
use Rattle.bh_tenant_rows.specs.Brought.{IsNext}
use Rattle.bh_moved.specs.Owned.{body_in, row_after}
use Rattle.bh_moved.proofs.Owned.{if_bodied, needs_body, with_body, without_body}
use Rattle.bh_moved.proofs.tables.bring_row.Goals as goal

pub returns-in_ok-bring_body-in-Some-clause-added : goal.returns-in_ok-bring_body-in-Some-clause-added
returns-in_ok-bring_body-in-Some-clause-added g c = on_ok_weaker c.add_row.result (λ holds r is reading needs clean.
    let moving = c.args.moving.now in
    let t = moving.tenant.now in
    let digest = g.D.Digester.digest_of in
    let table = c.args.table in
    let from : Tables = tables g.S.Store g.P.Shelf c.args.from.now in
    let old : Tables = tables g.T.Store g.Q.Shelf c.args.to.now in
    let body : Some c.in-Some.body ≡ body_in table r = sym c.in-Some.is ∙ c.in_ok-body.ensures.body r is in
    let stored = c.in_ok-bring_body-in-Some.ensures.stored reading (needs_body table r c.in-Some.body body needs).0 (c.add_row.ensures.writes.within.follows.clean clean) in
    let next = if_bodied table (λ both. subst (IsNext t moving.numbers.next_entry) (sym stored.is) both.1) needs in
    let it = holds r is next clean in
    record { within = it.within; is = it.is ∙ ap (row_after t table r) stored.is ∙ with_body digest moving.block_size t from table r c.in-Some.body old body }) c.add_row.ensures.added

pub returns-in-None-clause-added : goal.returns-in-None-clause-added
returns-in-None-clause-added g c = on_ok_weaker c.add_row-in-None.result (λ holds r is reading needs clean.
    let moving = c.args.moving.now in
    let table = c.args.table in
    let none : None ≡ body_in table r = sym c.in-None.is ∙ c.in_ok-body.ensures.body r is in
    let it = holds r is (if_bodied table (λ both. both.1) needs) clean in
    record {
      within = it.within;
      is = it.is ∙ without_body g.D.Digester.digest_of moving.block_size moving.tenant.now (tables g.S.Store g.P.Shelf c.args.from.now) table r (tables g.T.Store g.Q.Shelf c.args.to.now) none;
    }) c.add_row-in-None.ensures.added
