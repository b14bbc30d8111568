use Rattle.std.proofs.Common.{rules}
use Rattle.std.proofs.lemmas.Result.{err_from_is_err_and}
use Rattle.bh_base.specs.Connections.{state}
use Rattle.bh_objects.proofs.Working.{works_on, works_then, unless_kept, unless_then}
use Rattle.bh_removal.proofs.decision.require_removable.Goals as goal

pub require_buckets_go-requires : goal.require_buckets_go-requires
require_buckets_go-requires g c clean = works_on (state g.S.Store g.P.Shelf c.args.connection.now) (state g.S.Store g.P.Shelf c.require_tenant.new.connection) (c.in_ok-require_tenant.ensures.works.working clean)

pub require_over-requires : goal.require_over-requires
require_over-requires g c clean = works_on (state g.S.Store g.P.Shelf c.require_tenant.new.connection) (state g.S.Store g.P.Shelf c.require_buckets_go.new.connection) (c.in_ok-require_buckets_go.ensures.works.working clean)

pub returns-clause-works : goal.returns-clause-works
returns-clause-works g c =
    let old = state g.S.Store g.P.Shelf c.args.connection.now in
    let one = state g.S.Store g.P.Shelf c.require_tenant.new.connection in
    let two = state g.S.Store g.P.Shelf c.require_buckets_go.new.connection in
    let new = state g.S.Store g.P.Shelf c.require_over.new.connection in
    record {
      within = search rules;
      opens = unless_kept c.require_over.result _ _ (λ opens intact up. opens intact (search rules)) c.require_over.ensures.works.opens;
      working = unless_kept c.require_over.result _ _ (λ still clean.
          let after_two = c.require_over.ensures.works.within.follows.clean clean in
          let after_one = c.in_ok-require_buckets_go.ensures.works.within.follows.clean after_two in
          works_then old two new (works_then old one two (c.in_ok-require_tenant.ensures.works.working after_one) (c.in_ok-require_buckets_go.ensures.works.working after_two)) (still clean)) c.require_over.ensures.works.working;
    }

pub returns-in_err-require_buckets_go-clause-works : goal.returns-in_err-require_buckets_go-clause-works
returns-in_err-require_buckets_go-clause-works g c = record {
  within = search rules;
  opens = search rules;
  working =
      let p = err_from_is_err_and c.from_residual-in_err-require_buckets_go.result c.from_residual-in_err-require_buckets_go.ensures.1 in
      rw (p.1, p.2) (unless_then _ _ c.in_err-require_buckets_go.field-0.0
      (λ still clean. works_then (state g.S.Store g.P.Shelf c.args.connection.now) (state g.S.Store g.P.Shelf c.require_tenant.new.connection) (state g.S.Store g.P.Shelf c.require_buckets_go.new.connection) (c.in_ok-require_tenant.ensures.works.working (c.in_err-require_buckets_go.ensures.works.within.follows.clean clean)) (still clean))
      c.in_err-require_buckets_go.ensures.works.working);
}
