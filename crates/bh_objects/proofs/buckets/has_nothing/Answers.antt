use Rattle.std.proofs.Common.{sym, ◌∙◌}
use Rattle.bh_base.specs.Connections.{state}
use Rattle.bh_schema.specs.Working.{tables_at}
use Rattle.bh_schema.proofs.Storing.{within_then}
use Rattle.bh_objects.proofs.BucketSteps.{nothing_found}
use Rattle.bh_objects.proofs.Working.{same_tables, asked_inside}
use Rattle.bh_objects.proofs.buckets.has_nothing.Goals as goal

pub bucket_has-requires-2 : goal.bucket_has-requires-2
bucket_has-requires-2 g c =
    record { inside = asked_inside (state g.S.Store g.P.Shelf c.args.connection.now) (state g.S.Store g.P.Shelf c.bucket_has.new.connection) c.requires.inside c.in_ok-bucket_has.ensures.reads.within c.in_ok-bucket_has.ensures.reads.same }

pub returns-clause-reads : goal.returns-clause-reads
returns-clause-reads g c = record {
  within = within_then _ _ _ (λ intact up. (c.in_ok-bucket_has.ensures.reads.opens intact).1) c.in_ok-bucket_has.ensures.reads.within c.in_ok-bucket_has-2.ensures.reads.within;
  opens = λ intact up. (c.in_ok-bucket_has-2.ensures.reads.opens intact).1;
  same = λ intact. c.in_ok-bucket_has-2.ensures.reads.same intact ∙ c.in_ok-bucket_has.ensures.reads.same (c.in_ok-bucket_has-2.ensures.reads.within.follows.intact intact);
}

pub returns-clause-found : goal.returns-clause-found
returns-clause-found g c clean =
    let first = c.in_ok-bucket_has.ensures in
    let was = c.in_ok-bucket_has-2.ensures.reads.within.follows.clean clean in
    let old = state g.S.Store g.P.Shelf c.args.connection.now in
    let middle = state g.S.Store g.P.Shelf c.bucket_has.new.connection in
    nothing_found (tables_at old) (tables_at middle) c.args.tenant.now c.args.bucket.now c.in_ok-bucket_has-2.field-0 (sym (first.found was) ∙ c.if-branch.false) (same_tables old middle (first.reads.same was.intact)) (c.in_ok-bucket_has-2.ensures.found clean)
