use Rattle.std.proofs.Common.{rules, refl, arith}
use Rattle.bh_base.specs.Connections.{state}
use Rattle.bh_schema.specs.Working.{tables_at}
use Rattle.bh_schema.proofs.Storing.{on_ok}
use Rattle.bh_objects.proofs.Working.{asked_working}
use Rattle.bh_uploads.proofs.Uploads.{number_high}
use Rattle.bh_uploads.proofs.reads.require_upload.Goals as goal

pub returns-then-number-ge-COUNTER_END-clause-decides : goal.returns-then-number-ge-COUNTER_END-clause-decides
returns-then-number-ge-COUNTER_END-clause-decides g c clean =
    let u = c.args.upload.now in
    let high = c.if-number-ge-COUNTER_END.true in
    (number_high (tables_at (state g.S.Store g.P.Shelf c.args.connection.now)) u.tenant.now u.bucket.now u.key.now c.args.number (λ low. omega (arith, low, high)) (c.requires clean).sound, refl)

pub returns-then-is_of-clause-works : goal.returns-then-is_of-clause-works
returns-then-is_of-clause-works g c = record {
  within = search rules;
  opens = search rules;
  working = λ clean. asked_working (state g.S.Store g.P.Shelf c.args.connection.now) (state g.S.Store g.P.Shelf c.find_upload.new.connection) c.requires c.find_upload.ensures.reads.within (on_ok _ c.in_ok-head.ensures.ok c.find_upload.ensures.reads.same) clean;
}

pub returns-in-Some-clause-works : goal.returns-in-Some-clause-works
returns-in-Some-clause-works g c = record {
  within = search rules;
  opens = search rules;
  working = λ clean. asked_working (state g.S.Store g.P.Shelf c.args.connection.now) (state g.S.Store g.P.Shelf c.find_upload.new.connection) c.requires c.find_upload.ensures.reads.within (on_ok _ c.in_ok-head.ensures.ok c.find_upload.ensures.reads.same) clean;
}

pub returns-clause-works : goal.returns-clause-works
returns-clause-works g c = record {
  within = search rules;
  opens = search rules;
  working = λ clean. asked_working (state g.S.Store g.P.Shelf c.args.connection.now) (state g.S.Store g.P.Shelf c.find_upload.new.connection) c.requires c.find_upload.ensures.reads.within (on_ok _ c.in_ok-head.ensures.ok c.find_upload.ensures.reads.same) clean;
}
