use Rattle.std.proofs.Common.{rules, ap, ◌∙◌}
use Rattle.bh_base.specs.Connections.{state}
use Rattle.bh_schema.specs.Working.{tables_at}
use Rattle.bh_schema.proofs.Storing.{on_ok}
use Rattle.bh_objects.specs.Buckets.{with_lock, with_row}
use Rattle.bh_objects.proofs.Working.{on_ok_then}
use Rattle.bh_objects.proofs.buckets.add_bucket.Goals as goal

pub returns-clause-changes : goal.returns-clause-changes
returns-clause-changes g c = record {
  within = search rules;
  opens = search rules;
  holds = on_ok_then c.add_lock.result _ _ (λ holds clean.
      let clean_middle = c.add_lock.ensures.changes.within.follows.clean clean in
      let one = rw (c.as_str.ensures.value, c.as_str-2.ensures.value, c.seconds.ensures.value) at (on_ok _ c.in_ok-or_trouble.ensures.ok c.insert_bucket.ensures.holds clean_middle).is in
      let it = holds clean in
      record {
        within = it.within;
        is = it.is ∙ ap (with_lock c.args.tenant.now c.args.bucket.now c.args.locked) (one ∙ ap (λ mode. with_row c.args.tenant.now c.args.bucket.now c.args.at mode (tables_at (state g.S.Store g.P.Shelf c.args.connection.now))) c.first_state-state.ensures);
      }) c.add_lock.ensures.changes.holds;
}
