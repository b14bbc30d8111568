use Rattle.std.proofs.Common.{rules, ap, ◌∙◌}
use Rattle.bh_tables.specs.Typed.{Tables}
use Rattle.bh_objects.specs.Writes.{with_counters, with_version}
use Rattle.bh_objects.proofs.Working.{on_ok_then}
use Rattle.bh_objects.proofs.writes.write_object.Goals as goal

pub returns-clause-changes : goal.returns-clause-changes
returns-clause-changes g c = record {
  within = search rules;
  opens = search rules;
  holds = on_ok_then c.add_version.result _ _ (λ holds clean.
      let object = c.args.object.now in
      let it = holds clean in
      record {
        within = it.within;
        is = it.is ∙ ap (λ (x : Tables). with_version c.args.mode c.args.entry.numbers.before object.tenant.now object.bucket.now object.key.now object.at c.args.size c.args.checksum.now (with_counters c.args.mode c.args.entry.numbers.after object.tenant.now x))
            (c.in_ok-drop_replaced.ensures.changes.holds (c.add_version.ensures.changes.within.follows.clean clean)).is;
      }) c.add_version.ensures.changes.holds;
}
