use Rattle.std.proofs.Common.{rules, ap, ◌∙◌}
use Rattle.bh_model.specs.State.Content.{Marker}
use Rattle.bh_tables.specs.Typed.{Tables}
use Rattle.bh_objects.specs.Writes.{with_room, with_columns}
use Rattle.bh_objects.proofs.Working.{on_ok_then}
use Rattle.bh_objects.proofs.writes.write_marker.Goals as goal

pub returns-clause-changes : goal.returns-clause-changes
returns-clause-changes g c = record {
  within = search rules;
  opens = search rules;
  holds = on_ok_then c.add_marker.result _ _ (λ holds clean.
      let mode = c.args.mode in
      let tenant = c.args.tenant.now in
      let bucket = c.args.bucket.now in
      let key = c.args.key.now in
      let roomed = c.add_marker.ensures.changes.within.follows.clean clean in
      let counted = c.in_ok-make_room.ensures.changes.within.follows.clean roomed in
      let marked : Tables → Tables = with_columns mode c.args.numbers.before tenant bucket key c.args.at Marker in
      let it = holds clean in
      record {
        within = it.within;
        is = it.is ∙ (ap marked (c.in_ok-make_room.ensures.changes.holds roomed).is
            ∙ ap (λ (x : Tables). marked (with_room mode tenant bucket key x)) (c.in_ok-set_counters.ensures.changes.holds counted).is);
      }) c.add_marker.ensures.changes.holds;
}
