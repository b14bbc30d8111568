use Rattle.std.proofs.Common.{rules, ap, ◌∙◌}
use Rattle.bh_base.specs.Connections.{state}
use Rattle.bh_schema.specs.Working.{tables_at}
use Rattle.bh_schema.specs.Written.{bytes_of_id}
use Rattle.bh_objects.specs.Writes.{without_entry}
use Rattle.bh_objects.proofs.Undating.{sizes_stay}
use Rattle.bh_objects.proofs.Working.{on_ok_then}
use Rattle.bh_objects.proofs.deletes.drop_dated.Goals as goal

pub drop_entry-requires-clause-held : goal.drop_entry-requires-clause-held
drop_entry-requires-clause-held g c clean =
    let t = c.args.tenant.now in
    let b = c.args.bucket.now in
    let k = c.args.key.now in
    ap (bytes_of_id t b k c.args.number) (c.in_ok-set_date.ensures.changes.holds clean).is ∙ sizes_stay t b k c.args.number c.args.entry.seq c.args.date (tables_at (state g.S.Store g.P.Shelf c.args.connection.now)) ∙ c.requires.held (c.in_ok-set_date.ensures.changes.within.follows.clean clean)

pub returns : goal.returns
returns g c = record {
  changes = record {
    within = search rules;
    opens = search rules;
    holds = on_ok_then c.drop_entry.result _ _ (λ holds clean.
        let it = holds clean in
        record {
          within = it.within;
          is = it.is ∙ ap (without_entry c.args.tenant.now c.args.bucket.now c.args.key.now c.args.number c.args.entry.seq) (c.in_ok-set_date.ensures.changes.holds (c.drop_entry.ensures.changes.within.follows.clean clean)).is;
        }) c.drop_entry.ensures.changes.holds;
  };
}
