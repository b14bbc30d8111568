use Rattle.std.proofs.Common.{rules, ap, ◌∙◌}
use Rattle.bh_base.specs.Connections.{state}
use Rattle.bh_view.specs.Bodies.{body_copied}
use Rattle.bh_schema.proofs.Storing.{on_ok}
use Rattle.bh_schema.specs.Views.{head_seen}
use Rattle.bh_schema.specs.Written.{bytes_of_id}
use Rattle.bh_schema.specs.Working.{tables_at}
use Rattle.bh_objects.specs.declared.reads.Numbers.{Numbers}
use Rattle.bh_objects.proofs.Copying.{copy_chain}
use Rattle.bh_objects.proofs.Sizes.{size_again}
use Rattle.bh_objects.proofs.Working.{on_ok_then}
use Rattle.bh_objects.proofs.copies.write_copy.Goals as goal

pub drop_replaced-requires-clause-held : goal.drop_replaced-requires-clause-held
drop_replaced-requires-clause-held g c clean r is =
    let copy = c.args.copy.now in
    let old = tables_at (state g.S.Store g.P.Shelf c.args.connection.now) in
    let one = rw c.as_str.ensures.value at (on_ok _ c.in_ok-or_trouble.ensures.ok c.copy_body.ensures.copied clean).is in
    ap (bytes_of_id copy.tenant.now copy.bucket.now copy.key.now 0) one ∙ size_again copy.tenant.now copy.bucket.now copy.key.now 0 _ _ old ∙ c.requires.held (c.copy_body.ensures.within.follows.clean clean) r is

pub returns-clause-changes : goal.returns-clause-changes
returns-clause-changes g c = record {
  within = search rules;
  opens = search rules;
  holds = on_ok_then c.add_version.result _ _ (λ holds clean.
      let copy = c.args.copy.now in
      let head = head_seen c.args.head.now in
      let clean_room = c.add_version.ensures.changes.within.follows.clean clean in
      let clean_body = c.in_ok-drop_replaced.ensures.changes.within.follows.clean clean_room in
      let it = holds clean in
      record {
        within = it.within;
        is = copy_chain c.args.mode c.args.entry.numbers.before c.args.entry.numbers.after c.args.entry.replaced copy.tenant.now copy.bucket.now copy.key.now copy.at head
            (tables_at (state g.S.Store g.P.Shelf c.args.connection.now)) (tables_at (state g.S.Store g.P.Shelf c.copy_body.new.connection)) (tables_at (state g.S.Store g.P.Shelf c.drop_replaced.new.connection)) (tables_at (state g.S.Store g.P.Shelf c.add_version.new.connection))
            ((rw c.as_str.ensures.value at (on_ok _ c.in_ok-or_trouble.ensures.ok c.copy_body.ensures.copied clean_body).is)
            ∙ ap (λ (n : Numbers). body_copied (copy.tenant.now, head.seq) (copy.tenant.now, n.before.entry) (tables_at (state g.S.Store g.P.Shelf c.args.connection.now))) c.numbers.view_is)
            (c.in_ok-drop_replaced.ensures.changes.holds clean_room).is
            (rw c.as_str-2.ensures.value at it.is);
      }) c.add_version.ensures.changes.holds;
}
