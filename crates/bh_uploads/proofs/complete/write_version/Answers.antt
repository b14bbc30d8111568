use Rattle.std.proofs.Common.{rules, map, ap, ◌∙◌}
use Rattle.bh_base.specs.Connections.{state}
use Rattle.std.specs.String.{string_bytes}
use Rattle.bh_view.specs.Bodies.{bodies_joined}
use Rattle.bh_schema.proofs.Storing.{on_ok}
use Rattle.bh_schema.specs.Working.{tables_at}
use Rattle.bh_objects.specs.declared.reads.Numbers.{Numbers}
use Rattle.bh_objects.proofs.Working.{on_ok_then}
use Rattle.bh_uploads.proofs.Completing.{version_chain}
use Rattle.bh_uploads.proofs.complete.write_version.Goals as goal

pub returns-clause-changes : goal.returns-clause-changes
returns-clause-changes g c = record {
  within = search rules;
  opens = search rules;
  holds = on_ok_then c.add_version.result _ _ (λ holds clean.
      let u = c.args.upload.now in
      let j = c.args.joined.now in
      let clean_room = c.add_version.ensures.changes.within.follows.clean clean in
      let clean_body = c.in_ok-make_room.ensures.changes.within.follows.clean clean_room in
      let it = holds clean in
      record {
        within = it.within;
        is = version_chain c.args.mode c.args.numbers.before c.args.numbers.after u.tenant.now u.bucket.now u.key.now c.args.at j.size (string_bytes j.checksum) j.bodies.items
            (tables_at (state g.S.Store g.P.Shelf c.args.connection.now)) (tables_at (state g.S.Store g.P.Shelf c.join_bodies.new.connection)) (tables_at (state g.S.Store g.P.Shelf c.make_room.new.connection)) (tables_at (state g.S.Store g.P.Shelf c.add_version.new.connection))
            ((rw (c.as_str.ensures.value, c.deref.ensures.value) at (on_ok _ c.in_ok-or_trouble.ensures.ok c.join_bodies.ensures.joined clean_body).is)
            ∙ ap (λ (n : Numbers). bodies_joined (map (λ body. (u.tenant.now, body)) j.bodies.items) (u.tenant.now, n.before.entry) (tables_at (state g.S.Store g.P.Shelf c.args.connection.now))) c.numbers.view_is)
            (c.in_ok-make_room.ensures.changes.holds clean_room).is
            (rw c.as_str-2.ensures.value at it.is);
      }) c.add_version.ensures.changes.holds;
}
