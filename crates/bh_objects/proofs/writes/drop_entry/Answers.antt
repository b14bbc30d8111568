use Rattle.std.proofs.Common.{rules, ap, ◌∙◌}
use Rattle.bh_base.specs.Connections.{state}
use Rattle.bh_schema.proofs.Storing.{on_ok}
use Rattle.bh_schema.specs.Written.{bytes_of_id}
use Rattle.bh_schema.specs.Working.{tables_at}
use Rattle.bh_objects.specs.Writes.{without_row}
use Rattle.bh_objects.proofs.Sizes.{size_again}
use Rattle.bh_objects.proofs.writes.drop_entry.Goals as goal

pub delete_version-requires-clause-held : goal.delete_version-requires-clause-held
delete_version-requires-clause-held g c clean =
    let t = c.args.tenant.now in
    let b = c.args.bucket.now in
    let k = c.args.key.now in
    let one = rw c.as_str-tenant.ensures.value at (on_ok _ c.in_ok-or_trouble.ensures.ok c.drop_body.ensures.dropped clean).is in
    rw (c.as_str-tenant.ensures.value, c.as_str-2.ensures.value, c.as_bytes-key.ensures.value, c.as_str.ensures.value) (
    ap (bytes_of_id t b k c.args.number) one ∙ size_again t b k c.args.number _ _ (tables_at (state g.S.Store g.P.Shelf c.args.connection.now)) ∙ c.requires.held (c.drop_body.ensures.within.follows.clean clean)
    )

pub returns : goal.returns
returns g c = record {
  changes = record {
    within = search rules;
    opens = search rules;
    holds = λ clean.
        let clean_middle = c.delete_version.ensures.writes.within.follows.clean clean in
        let one = rw c.as_str-tenant.ensures.value at (on_ok _ c.in_ok-or_trouble.ensures.ok c.drop_body.ensures.dropped clean_middle).is in
        let holds = on_ok _ c.in_ok-or_trouble-2.ensures.ok c.delete_version.ensures.holds clean in
        let two = rw (c.as_str-tenant.ensures.value, c.as_str-2.ensures.value, c.as_bytes-key.ensures.value, c.as_str.ensures.value) at holds.is in
        record { within = holds.within; is = two ∙ ap (without_row c.args.tenant.now c.args.bucket.now c.args.key.now c.args.number) one };
  };
}
