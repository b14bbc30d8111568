use Rattle.std.proofs.Common.{rules, ap, ◌∙◌}
use Rattle.bh_schema.proofs.Storing.{on_ok}
use Rattle.bh_objects.specs.Buckets.{without_row}
use Rattle.bh_objects.proofs.buckets.drop_bucket.Goals as goal

pub returns : goal.returns
returns g c = record {
  changes = record {
    within = search rules;
    opens = search rules;
    holds = λ clean.
        let clean_middle = c.delete_bucket.ensures.writes.within.follows.clean clean in
        let one = rw (c.as_str.ensures.value, c.as_str-2.ensures.value) at (on_ok _ c.in_ok-or_trouble.ensures.ok c.delete_named.ensures.holds clean_middle).is in
        let holds = on_ok _ c.in_ok-or_trouble-2.ensures.ok c.delete_bucket.ensures.holds clean in
        let two = rw (c.as_str-3.ensures.value, c.as_str-4.ensures.value) at holds.is in
        record { within = holds.within; is = two ∙ ap (without_row c.args.tenant.now c.args.bucket.now) one };
  };
}
