use Rattle.std.proofs.Common.{◌≡◌, rules}
use Rattle.bh_open.specs.Versions.{number_of}
use Rattle.bh_open.proofs.Rows.{in_range}
use Rattle.bh_open.proofs.row.found_of.Goals as goal

pub returns-in-Some-from_number-clause-reads : goal.returns-in-Some-from_number-clause-reads
returns-in-Some-from_number-clause-reads c h version latest min_part max_body digest =
    let one : c.args.number ≡ number_of c.args.version = search rules in
    let it = c.in-Some.ensures in
    in_range c.args.version h c.in-Some.limits c.args.latest c.in-Some-from_number.named (rw version one) latest (rw (min_part, max_body) it.0) (rw (min_part, max_body) it.1) (rw digest c.in-Some-from_number.ensures.value)
