use Rattle.std.proofs.Common.{◌≡◌, ◌++◌, map}
use Rattle.form_urlencoded.specs.Form.{raw_pairs}
use Rattle.form_urlencoded.specs.Parse.{raw_pairs_left}
use Rattle.bh_operation.specs.Queries.{decoded_pair}
use Rattle.bh_operation.proofs.query.read_query.Given as goal

-- what was read, and then what is left, are the parameters
abbrev pub invariant-loop-name : goal.invariant-loop-name
invariant-loop-name l = l.found.items ++ map decoded_pair (raw_pairs_left l.name-iterator) ≡ map decoded_pair (raw_pairs l.query)
