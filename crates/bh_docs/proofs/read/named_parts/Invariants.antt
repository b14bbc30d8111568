use Rattle.std.proofs.Common.{◌≡◌, ◌++◌, drop, map, Ok}
use Rattle.bh_types.specs.Outcomes.{◌>>=◌}
use Rattle.bh_docs.specs.Requests as spec
use Rattle.bh_docs.specs.Shapes.{part_view}
use Rattle.bh_docs.proofs.read.named_parts.Given as goal

-- the parts so far and then those of the rest are all of them
abbrev pub invariant-loop-part : goal.invariant-loop-part
invariant-loop-part l =
    (spec.in_ranges (map part_view (drop l.part-index l.parts)) >>= (λ rest. Ok (map spec.named_view l.named.items ++ rest)))
    ≡ spec.in_ranges (map part_view l.parts)
