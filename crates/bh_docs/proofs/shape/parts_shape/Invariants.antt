use Rattle.std.proofs.Common.{◌≡◌, ◌++◌, drop, map, option_map}
use Rattle.serde_json.specs.View.{items_view}
use Rattle.bh_docs.specs.Shapes as spec
use Rattle.bh_docs.proofs.shape.parts_shape.Given as goal

-- the parts so far and then those of the rest are all of them
abbrev pub invariant-loop-item : goal.invariant-loop-item
invariant-loop-item l =
    option_map (λ rest. map spec.part_view l.parts.items ++ rest) (spec.parts_shape (items_view (drop l.item-index l.items)))
    ≡ spec.parts_shape (items_view l.items)
