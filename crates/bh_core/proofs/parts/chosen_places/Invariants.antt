use Rattle.std.proofs.Common.{◌≡◌, ◌<◌, ◌≤◌, length, map}
use Rattle.std.specs.List.{All}
use Rattle.bh_core.specs.Completions as spec
use Rattle.bh_model.specs.Shown.{naming_of}
use Rattle.bh_core.proofs.Choosing.{continued}
use Rattle.bh_core.proofs.parts.chosen_places.Given as goal

abbrev pub invariant-loop-name : goal.invariant-loop-name
invariant-loop-name l =
    (l.from ≤ length l.parts)
    × spec.IsStart l.parts l.from
    × (l.ordered ≡ spec.are_ordered l.parts)
    × All (λ at. at < length l.parts) l.places.items
    × (spec.chosen_places l.parts (map naming_of l.named) ≡ continued l.parts l.named l.name-index l.places.items)
