-- Those that stay are those of which something is awaited.
use Rattle.std.proofs.Common.{rules, ◌≡◌, ap, ◌∙◌}
use Rattle.std.proofs.lemmas.Fn.{filter_same}
use Rattle.bh_stage.specs.Places.{coming, is_coming}
use Rattle.bh_stage.proofs.PlacesLemmas.{filter_again}
use Rattle.bh_stage.proofs.places.Places.make_room.Goals as goal

pub returns-clause-stay : goal.returns-clause-stay
returns-clause-stay g c =
    let slab = c.args.connections.now in
    let came = c.args.self.now.came.items in
    let stay : c.retain.new.self.items ≡ coming slab came = filter_same _ (is_coming slab) _ (λ x b f r. search rules) _ _ c.retain.ensures.filtered in
    ap (coming slab) stay ∙ filter_again (is_coming slab) came
