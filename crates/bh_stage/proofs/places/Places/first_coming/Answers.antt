-- Of one that left nothing is awaited.
use Rattle.std.proofs.Common.{◌≡◌, ◌-◌, false, take, drop, sym, ap, ◌∙◌, arith}
use Rattle.std.specs.List.{find}
use Rattle.bh_stage.specs.Places.{coming, is_coming, lacks_head}
use Rattle.bh_stage.proofs.PlacesLemmas.{find_left, filter_left, none_left}
use Rattle.bh_stage.proofs.places.Places.first_coming.Goals as goal

pub leaving-preserved : goal.leaving-preserved
leaving-preserved g c =
    let it = c.leaving in
    let slab = c.args.connections.now in
    let came = it.self.came.items in
    let turn = c.index-turn.result.now in
    let rest = c.pop_front.ensures.rest in
    let less : c.saturating_sub-self.result ≡ it.self.begun - 1 = omega (arith, c.saturating_sub-self.ensures) in
    let fails : is_coming slab turn ≡ false = sym c.is_coming.ensures.is ∙ c.if-is_coming.false in
    record {
      first = ap (find (is_coming slab)) rest ∙ find_left (is_coming slab) came turn c.index-turn.ensures fails ∙ it.invariant.first;
      stay = ap (coming slab) rest ∙ filter_left (is_coming slab) came turn c.index-turn.ensures fails ∙ it.invariant.stay;
      begun = λ were. ap (λ l. find (lacks_head slab) (take c.saturating_sub-self.result l)) rest
          ∙ ap (λ k. find (lacks_head slab) (take k (drop 1 came))) less
          ∙ none_left (lacks_head slab) it.self.begun came (it.invariant.begun were);
    }
