use Rattle.std.proofs.Common.{arith, ◌≡◌, [], ◌∷◌, ◌++◌, refl, sym, ap, ◌∙◌, get_or}
use Rattle.std.proofs.lemmas.Grind.{common_steps}
use Rattle.std.proofs.lemmas.Option.{slice_get_read}
use Rattle.bh_uploads.proofs.Taking.{taken_next}
use Rattle.bh_uploads.proofs.joining.bodies_at.Goals as goal

pub loop-at-preserved : goal.loop-at-preserved
loop-at-preserved c =
    let body = c.in-Some.body.now in
    let pushed : c.push.new.self.items ≡ c.loop-at.chosen.items ++ body ∷ [] = grind (arith, common_steps) in
    let there = slice_get_read c.args.bodies.now _ (get_or c.args.places.now c.loop-at.at-index 0) body refl c.in-Some.ensures.lookup.3.0 c.in-Some.ensures.lookup.1 in
    pushed ∙ ap (λ l. l ++ body ∷ []) c.loop-at.invariant ∙ sym (taken_next c.args.bodies.now c.args.places.now c.loop-at.at-index body c.loop-at-test.true there)
