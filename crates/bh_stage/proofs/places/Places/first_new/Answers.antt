-- One that was passed has a head, or is gone.
use Rattle.std.proofs.Common.{◌≡◌, ◌<◌, false, length, sym, ◌∙◌, arith}
use Rattle.bh_stage.specs.Places.{lacks_head}
use Rattle.bh_stage.proofs.PlacesLemmas.{find_passed, none_more}
use Rattle.bh_stage.proofs.places.Places.first_new.Goals as goal

pub passing-preserved : goal.passing-preserved
passing-preserved g c =
    let it = c.passing in
    let lacks = lacks_head c.args.connections.now in
    let turn = c.index-turn.result.now in
    let there : it.self.begun < length it.self.came.items = omega (arith, c.passing-test.true, c.len.ensures, it.self.came.ok.0) in
    let fails : lacks turn ≡ false = sym c.lacks_head.ensures.is ∙ c.if-lacks_head.false in
    record {
      came = it.invariant.came;
      first = find_passed lacks it.self.came.items it.self.begun turn there c.index-turn.ensures fails ∙ it.invariant.first;
      begun = λ were. none_more lacks it.self.came.items it.self.begun turn there c.index-turn.ensures fails (it.invariant.begun were);
    }
