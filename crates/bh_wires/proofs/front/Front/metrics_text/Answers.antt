use Rattle.std.proofs.lemmas.Result.{IfOk-weaker}
use Rattle.bh_wires.proofs.front.Front.metrics_text.Goals as goal

pub returns-clause-text : goal.returns-clause-text
returns-clause-text g c = IfOk-weaker c.page_text.result _ _ (λ text same. (c.readings-readings.result, same)) c.page_text.ensures
