use Rattle.std.proofs.lemmas.Result.{IfOk-weaker}
use Rattle.bh_moved.proofs.moves.move_tenant.Goals as goal

pub returns-then-not-matches-clause-missing : goal.returns-then-not-matches-clause-missing
returns-then-not-matches-clause-missing g c = IfOk-weaker c.bring_and_commit-outcome.result _ _ (λ refused told is reading. told is (c.take_back.ensures.follows.clean reading)) c.bring_and_commit-outcome.ensures.tells.missing

pub returns-then-not-matches-clause-exists : goal.returns-then-not-matches-clause-exists
returns-then-not-matches-clause-exists g c = IfOk-weaker c.bring_and_commit-outcome.result _ _ (λ refused told is clean. told is (c.take_back-then-not-matches.ensures.follows.clean clean)) c.bring_and_commit-outcome.ensures.tells.exists

pub returns-else-not-matches-clause-moved : goal.returns-else-not-matches-clause-moved
returns-else-not-matches-clause-moved g c = IfOk-weaker c.bring_and_commit-outcome.result _ _ (λ refused told none reading clean. told none (c.take_back.ensures.follows.clean reading) clean) c.bring_and_commit-outcome.ensures.tells.moved

pub returns-then-not-matches-clause-answered : goal.returns-then-not-matches-clause-answered
returns-then-not-matches-clause-answered g c = IfOk-weaker c.bring_and_commit-outcome.result _ _ (λ refused told reading clean. told (c.take_back.ensures.follows.clean reading) (c.take_back-then-not-matches.ensures.follows.clean clean)) c.bring_and_commit-outcome.ensures.tells.answered

pub returns-else-not-matches-clause-answered : goal.returns-else-not-matches-clause-answered
returns-else-not-matches-clause-answered g c = IfOk-weaker c.bring_and_commit-outcome.result _ _ (λ refused told reading clean. told (c.take_back.ensures.follows.clean reading) clean) c.bring_and_commit-outcome.ensures.tells.answered
