use Rattle.std.proofs.lemmas.Result.{err_from_is_err_and}
use Rattle.bh_http.proofs.BodyLemmas.{breaks_may}
use Rattle.bh_host.proofs.serve.take_whole.Goals as goal

pub returns-in_err-drain-clause-stopped : goal.returns-in_err-drain-clause-stopped
returns-in_err-drain-clause-stopped g c =
    let p = err_from_is_err_and c.from_residual.result c.from_residual.ensures.1 in
    rw p.1 (breaks_may _ c.in_err-drain.ensures.broken)
