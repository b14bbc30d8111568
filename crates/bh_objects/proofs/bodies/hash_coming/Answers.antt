use Rattle.std.proofs.Common.{[], arith}
use Rattle.bh_http.proofs.BodyLemmas.{gives_none, gives_then, if_err, breaks_may}
use Rattle.bh_objects.proofs.bodies.hash_coming.Goals as goal

pub taking-init : goal.taking-init
taking-init g c = record { going = c.requires.going; came = ([], gives_none _ c.requires.going, c.new-hasher.ensures) }

pub taking-preserved : goal.taking-preserved
taking-preserved g c =
    let inv = c.taking.invariant in
    let (given, gives, held) = inv.came in
    record { going = c.in_ok-count.ensures.going; came = (_, gives_then _ _ _ given _ inv.going gives c.in_ok-count.ensures.gives, c.update.ensures given held) }

pub returns-clause-hashed : goal.returns-clause-hashed
returns-clause-hashed g c =
    let inv = c.taking.invariant in
    let (given, gives, held) = inv.came in
    (given, gives, record { due = omega arith; going = inv.going }, c.finalize.ensures given held)

pub returns-in_err-count-clause-stopped : goal.returns-in_err-count-clause-stopped
returns-in_err-count-clause-stopped g c =
    let inv = c.taking.invariant in
    let (given, gives, held) = inv.came in
    if_err c.from_residual.result (_, gives_then _ _ _ given _ inv.going gives c.in_err-count.ensures.none, breaks_may _ c.in_err-count.ensures.broken)
