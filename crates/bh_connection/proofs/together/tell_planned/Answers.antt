use Rattle.std.proofs.Common.{refl, sym}
use Rattle.bh_connection.proofs.together.tell_planned.Goals as goal

pub returns-clause-keeps : goal.returns-clause-keeps
returns-clause-keeps g c =
    let out = c.send_planned.ensures in
    record { same = λ intact opened. (c.requires.open (out.intact intact), out.same (intact, opened)); survives = out.survives }

pub returns-clause-told : goal.returns-clause-told
returns-clause-told g c =
    let out = c.send_planned.ensures in
    let sent = out.sends in
    (sent.reply, record { stamp = sym out.stamp; out = sent.out; took = sent.took; ended = sent.ended; same = refl }, sent.is)
