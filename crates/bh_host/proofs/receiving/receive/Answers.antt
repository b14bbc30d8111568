use Rattle.std.proofs.Common.{ℕ, List, Option, Some, sym, ap, subst, ◌∙◌}
use Rattle.bh_host.specs.Receives.{Receives}
use Rattle.bh_host.proofs.TakenBack.{kept_received, short_received, spoilt_received, wanting_received}
use Rattle.bh_host.proofs.receiving.receive.Goals as goal

pub returns-in-Some-Ended-clause-receives : goal.returns-in-Some-Ended-clause-receives
returns-in-Some-Ended-clause-receives g c =
    let tried = c.in-Err.ensures in
    let back = c.take_back-in-Err.ensures in
    short_received g.H.Storage.IsIntact g.H.Storage.IsOpen g.H.Storage.seen g.H.Storage.left g.H.Storage.IsSoundStore c.args.reading c.args.host.now c.try_receive.new.host c.take_back-in-Err.new.self _
    c.requires.rest tried.intact tried.opened tried.tries.tried.2 back.intact back.opened back.survives back.back c.refuse_unread.ensures.stays.intact c.args.head.now _ _ c.in-Err.trouble c.requires.due tried.tries
    (sym c.broken.ensures ∙ c.in-Some-Ended.is ∙ ap Some c.in-Some-Ended.field-0-is) _ _ c.refuse_unread.ensures.anew

pub returns-in-Ok-TakenBack-clause-receives : goal.returns-in-Ok-TakenBack-clause-receives
returns-in-Ok-TakenBack-clause-receives g c =
    let tried = rw c.in-Ok-TakenBack.field-0-is at c.in-Ok-TakenBack.ensures in
    let (whole, owned, refused, survives, kept) = tried.tries.tried in
    let back = c.take_back.ensures in
    spoilt_received g.H.Storage.IsIntact g.H.Storage.IsOpen g.H.Storage.seen g.H.Storage.left g.H.Storage.IsSoundStore c.args.reading c.args.host.now c.try_receive.new.host c.take_back.new.self _
    c.requires.rest tried.intact tried.opened kept back.intact back.opened back.survives back.back c.answer_anew-told.ensures.stays.intact c.args.head.now _ _ tried.tries.given tried.tries.gives whole _ _ c.requires.due owned refused survives _ _ c.answer_anew-told.ensures.anew

pub returns-in-Ok-Applied-clause-receives : goal.returns-in-Ok-Applied-clause-receives
returns-in-Ok-Applied-clause-receives g c =
    let tries = (rw c.in-Ok-Applied.field-0-is at c.in-Ok-Applied.ensures).tries in
    kept_received g.H.Storage.IsIntact g.H.Storage.IsOpen g.H.Storage.seen g.H.Storage.left c.args.reading c.args.head.now _ _ _ _ tries.given tries.gives tries.tried.0 c.requires.due _ _ tries.tried.1

pub returns-in-None-clause-receives : goal.returns-in-None-clause-receives
returns-in-None-clause-receives g c =
    let tried = c.in-Err.ensures in
    let back = c.take_back-in-Err.ensures in
    subst (λ (t : Option ℕ × List ℕ). Receives g.H.Storage.IsIntact g.H.Storage.IsOpen g.H.Storage.seen g.H.Storage.left c.args.reading c.args.head.now (g.B.Body.coming c.args.body.now) (g.B.Body.coming c.try_receive.new.body) c.args.host.now c.take_back-in-Err.new.self (Some t)) (sym c.wanting.ensures.told)
    (wanting_received g.H.Storage.IsIntact g.H.Storage.IsOpen g.H.Storage.seen g.H.Storage.left g.H.Storage.IsSoundStore c.args.reading c.args.host.now c.try_receive.new.host c.take_back-in-Err.new.self c.take_back-in-Err.new.self
    c.requires.rest tried.intact tried.opened tried.tries.tried.2 back.intact back.opened back.survives back.back (λ i. i) c.args.head.now (g.B.Body.coming c.args.body.now) (g.B.Body.coming c.try_receive.new.body) c.in-Err.trouble c.requires.due tried.tries (sym c.broken.ensures ∙ c.in-None.is))
