use Rattle.std.proofs.Common.{subst}
use Rattle.std.proofs.lemmas.Result.{IfOk-weaker}
use Rattle.bh_shelf.specs.Listed.{HasListed}
use Rattle.bh_maintenance.proofs.Saved.{backed}
use Rattle.bh_maintenance.proofs.backups.back_up_host.Goals as goal

pub returns : goal.returns
returns g c old found =
    let opened = c.in_ok-packs in
    let files = g.K.ClosedPacks.has c.args.closed in
    IfOk-weaker c.save_host.result _ _
    (λ it saves. saves (backed g.K.Open.Shelf files old c.args.opened opened.packs found
    (λ pure. subst (λ rows. HasListed rows files (g.K.Open.Shelf.kept opened.packs)) c.deref.ensures.value (opened.ensures.kept pure))))
    (c.save_host.ensures files)
