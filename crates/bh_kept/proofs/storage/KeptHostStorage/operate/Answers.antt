use Rattle.std.proofs.Common.{[], refl, sym, subst}
use Rattle.sqlite.specs.Files.{over_files}
use Rattle.bh_http.proofs.BodyLemmas.{gives_none, going_may}
use Rattle.bh_machine.specs.Machine.{operated}
use Rattle.bh_view.specs.Bodies.{IsSoundHost}
use Rattle.bh_host.specs.Offers.{offer_view, responded}
use Rattle.bh_storage.specs.Calls.{Operates, UnlessSpoilt}
use Rattle.bh_schema.specs.Storage as storage
use Rattle.bh_dispatch.specs.Seeing as recalling
use Rattle.bh_kept.specs.Kept as kept
use Rattle.bh_kept.proofs.Keeping.{at_work_kept, cuts_kept}
use Rattle.bh_kept.proofs.storage.KeptHostStorage.operate.Goals as goal

pub returns-in-Some-clause-goes_on : goal.returns-in-Some-clause-goes_on
returns-in-Some-clause-goes_on g c = at_work_kept c.args.self.now _ c.in-Some.storage c.operate_in_blocks.new.self c.in-Some.is refl (IsSoundHost g.G.Digester.digest_of) (UnlessSpoilt c.operate_in_blocks.result) c.operate_in_blocks.ensures.goes_on

pub returns-in-Some-clause-operates : goal.returns-in-Some-clause-operates
returns-in-Some-clause-operates g c =
    let new = c.operate_in_blocks.new.self in
    let limits = c.args.self.now.limits in
    subst (λ o. Operates (offer_view (recalling.seen over_files g.P.Shelf new).now) c.args.tenant.now (λ given s. responded (operated (kept.seen g.P.Shelf limits o).limits c.args.at given c.args.operation.now s))
    (storage.IsIntact over_files g.P.Shelf new.host × storage.IsOpen over_files g.P.Shelf new.host) (g.B.Body.coming c.args.body.now) (g.B.Body.coming c.operate_in_blocks.new.body) (kept.seen g.P.Shelf limits o).now (recalling.seen over_files g.P.Shelf new).now c.operate_in_blocks.result) (sym c.in-Some.is)
    c.operate_in_blocks.ensures.operates

pub returns-in-None-clause-operates : goal.returns-in-None-clause-operates
returns-in-None-clause-operates g c =
    let coming = g.B.Body.coming c.args.body.now in
    record { given = []; gives = gives_none coming c.requires.going; decided = going_may coming c.requires.going; carries = λ clean. tt }

pub returns-in-Some-clause-cuts : goal.returns-in-Some-clause-cuts
returns-in-Some-clause-cuts g c = cuts_kept c.args.self.now c.in-Some.storage c.operate_in_blocks.new.self c.in-Some.is g.G.Digester.digest_of _ c.args.operation.now _ _ c.operate_in_blocks.result (rw c.args.self.now.size_is at c.operate_in_blocks.ensures.cuts)

pub returns-in-None-clause-cuts : goal.returns-in-None-clause-cuts
returns-in-None-clause-cuts g c = rw c.in-None.is tt
