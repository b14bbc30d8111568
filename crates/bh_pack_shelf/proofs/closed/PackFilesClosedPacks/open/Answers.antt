use Rattle.bh_pack_shelf.proofs.ListedLemmas.{has_listed}
use Rattle.bh_pack_shelf.proofs.closed.PackFilesClosedPacks.open.Goals as goal

pub returns-clause-kept : goal.returns-clause-kept
returns-clause-kept g c = λ clean.
    has_listed g.S.Held.held c.args.listed.now _ (c.in_ok-shelf.ensures.opened clean) c.in_ok-shelf.ensures.once
