use Rattle.bh_schema.proofs.Storing.{on_ok}
use Rattle.bh_sweep.proofs.sweep.remove_blocks.Goals as goal

pub returns-clause-keeps : goal.returns-clause-keeps
returns-clause-keeps g c digest clean digests =
    let clean_old = c.remove_unreferenced.ensures.within.follows.clean clean in
    on_ok _ c.in_ok-removed.ensures.ok (c.remove_unreferenced.ensures.keeps digest) clean (c.requires clean_old).sound digests
