use Rattle.bh_blocks.proofs.Keeping.{still_inside}
use Rattle.bh_blocks.proofs.blocks.find_copy.Goals as goal

pub find_among-requires-clause-inside : goal.find_among-requires-clause-inside
find_among-requires-clause-inside g c = still_inside _ _ c.in_ok-rows.ensures.reads.within c.in_ok-rows.ensures.reads.same c.requires.inside
