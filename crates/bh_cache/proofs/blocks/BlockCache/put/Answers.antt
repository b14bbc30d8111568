use Rattle.bh_cache.proofs.blocks.BlockCache.put.Goals as goal

pub returns-in-Some-clause-entries : goal.returns-in-Some-clause-entries
returns-in-Some-clause-entries c = rw (← c.self.view_is, c.in-Some.is) c.add.ensures.entries
