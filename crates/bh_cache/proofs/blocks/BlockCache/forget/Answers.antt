use Rattle.bh_cache.proofs.blocks.BlockCache.forget.Goals as goal

pub returns-in-Some-clause-entries : goal.returns-in-Some-clause-entries
returns-in-Some-clause-entries c = rw (← c.self.view_is, c.in-Some.is) c.drop_named.ensures.entries
