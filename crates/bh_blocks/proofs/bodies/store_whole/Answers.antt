use Rattle.bh_blocks.proofs.bodies.store_whole.Goals as goal

pub returns-clause-stored : goal.returns-clause-stored
returns-clause-stored g c = c.store_named.ensures.stored g.D.Digester.digest_of c.digest_known-digest.ensures
