use Rattle.bh_blocks.proofs.blocks.store_piece.Goals as goal

pub returns-clause-stored : goal.returns-clause-stored
returns-clause-stored g c = c.store_known.ensures.stored g.D.Digester.digest_of c.digest-digest.ensures
