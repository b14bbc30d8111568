use Rattle.bh_blocks.proofs.drafts.store_waiting.Goals as goal

pub returns-clause-stored : goal.returns-clause-stored
returns-clause-stored g c = λ clean. rw c.deref.ensures.value at c.in_ok-store_piece.ensures.stored clean
