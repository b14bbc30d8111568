use Rattle.bh_tables.proofs.UseTexts.{use_inserted, uses_raised, uses_lowered, use_deleted}
use Rattle.bh_blocks.proofs.uses.text_of.Goals as goal

pub returns-in-Added : goal.returns-in-Added
returns-in-Added c = rw c.in-Added.is use_inserted

pub returns-in-Raised : goal.returns-in-Raised
returns-in-Raised c = rw c.in-Raised.is uses_raised

pub returns-in-Lowered : goal.returns-in-Lowered
returns-in-Lowered c = rw c.in-Lowered.is uses_lowered

pub returns-in-Removed : goal.returns-in-Removed
returns-in-Removed c = rw c.in-Removed.is use_deleted
