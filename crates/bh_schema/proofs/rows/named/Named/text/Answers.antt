use Rattle.bh_tables.proofs.KeyTexts.{key_deleted}
use Rattle.bh_tables.proofs.LockTexts.{lock_deleted}
use Rattle.bh_schema.proofs.rows.named.Named.text.Goals as goal

pub returns-in-Key : goal.returns-in-Key
returns-in-Key c = rw c.in-Key.is key_deleted

pub returns-in-Lock : goal.returns-in-Lock
returns-in-Lock c = rw c.in-Lock.is lock_deleted
