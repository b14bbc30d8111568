use Rattle.bh_memo.proofs.memo.Memo.remember_state.Goals as goal

pub returns-in-Ok-clause-buckets : goal.returns-in-Ok-clause-buckets
returns-in-Ok-clause-buckets c = rw (← c.self.view_is, ← c.in-Ok.ensures) c.add.ensures
