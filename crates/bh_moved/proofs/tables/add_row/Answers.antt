use Rattle.std.proofs.lemmas.Result.{on_ok_weaker}
use Rattle.bh_moved.proofs.tables.add_row.Goals as goal

pub returns-in-Keys-clause-added : goal.returns-in-Keys-clause-added
returns-in-Keys-clause-added g c = rw c.in-Keys.is (on_ok_weaker c.add_key.result (λ holds r is next. holds r is) c.add_key.ensures.added)

pub returns-in-Buckets-clause-added : goal.returns-in-Buckets-clause-added
returns-in-Buckets-clause-added g c = rw c.in-Buckets.is (on_ok_weaker c.add_bucket.result (λ holds r is next. holds r is) c.add_bucket.ensures.added)

pub returns-in-Locks-clause-added : goal.returns-in-Locks-clause-added
returns-in-Locks-clause-added g c = rw c.in-Locks.is (on_ok_weaker c.add_lock.result (λ holds r is next. holds r is) c.add_lock.ensures.added)

pub returns-in-Uploads-clause-added : goal.returns-in-Uploads-clause-added
returns-in-Uploads-clause-added g c = rw c.in-Uploads.is (on_ok_weaker c.add_upload.result (λ holds r is next. holds r is) c.add_upload.ensures.added)

pub returns-in-Retains-clause-added : goal.returns-in-Retains-clause-added
returns-in-Retains-clause-added g c = rw c.in-Retains.is (on_ok_weaker c.add_retain.result (λ holds r is next. holds r is) c.add_retain.ensures.added)

pub returns-in-Versions-clause-added : goal.returns-in-Versions-clause-added
returns-in-Versions-clause-added g c = rw c.in-Versions.is c.add_entry.ensures.added

pub returns-in-Parts-clause-added : goal.returns-in-Parts-clause-added
returns-in-Parts-clause-added g c = rw c.in-Parts.is c.add_part.ensures.added
