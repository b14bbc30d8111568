use Rattle.bh_tenant_rows.proofs.Texts.{keys_shown, buckets_shown, locks_shown, versions_shown, uploads_shown, parts_shown, retains_shown}
use Rattle.bh_tenant_rows.proofs.reads.Owned.text.Goals as goal

pub returns-in-Keys : goal.returns-in-Keys
returns-in-Keys c = rw c.in-Keys.is keys_shown

pub returns-in-Buckets : goal.returns-in-Buckets
returns-in-Buckets c = rw c.in-Buckets.is buckets_shown

pub returns-in-Locks : goal.returns-in-Locks
returns-in-Locks c = rw c.in-Locks.is locks_shown

pub returns-in-Versions : goal.returns-in-Versions
returns-in-Versions c = rw c.in-Versions.is versions_shown

pub returns-in-Uploads : goal.returns-in-Uploads
returns-in-Uploads c = rw c.in-Uploads.is uploads_shown

pub returns-in-Parts : goal.returns-in-Parts
returns-in-Parts c = rw c.in-Parts.is parts_shown

pub returns-in-Retains : goal.returns-in-Retains
returns-in-Retains c = rw c.in-Retains.is retains_shown
