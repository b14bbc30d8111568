use Rattle.bh_tables.proofs.RemovalTexts.{its_retains_deleted, its_locks_deleted, its_parts_deleted, its_uploads_deleted, its_versions_deleted, its_buckets_deleted, its_keys_deleted, its_tally_deleted, tenant_deleted}
use Rattle.bh_schema.proofs.rows.removal.TenantTable.text.Goals as goal

pub returns-in-Retains : goal.returns-in-Retains
returns-in-Retains c = rw c.in-Retains.is its_retains_deleted

pub returns-in-Locks : goal.returns-in-Locks
returns-in-Locks c = rw c.in-Locks.is its_locks_deleted

pub returns-in-Parts : goal.returns-in-Parts
returns-in-Parts c = rw c.in-Parts.is its_parts_deleted

pub returns-in-Uploads : goal.returns-in-Uploads
returns-in-Uploads c = rw c.in-Uploads.is its_uploads_deleted

pub returns-in-Versions : goal.returns-in-Versions
returns-in-Versions c = rw c.in-Versions.is its_versions_deleted

pub returns-in-Buckets : goal.returns-in-Buckets
returns-in-Buckets c = rw c.in-Buckets.is its_buckets_deleted

pub returns-in-Keys : goal.returns-in-Keys
returns-in-Keys c = rw c.in-Keys.is its_keys_deleted

pub returns-in-Tallies : goal.returns-in-Tallies
returns-in-Tallies c = rw c.in-Tallies.is its_tally_deleted

pub returns-in-Tenants : goal.returns-in-Tenants
returns-in-Tenants c = rw c.in-Tenants.is tenant_deleted
