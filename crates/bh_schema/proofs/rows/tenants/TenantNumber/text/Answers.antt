use Rattle.bh_tables.proofs.TenantTexts.{quota_set, next_entry_set}
use Rattle.bh_tables.proofs.UploadTexts.{next_upload_set}
use Rattle.bh_schema.proofs.rows.tenants.TenantNumber.text.Goals as goal

pub returns-in-Quota : goal.returns-in-Quota
returns-in-Quota c = rw c.in-Quota.is quota_set

pub returns-in-NextUpload : goal.returns-in-NextUpload
returns-in-NextUpload c = rw c.in-NextUpload.is next_upload_set

pub returns-in-NextEntry : goal.returns-in-NextEntry
returns-in-NextEntry c = rw c.in-NextEntry.is next_entry_set
