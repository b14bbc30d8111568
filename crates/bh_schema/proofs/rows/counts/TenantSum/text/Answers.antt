use Rattle.bh_tables.proofs.KeyTexts.{keys_counted}
use Rattle.bh_tables.proofs.BucketTexts.{buckets_counted}
use Rattle.bh_tables.proofs.UploadTexts.{uploads_counted}
use Rattle.bh_tables.proofs.PartTexts.{parts_summed}
use Rattle.bh_schema.proofs.rows.counts.TenantSum.text.Goals as goal

pub returns-in-Keys : goal.returns-in-Keys
returns-in-Keys c = rw c.in-Keys.is keys_counted

pub returns-in-Buckets : goal.returns-in-Buckets
returns-in-Buckets c = rw c.in-Buckets.is buckets_counted

pub returns-in-Uploads : goal.returns-in-Uploads
returns-in-Uploads c = rw c.in-Uploads.is uploads_counted

pub returns-in-PartBytes : goal.returns-in-PartBytes
returns-in-PartBytes c = rw c.in-PartBytes.is parts_summed
