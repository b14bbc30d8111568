use Rattle.bh_tables.proofs.LockTexts.{lock_found}
use Rattle.bh_tables.proofs.VersionTexts.{bucket_shown_first}
use Rattle.bh_tables.proofs.UploadTexts.{bucket_upload_shown}
use Rattle.bh_schema.proofs.rows.contents.Content.text.Goals as goal

pub returns-in-Lock : goal.returns-in-Lock
returns-in-Lock c = rw c.in-Lock.is lock_found

pub returns-in-Version : goal.returns-in-Version
returns-in-Version c = rw c.in-Version.is bucket_shown_first

pub returns-in-Upload : goal.returns-in-Upload
returns-in-Upload c = rw c.in-Upload.is bucket_upload_shown
