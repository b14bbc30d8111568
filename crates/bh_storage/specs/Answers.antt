-- Answers, as contracts see them.
use Rattle.std.specs.String.{string_bytes}
use Rattle.bh_docs.specs.Documents.{usage_view}
use Rattle.bh_docs.specs.declared.reply.Usage.{Usage}
use Rattle.bh_model.specs.Operations as model
use Rattle.bh_tables.specs.Typed.{Tables}
use Rattle.bh_storage.specs.Plans.{to_come}
use Rattle.bh_storage.specs.declared.answer.RemovedEntry.{RemovedEntry}
use Rattle.bh_storage.specs.declared.answer.StoredVersion.{StoredVersion}
use Rattle.bh_storage.specs.declared.answer.CopiedVersion.{CopiedVersion}
use Rattle.bh_storage.specs.declared.answer.ObjectHead.{ObjectHead}
use Rattle.bh_storage.specs.declared.answer.FoundVersion.{FoundVersion}
use Rattle.bh_storage.specs.declared.answer.BegunUpload.{BegunUpload}
use Rattle.bh_storage.specs.declared.answer.CompletedUpload.{CompletedUpload}

abbrev pub removed_answer : RemovedEntry → model.Answer
removed_answer entry = model.Removed entry.id entry.marker

abbrev pub stored_answer : StoredVersion → model.Answer
stored_answer v = model.Stored v.id (string_bytes v.checksum)

abbrev pub copied_answer : CopiedVersion → model.Answer
copied_answer v = model.Copied v.id v.modified (string_bytes v.checksum)

abbrev pub head_answer : ObjectHead → model.Answer
head_answer v = model.Head v.id v.size (string_bytes v.checksum)

-- a version that was found, by the tables from which its bytes are read
abbrev pub found_answer : Tables → FoundVersion → model.Answer
found_answer tables v = model.Object v.head.id v.head.size v.range (to_come v.plan tables) (string_bytes v.head.checksum)

abbrev pub begun_answer : BegunUpload → model.Answer
begun_answer u = model.Begun (string_bytes u.bucket) (string_bytes u.key) u.upload u.abort

abbrev pub completed_answer : CompletedUpload → model.Answer
completed_answer u = model.Completed (string_bytes u.bucket) (string_bytes u.key) u.id (string_bytes u.checksum)

abbrev pub used_answer : Usage → model.Answer
used_answer usage = model.Used (usage_view usage)
