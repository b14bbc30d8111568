use Rattle.std.proofs.Common.{◌≡◌, map, take}
use Rattle.bh_docs.specs.Documents.{bucket_view}
use Rattle.bh_schema.specs.Views.{entry_seen}
use Rattle.bh_objects.proofs.buckets.bucket_entries.Given as goal

abbrev pub invariant-loop-bucket : goal.invariant-loop-bucket
invariant-loop-bucket l = map bucket_view l.entries.items ≡ map entry_seen (take l.bucket-index l.listed)
