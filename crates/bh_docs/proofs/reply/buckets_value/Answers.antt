use Rattle.std.proofs.Common.{refl}
use Rattle.std.proofs.lemmas.Result.{IfOk-weaker}
use Rattle.std.proofs.lemmas.Simd.{map-map}
use Rattle.bh_docs.specs.Documents.{bucket_view, bucket_data}
use Rattle.bh_docs.proofs.reply.buckets_value.Goals as goal

pub returns : goal.returns
returns c = rw (map-map bucket_data bucket_view c.args.buckets.now) (IfOk-weaker c.with_entries.result _ _ (λ value is. rw is (rw c.in_ok-document.ensures refl)) c.with_entries.ensures)
