use Rattle.std.proofs.Common.{refl, map}
use Rattle.bh_docs.specs.Documents.{bucket_view, bucket_data}
use Rattle.bh_docs.proofs.Floats.{items_have_float-map}
use Rattle.bh_docs.proofs.reply.buckets_document.Goals as goal

pub print-requires : goal.print-requires
print-requires c = rw (c.in_ok-document.ensures, items_have_float-map bucket_data (λ b. refl) (map bucket_view c.args.buckets.now)) refl
