-- The operations that change a bucket itself.
use Rattle.std.specs.Prelude.{Bool, true, false}
use Rattle.bh_operation.specs.declared.operation.Operation.{Operation}
use Rattle.bh_operation.specs.declared.operation.Operation.TheVariants.{Bare, ByDocument}
use Rattle.bh_operation.specs.declared.operation.BareOperation.TheVariants.{Bucket, Lifecycle}
use Rattle.bh_operation.specs.declared.operation.BucketOperation.TheVariants.{CreateBucket, DeleteBucket}
use Rattle.bh_operation.specs.declared.operation.LifecycleOperation.TheVariants.{DeleteLifecycle}
use Rattle.bh_operation.specs.declared.operation.DocumentOperation.TheVariants.{PutBucketVersioning, PutLifecycle}

-- whether an operation may change which buckets there are, the state of one or its rule
abbrev pub changes_buckets : Operation → Bool
changes_buckets (Bare (Bucket (CreateBucket bucket locked))) = true
changes_buckets (Bare (Bucket (DeleteBucket bucket))) = true
changes_buckets (Bare (Lifecycle (DeleteLifecycle bucket))) = true
changes_buckets (ByDocument (PutBucketVersioning bucket)) = true
changes_buckets (ByDocument (PutLifecycle bucket)) = true
changes_buckets operation = false
